use Rattle.std.proofs.Common.{◌≡◌, ◌-◌, ◌+◌, suc, length, arith, sym, subst, ◌∙◌}
use Rattle.std.proofs.lemmas.Result.{err_from_is_err_and}
use Rattle.grammar.specs.Gives.{Refuses}
use Rattle.grammar.specs.Repeats.{always}
use Rattle.grammar.proofs.Steps.{repeats_more, repeats_done, repeats_end, repeats_fail}
use Rattle.grammar.proofs.WholeLaws.{gives_by}
use Rattle.sql_expressions.proofs.Deeper.{compared_deeper, named_deeper, negation_deeper, operand_deeper, part_deeper, tested_deeper, unary_deeper}
use Rattle.sql_expressions.proofs.FirstOperands.{at_operand, at_negation, not_begins, list_read, first_refuses, then_reads, no_joint, all_read, part_ended, step_reads, step_refuses, step_skips}
use Rattle.sql_tokens.specs.Classes.{a}
use Rattle.sql_tokens.specs.declared.kind.TokenKind.TheVariants as kinds
use Rattle.sql_expressions.specs.Grammar as grammar
use Rattle.sql_expressions.specs.Levels as levels
use Rattle.sql_expressions.specs.Views as views
use Rattle.sql_expressions.proofs.levels.+levels.Goals as goal
use Rattle.sql_expressions.proofs.levels.+levels.Goals.{climbs::climbed-then-behind_comes+in_ok-after, climbs::climbed-else-behind_comes}

-- one less of the depth that is left
pub operands::unary-returns-then-nested_comes-clause-reads : goal.operands::unary-returns-then-nested_comes-clause-reads
operands::unary-returns-then-nested_comes-clause-reads t c =
    gives_by _ c.nested.result _ _ (unary_deeper c.args.text.now c.args.budget (c.args.budget - 1) (omega arith) c.args.tokens.now (sym c.nested_comes.ensures ∙ c.if-nested_comes.true)) c.nested.ensures.reads

pub operands::named-returns-then-comes-clause-reads : goal.operands::named-returns-then-comes-clause-reads
operands::named-returns-then-comes-clause-reads t c =
    gives_by _ c.called.result _ _ (named_deeper c.args.text.now c.args.budget (c.args.budget - 1) (omega arith) c.args.tokens.now _ _ c.in_ok-kind.ensures (sym c.comes.ensures ∙ c.if-comes.true)) c.called.ensures.reads

pub negations::inverted_first-returns-clause-reads : goal.negations::inverted_first-returns-clause-reads
negations::inverted_first-returns-clause-reads t c =
    gives_by _ c.inverted_by.result _ _ (negation_deeper c.args.text.now c.args.budget (c.args.budget - 1) (omega arith) c.args.tokens.now c.requires) c.inverted_by.ensures.reads

pub sums::right_operand-returns-clause-reads : goal.sums::right_operand-returns-clause-reads
sums::right_operand-returns-clause-reads t c =
    gives_by _ c.at_level.result _ _ (operand_deeper c.args.text.now c.args.budget (c.args.budget - 1) (omega arith) c.args.tokens.now c.args.chain _ c.operand_level.ensures) c.at_level.ensures.reads

pub conjunctions::right_part-returns-clause-reads : goal.conjunctions::right_part-returns-clause-reads
conjunctions::right_part-returns-clause-reads t c =
    gives_by _ c.at_level.result _ _ (part_deeper c.args.text.now c.args.budget (c.args.budget - 1) (omega arith) c.args.tokens.now c.args.joint _ c.part_level.ensures) c.at_level.ensures.reads

pub comparisons::maybe_tested-returns-clause-reads : goal.comparisons::maybe_tested-returns-clause-reads
comparisons::maybe_tested-returns-clause-reads t c =
    gives_by _ c.tested.result _ _ (tested_deeper c.args.text.now c.args.budget (c.args.budget - 1) (omega arith) c.args.tokens.now _ (sym c.test_comes.ensures ∙ c.if-not-test_comes.false) c.if-left-budget.false) c.tested.ensures.reads

pub comparisons::maybe_compared-returns-clause-reads : goal.comparisons::maybe_compared-returns-clause-reads
comparisons::maybe_compared-returns-clause-reads t c =
    gives_by _ c.compared.result _ _ (compared_deeper c.args.text.now c.args.budget (c.args.budget - 1) (omega arith) c.args.tokens.now _ (sym c.comparison_comes.ensures ∙ c.if-not-comparison_comes.false) c.if-left-budget.false) c.compared.ensures.reads

-- items with commas between
pub calls::more_items-returns-in_err-more-clause-reads : goal.calls::more_items-returns-in_err-more-clause-reads
calls::more_items-returns-in_err-more-clause-reads t c =
    let p = err_from_is_err_and c.from_residual.result c.from_residual.ensures.1 in
    rw (p.1, p.2) (subst (Refuses c.in_err-more.field-0.0) c.loop.invariant.reads
    (repeats_fail _ _ _ _ (length c.args.tokens.now - c.loop.counter) (length c.args.tokens.now - c.loop.counter - 1) _ _ _ (omega arith) c.in_err-more.ensures.reads))

pub calls::more_items-returns-then-not-more-clause-reads : goal.calls::more_items-returns-then-not-more-clause-reads
calls::more_items-returns-then-not-more-clause-reads t c =
    sym c.loop.invariant.reads ∙ repeats_done _ _ _ _ (length c.args.tokens.now - c.loop.counter) (length c.args.tokens.now - c.loop.counter - 1) _ _ c.in_ok-more.more _ _ (omega arith) c.if-not-more.true c.in_ok-more.ensures.reads

pub calls::more_items-loop-preserved : goal.calls::more_items-loop-preserved
calls::more_items-loop-preserved t c = record {
  reads = repeats_more _ _ _ _ (length c.args.tokens.now - c.loop.counter) (length c.args.tokens.now - (c.loop.counter + 1)) _ _ c.in_ok-more.more _ _ (omega arith) c.if-not-more.false c.in_ok-more.ensures.reads ∙ c.loop.invariant.reads;
  within = c.in_ok-more.ensures.within;
}

pub calls::more_items-returns-clause-reads : goal.calls::more_items-returns-clause-reads
calls::more_items-returns-clause-reads t c = sym c.loop.invariant.reads ∙ repeats_end _ _ _ _ (length c.args.tokens.now - c.loop.counter) _ _ (omega arith)

-- operands behind signs
pub sums::more_operands-returns-in_err-more-clause-reads : goal.sums::more_operands-returns-in_err-more-clause-reads
sums::more_operands-returns-in_err-more-clause-reads t c =
    let p = err_from_is_err_and c.from_residual.result c.from_residual.ensures.1 in
    rw (p.1, p.2) (subst (Refuses c.in_err-more.field-0.0) c.loop.invariant.reads
    (repeats_fail _ _ _ _ (length c.args.tokens.now - c.loop.counter) (length c.args.tokens.now - c.loop.counter - 1) _ _ _ (omega arith) c.in_err-more.ensures.reads))

pub sums::more_operands-returns-then-not-more-clause-reads : goal.sums::more_operands-returns-then-not-more-clause-reads
sums::more_operands-returns-then-not-more-clause-reads t c =
    sym c.loop.invariant.reads ∙ repeats_done _ _ _ _ (length c.args.tokens.now - c.loop.counter) (length c.args.tokens.now - c.loop.counter - 1) _ _ c.in_ok-more.more _ _ (omega arith) c.if-not-more.true c.in_ok-more.ensures.reads

pub sums::more_operands-loop-preserved : goal.sums::more_operands-loop-preserved
sums::more_operands-loop-preserved t c = record {
  reads = repeats_more _ _ _ _ (length c.args.tokens.now - c.loop.counter) (length c.args.tokens.now - (c.loop.counter + 1)) _ _ c.in_ok-more.more _ _ (omega arith) c.if-not-more.false c.in_ok-more.ensures.reads ∙ c.loop.invariant.reads;
  within = c.in_ok-more.ensures.within;
}

pub sums::more_operands-returns-clause-reads : goal.sums::more_operands-returns-clause-reads
sums::more_operands-returns-clause-reads t c = sym c.loop.invariant.reads ∙ repeats_end _ _ _ _ (length c.args.tokens.now - c.loop.counter) _ _ (omega arith)

-- parts behind ANDs or ORs
pub conjunctions::more_parts-returns-in_err-more-clause-reads : goal.conjunctions::more_parts-returns-in_err-more-clause-reads
conjunctions::more_parts-returns-in_err-more-clause-reads t c =
    let p = err_from_is_err_and c.from_residual.result c.from_residual.ensures.1 in
    rw (p.1, p.2) (subst (Refuses c.in_err-more.field-0.0) c.loop.invariant.reads
    (repeats_fail _ _ _ _ (length c.args.tokens.now - c.loop.counter) (length c.args.tokens.now - c.loop.counter - 1) _ _ _ (omega arith) c.in_err-more.ensures.reads))

pub conjunctions::more_parts-returns-then-not-more-clause-reads : goal.conjunctions::more_parts-returns-then-not-more-clause-reads
conjunctions::more_parts-returns-then-not-more-clause-reads t c =
    sym c.loop.invariant.reads ∙ repeats_done _ _ _ _ (length c.args.tokens.now - c.loop.counter) (length c.args.tokens.now - c.loop.counter - 1) _ _ c.in_ok-more.more _ _ (omega arith) c.if-not-more.true c.in_ok-more.ensures.reads

pub conjunctions::more_parts-loop-preserved : goal.conjunctions::more_parts-loop-preserved
conjunctions::more_parts-loop-preserved t c = record {
  reads = repeats_more _ _ _ _ (length c.args.tokens.now - c.loop.counter) (length c.args.tokens.now - (c.loop.counter + 1)) _ _ c.in_ok-more.more _ _ (omega arith) c.if-not-more.false c.in_ok-more.ensures.reads ∙ c.loop.invariant.reads;
  within = c.in_ok-more.ensures.within;
}

pub conjunctions::more_parts-returns-clause-reads : goal.conjunctions::more_parts-returns-clause-reads
conjunctions::more_parts-returns-clause-reads t c = sym c.loop.invariant.reads ∙ repeats_end _ _ _ _ (length c.args.tokens.now - c.loop.counter) _ _ (omega arith)

pub calls::items-returns-in_err-rest-clause-reads : goal.calls::items-returns-in_err-rest-clause-reads
calls::items-returns-in_err-rest-clause-reads t c =
    let p = err_from_is_err_and c.from_residual.result c.from_residual.ensures.1 in
    rw (p.1, p.2) (first_refuses _ _ _ (list_read (grammar.rules c.args.text.now c.args.below).expression c.args.tokens.now) c.in_err-rest.field-0.0 c.in_err-rest.ensures.reads)

pub calls::items-returns-clause-reads : goal.calls::items-returns-clause-reads
calls::items-returns-clause-reads t c =
    gives_by _ c.more_items.result _ _ (then_reads _ _ _ (list_read (grammar.rules c.args.text.now c.args.below).expression c.args.tokens.now) _ c.in_ok-rest.ensures.reads) c.more_items.ensures.reads

-- behind the first operand
pub climbs::at_level-returns-in_err-rest-clause-reads : goal.climbs::at_level-returns-in_err-rest-clause-reads
climbs::at_level-returns-in_err-rest-clause-reads t c =
    let p = err_from_is_err_and c.from_residual.result c.from_residual.ensures.1 in
    rw (p.1, p.2) (first_refuses _ _ _ (at_operand c.args.text.now c.args.budget c.args.tokens.now c.args.level (sym c.not_comes.ensures ∙ c.if-not_comes.false)) c.in_err-rest.field-0.0 c.in_err-rest.ensures.reads)

pub climbs::at_level-returns-clause-reads : goal.climbs::at_level-returns-clause-reads
climbs::at_level-returns-clause-reads t c =
    gives_by _ c.climbed.result _ _
    (then_reads _ _ _ (at_operand c.args.text.now c.args.budget c.args.tokens.now c.args.level (sym c.not_comes.ensures ∙ c.if-not_comes.false)) _ c.in_ok-rest.ensures.reads)
    c.climbed.ensures.reads

pub climbs::at_level-returns-then-part_ends-clause-reads : goal.climbs::at_level-returns-then-part_ends-clause-reads
climbs::at_level-returns-then-part_ends-clause-reads t c =
    then_reads _ _ _ (at_operand c.args.text.now c.args.budget c.args.tokens.now c.args.level (sym c.not_comes.ensures ∙ c.if-not_comes.false)) _ c.in_ok-rest.ensures.reads
    ∙ part_ended c.args.text.now c.args.budget 0 (views.reach c.args.level - 0) _ _ (sym c.part_ends.ensures ∙ c.if-part_ends.true)

-- behind a NOT
pub climbs::inverted_level-inverted_first-requires : goal.climbs::inverted_level-inverted_first-requires
climbs::inverted_level-inverted_first-requires t c = (omega arith, not_begins c.args.level c.args.tokens.now c.requires)

pub climbs::inverted_level-returns-in_err-rest-clause-reads : goal.climbs::inverted_level-returns-in_err-rest-clause-reads
climbs::inverted_level-returns-in_err-rest-clause-reads t c =
    let p = err_from_is_err_and c.from_residual.result c.from_residual.ensures.1 in
    rw (p.1, p.2) (first_refuses _ _ _ (at_negation c.args.text.now c.args.budget c.args.tokens.now c.args.level c.requires) c.in_err-rest.field-0.0 c.in_err-rest.ensures.reads)

pub climbs::inverted_level-returns-clause-reads : goal.climbs::inverted_level-returns-clause-reads
climbs::inverted_level-returns-clause-reads t c =
    gives_by _ c.climbed.result _ _
    (then_reads _ _ _ (at_negation c.args.text.now c.args.budget c.args.tokens.now c.args.level c.requires) _ c.in_ok-rest.ensures.reads)
    c.climbed.ensures.reads

-- one place after another
pub climbs::climbed-returns-in_err-after-clause-reads : goal.climbs::climbed-returns-in_err-after-clause-reads
climbs::climbed-returns-in_err-after-clause-reads t c =
    let p = err_from_is_err_and c.from_residual.result c.from_residual.ensures.1 in
    rw (p.1, p.2) (subst (Refuses c.in_err-after.field-0.0) c.loop-place.invariant.reads
    (step_refuses c.args.text.now c.args.budget c.loop-place.place (c.loop-place.place + 1) (views.reach c.args.level - c.loop-place.place) (views.reach c.args.level - (c.loop-place.place + 1))
    (omega (arith, c.loop-place-test.true, c.reach-place-end.ensures)) (omega arith) _ c.behind_at-behind.ensures _ _ c.in_err-after.field-0.0 c.in_err-after.ensures.reads))

pub climbs::climbed-loop-place-preserved : goal.climbs::climbed-loop-place-preserved
climbs::climbed-loop-place-preserved t c =
    let left_over : views.reach c.args.level - c.loop-place.place ≡ suc (views.reach c.args.level - (c.loop-place.place + 1)) = omega (arith, c.loop-place-test.true, c.reach-place-end.ensures) in
    let next : c.loop-place.place + 1 ≡ suc c.loop-place.place = omega arith in
    elim c.if-behind_comes.branch [
      | climbs::climbed-then-behind_comes+in_ok-after w ↦
          let there = step_reads c.args.text.now c.args.budget c.loop-place.place (c.loop-place.place + 1) (views.reach c.args.level - c.loop-place.place) (views.reach c.args.level - (c.loop-place.place + 1))
          left_over next _ c.behind_at-behind.ensures _ _ _ _ w.in_ok-after.ensures.reads in
          rw (w.left-is, w.rest-is) (record { reads = there ∙ c.loop-place.invariant.reads; within = w.in_ok-after.ensures.within })
      | climbs::climbed-else-behind_comes w ↦
          let skipped = step_skips c.args.text.now c.args.budget c.loop-place.place (c.loop-place.place + 1) (views.reach c.args.level - c.loop-place.place) (views.reach c.args.level - (c.loop-place.place + 1))
          left_over next _ c.behind_at-behind.ensures _ _ (sym c.behind_comes.ensures ∙ w.if-behind_comes.false) in
          rw (w.left-is, w.rest-is) (record { reads = skipped ∙ c.loop-place.invariant.reads; within = c.loop-place.invariant.within })
    ]

pub climbs::climbed-returns-clause-reads : goal.climbs::climbed-returns-clause-reads
climbs::climbed-returns-clause-reads t c =
    sym c.loop-place.invariant.reads
    ∙ all_read c.args.text.now c.args.budget c.loop-place.place (views.reach c.args.level - c.loop-place.place) _ _ (omega (arith, c.loop-place-test.false, c.reach-place-end.ensures))

-- no AND and no OR
pub conjunctions::more_of_joint-returns-then-not-joint_comes-clause-reads : goal.conjunctions::more_of_joint-returns-then-not-joint_comes-clause-reads
conjunctions::more_of_joint-returns-then-not-joint_comes-clause-reads t c =
    no_joint c.args.text.now c.args.joint c.args.budget _ c.args.tokens.now (sym c.joint_comes.ensures ∙ c.if-not-joint_comes.true)
