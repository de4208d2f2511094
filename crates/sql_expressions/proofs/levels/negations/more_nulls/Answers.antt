use Rattle.std.proofs.Common.{◌-◌, ◌+◌, length, arith, sym, subst, ◌∙◌}
use Rattle.std.proofs.lemmas.Result.{err_from_is_err_and}
use Rattle.grammar.specs.Gives.{Refuses}
use Rattle.grammar.proofs.Steps.{repeats_more, repeats_done, repeats_end, repeats_fail}
use Rattle.sql_expressions.proofs.levels.negations.more_nulls.Goals as goal

pub returns-in_err-more-clause-reads : goal.returns-in_err-more-clause-reads
returns-in_err-more-clause-reads c =
    let p = err_from_is_err_and c.from_residual.result c.from_residual.ensures.1 in
    rw (p.1, p.2) (subst (Refuses c.in_err-more.field-0.0) c.loop.invariant.reads
    (repeats_fail _ _ _ _ (length c.args.tokens.now - c.loop.counter) (length c.args.tokens.now - c.loop.counter - 1) _ _ _ (omega arith) c.in_err-more.ensures.reads))

pub returns-then-not-more-clause-reads : goal.returns-then-not-more-clause-reads
returns-then-not-more-clause-reads c =
    sym c.loop.invariant.reads ∙ repeats_done _ _ _ _ (length c.args.tokens.now - c.loop.counter) (length c.args.tokens.now - c.loop.counter - 1) _ _ c.in_ok-more.more _ _ (omega arith) c.if-not-more.true c.in_ok-more.ensures.reads

pub loop-preserved : goal.loop-preserved
loop-preserved c = record {
  reads = repeats_more _ _ _ _ (length c.args.tokens.now - c.loop.counter) (length c.args.tokens.now - (c.loop.counter + 1)) _ _ c.in_ok-more.more _ _ (omega arith) c.if-not-more.false c.in_ok-more.ensures.reads ∙ c.loop.invariant.reads;
  within = c.in_ok-more.ensures.within;
}

pub returns-clause-reads : goal.returns-clause-reads
returns-clause-reads c = sym c.loop.invariant.reads ∙ repeats_end _ _ _ _ (length c.args.tokens.now - c.loop.counter) _ _ (omega arith)
