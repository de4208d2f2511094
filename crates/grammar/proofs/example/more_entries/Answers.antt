use Rattle.std.proofs.Common.{◌-◌, ◌+◌, length, arith, sym, subst, ◌∙◌}
use Rattle.std.proofs.lemmas.Result.{err_from_is_err_and}
use Rattle.grammar.specs.Gives.{Refuses}
use Rattle.grammar.proofs.Steps.{repeats_more, repeats_done, repeats_end, repeats_fail}
use Rattle.grammar.proofs.example.more_entries.Goals as goal

pub returns-in_err-more : goal.returns-in_err-more
returns-in_err-more c =
    let p = err_from_is_err_and c.from_residual.result c.from_residual.ensures.1 in
    rw (p.1, p.2) (subst (Refuses c.in_err-more.field-0.0) c.loop.invariant
    (repeats_fail _ _ _ _ (length c.args.tokens.now - c.loop.counter) (length c.args.tokens.now - c.loop.counter - 1) _ _ _ (omega arith) c.in_err-more.ensures))

pub returns-then-not-more : goal.returns-then-not-more
returns-then-not-more c =
    sym c.loop.invariant ∙ repeats_done _ _ _ _ (length c.args.tokens.now - c.loop.counter) (length c.args.tokens.now - c.loop.counter - 1) _ _ c.in_ok-more.more _ _ (omega arith) c.if-not-more.true c.in_ok-more.ensures

pub loop-preserved : goal.loop-preserved
loop-preserved c =
    repeats_more _ _ _ _ (length c.args.tokens.now - c.loop.counter) (length c.args.tokens.now - (c.loop.counter + 1)) _ _ c.in_ok-more.more _ _ (omega arith) c.if-not-more.false c.in_ok-more.ensures ∙ c.loop.invariant

pub returns : goal.returns
returns c = sym c.loop.invariant ∙ repeats_end _ _ _ _ (length c.args.tokens.now - c.loop.counter) _ _ (omega arith)
