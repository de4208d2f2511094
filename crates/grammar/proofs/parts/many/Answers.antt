use Rattle.std.proofs.Common.{◌-◌, ◌+◌, length, arith, sym, subst, ◌∙◌}
use Rattle.std.proofs.lemmas.Result.{err_from_is_err_and}
use Rattle.grammar.specs.Gives.{Refuses}
use Rattle.grammar.proofs.StepLaws.{step_more, step_done, step_end, step_fails}
use Rattle.grammar.proofs.parts.many.Goals as goal

pub returns-in_err-more : goal.returns-in_err-more
returns-in_err-more g c =
    let p = err_from_is_err_and c.from_residual.result c.from_residual.ensures.1 in
    rw (p.1, p.2) (subst (Refuses c.in_err-more.field-0.0) c.loop.invariant
    (step_fails _ _ (length c.args.tokens.now - c.loop.counter) (length c.args.tokens.now - c.loop.counter - 1) _ _ _ (omega arith) c.in_err-more.ensures))

pub returns-then-not-more : goal.returns-then-not-more
returns-then-not-more g c = sym c.loop.invariant ∙ step_done _ _ _ _ _ c.in_ok-more.more _ _ c.if-not-more.true c.in_ok-more.ensures

pub loop-preserved : goal.loop-preserved
loop-preserved g c =
    step_more _ _ (length c.args.tokens.now - c.loop.counter) (length c.args.tokens.now - (c.loop.counter + 1)) _ _ c.in_ok-more.more _ _ (omega arith) c.if-not-more.false c.in_ok-more.ensures ∙ c.loop.invariant

pub returns : goal.returns
returns g c = sym c.loop.invariant ∙ step_end _ _ (length c.args.tokens.now - c.loop.counter) _ _ (omega arith)
