use Rattle.std.proofs.Common.{sym, ◌∙◌, subst}
use Rattle.std.proofs.lemmas.Result.{err_from_is_err_and}
use Rattle.spec_reader.specs.Finds.{Found}
use Rattle.spec_reader.proofs.Firsts.{first_found, first_passes, first_end}
use Rattle.spec_reader.proofs.check.check_all.Goals as goal

pub returns-in_err-check : goal.returns-in_err-check
returns-in_err-check g c =
    let p = err_from_is_err_and c.from_residual.result c.from_residual.ensures.1 in
    rw (p.1, p.2) (subst (Found c.in_err-check.field-0.0) c.loop-i.invariant
    (first_found (g.C.Check.finds c.args.check.now) c.args.items.now c.loop-i.i c.index-items-i.result c.in_err-check.field-0.0 c.loop-i-test.true (sym c.index-items-i.is) c.in_err-check.ensures))

pub loop-i-preserved : goal.loop-i-preserved
loop-i-preserved g c =
    first_passes (g.C.Check.finds c.args.check.now) c.args.items.now c.loop-i.i c.index-items-i.result c.loop-i-test.true (sym c.index-items-i.is) c.in_ok-check.ensures ∙ c.loop-i.invariant

pub returns : goal.returns
returns g c = sym c.loop-i.invariant ∙ first_end (g.C.Check.finds c.args.check.now) c.args.items.now c.loop-i.i c.loop-i-test.false
