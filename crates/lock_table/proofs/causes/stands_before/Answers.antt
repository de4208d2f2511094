use Rattle.std.proofs.Common.{◌≡◌, ap, ◌∙◌, arith}
use Rattle.std.proofs.lemmas.Grind.{common_steps, elements}
use Rattle.history.specs.Locks.{wanted}
use Rattle.history.specs.Waits.{wants_against}
use Rattle.lock_table.proofs.causes.stands_before.Goals as goal

pub returns-in-Some-clause-is : goal.returns-in-Some-clause-is
returns-in-Some-clause-is c h q st =
    let w : c.in-Some.want.now ≡ wanted h c.args.y = grind (arith, common_steps, elements, st.wants c.args.y) in
    c.is_any_against.ensures h c.args.waits.now q st ∙ ap (wants_against h c.args.x c.args.table c.args.mode) w
