use Rattle.std.proofs.Common.{◌≡◌, ◌==◌, ◌&&◌, ◌||◌, not, Bool, true, false, ap, refl, ◌∙◌, nat_eq, arith}
use Rattle.std.specs.List.{list_any}
use Rattle.std.proofs.lemmas.Grind.{common_steps}
use Rattle.std.proofs.lemmas.Bool.Decides.{nat_tests}
use Rattle.history.specs.Locks.{queue, holds_against, wanted}
use Rattle.history.specs.Waits.{before, wants_against}
use Rattle.lock_table.proofs.Readiness.{before_all}
use Rattle.lock_table.proofs.laws.first_come_first_served.Goals as goal

either : (a : Bool) → (a || true) ≡ true
either true = refl
either false = refl

pub returns : goal.returns
returns c h x y table asked waited apart idle queued want conflict unheld own =
    let other : (y == x) ≡ false = grind (arith, common_steps, nat_tests) in
    let self : (table.number == table.number) ≡ true = grind (arith, common_steps, nat_tests) in
    let earlier : list_any (nat_eq y) (before x (queue h)) ≡ true = ap (list_any (nat_eq y)) (before_all (queue h) x idle) ∙ queued in
    let against : wants_against h x table.number asked (wanted h y) ≡ true = rw (want, self, conflict, own) refl in
    rw (unheld, other, earlier, against) (either _)
