use Rattle.std.proofs.Common.{◌≡◌, ◌==◌, ◌&&◌, ◌||◌, Bool, true, false, ℕ, refl, arith, ap, ◌∙◌, sym}
use Rattle.std.proofs.lemmas.Grind.{common_steps}
use Rattle.std.proofs.lemmas.Bool.Decides.{nat_tests}
use Rattle.history.specs.Locks.{wanted}
use Rattle.history.specs.Waits.{wants_against}
use Rattle.lock_table.proofs.causes.joined.Goals as goal

same_from_test : (a b : ℕ) → (a == b) ≡ true → a ≡ b
same_from_test a b t = grind (arith, nat_tests)

-- a further part that is false where it counts changes nothing
kept_so : (a b d : Bool) → (b ≡ true → d ≡ false) → a ≡ (a || (b && d))
kept_so true b d h = refl
kept_so false false d h = refl
kept_so false true d h = sym (h refl)

pub returns-then-stands_before : goal.returns-then-stands_before
returns-then-stands_before c h q st z =
    let yes : wants_against h c.args.x c.args.table c.args.mode (wanted h c.args.y) ≡ true = sym (c.stands_before.ensures.is h q st) ∙ c.if-stands_before.true in
    grind (arith, common_steps, nat_tests, c.with.ensures z, yes)

pub returns-else-stands_before : goal.returns-else-stands_before
returns-else-stands_before c h q st z =
    let no_wait : wants_against h c.args.x c.args.table c.args.mode (wanted h c.args.y) ≡ false = sym (c.stands_before.ensures.is h q st) ∙ c.if-stands_before.false in
    kept_so _ _ _ (λ e. ap (λ i. wants_against h c.args.x c.args.table c.args.mode (wanted h i)) (same_from_test z c.args.y e) ∙ no_wait)
