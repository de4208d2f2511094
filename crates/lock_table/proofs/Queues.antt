-- A queue up to one session.
use Rattle.std.proofs.Common.{◌≡◌, ◌≢◌, ℕ, ◌+◌, ◌<◌, ◌==◌, ◌&&◌, not, Bool, true, false, arith, refl, ap, ◌∙◌, List, [], ◌∷◌, length, drop, slice_index_or, add-one, drop-cons}
use Rattle.std.proofs.lemmas.Grind.{common_steps}
use Rattle.std.proofs.lemmas.Bool.Decides.{nat_tests}
use Rattle.pg_values.specs.declared.ids.TableNo.{TableNo}
use Rattle.pg_values.specs.declared.lock_mode.LockMode.{LockMode}
use Rattle.history.specs.declared.wait.Wanted.TheVariants.{Lock}
use Rattle.history.specs.Locks.{LockEvents, holds, holds_against, queue}
use Rattle.history.specs.Waits.{before, stands_against, IsFree}

first_other : (x y : ℕ) (ys : List ℕ) → y ≢ x → before x (y ∷ ys) ≡ y ∷ before x ys
first_other x y ys ne = grind (arith, common_steps, nat_tests)

pub before_more : (q : List ℕ) (i x d : ℕ) → i < length q → slice_index_or q i d ≢ x → before x (drop i q) ≡ slice_index_or q i d ∷ before x (drop (i + 1) q)
before_more q i x d lt ne =
    let split : drop i q ≡ slice_index_or q i d ∷ drop (i + 1) q = rw add-one (drop-cons q i d lt) in
    ap (before x) split ∙ first_other x _ _ ne

pub no_length : (q : List ℕ) → (length q == 0) ≡ true → q ≡ []
no_length [] e = refl
no_length (x ∷ q) e = let left : length (x ∷ q) ≡ 0 = grind (arith, nat_tests, e) in absurd (omega (arith, left))

and_false : (b : Bool) → (b && false) ≡ false
and_false true = refl
and_false false = refl

-- where nobody waits, those who hold nothing against it do not stand against it
pub nobody_stands : (h : LockEvents) (x t y : ℕ) (m : LockMode) → queue h ≡ [] → holds_against h y t m ≡ false → stands_against h x t m y ≡ false
nobody_stands h x t y m idle none = rw (none, idle) (and_false (not (y == x)))

pub none_causes : (h : LockEvents) (x : ℕ) (table : TableNo) (m : LockMode) → ((y : ℕ) → stands_against h x table.number m y ≡ false) → IsFree h x (Lock table m)
none_causes h x table m none y = rw (none y) (and_false (not (holds h x table.number m)))
