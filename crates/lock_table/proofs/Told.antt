-- Answers of a search, at what a history tells.
use Rattle.std.proofs.Common.{◌≡◌, ℕ, Bool, List, Option, Some, None, IfSome, sym, ap, subst}
use Rattle.pg_values.specs.Lists.{listed}
use Rattle.pg_values.specs.declared.session_list.SessionList.{SessionList}
use Rattle.pg_values.specs.declared.session_set.SessionSet.{SessionSet}
use Rattle.history.specs.declared.wait.Wanted.{Wanted}
use Rattle.history.specs.Locks.{LockEvents}
use Rattle.history.specs.Waits.{waits_for, IsCycle, IsLeastCycle}
use Rattle.lock_table.specs.Graph.{edge}
use Rattle.lock_table.specs.Stands.{Tells}
use Rattle.lock_table.proofs.Rows.{least_same, cycle_same}

-- slices of what is kept tell the same
pub tells_at : (a a' : List SessionSet) (b b' : List (Option Wanted)) (d d' : List ℕ) (h : LockEvents) → a' ≡ a → b' ≡ b → d' ≡ d → Tells a b d h → Tells a' b' d' h
tells_at a a' b b' d d' h ea eb ed told = rw (ea, eb, ed) told

pub found_told : (r : Option SessionList) (rows : List SessionSet) (s : ℕ) (a : List SessionSet) (b : List (Option Wanted)) (d : List ℕ) → ((h : LockEvents) → Tells a b d h → (x y : ℕ) → edge rows x y ≡ waits_for h x y)
    → IfSome r (λ cycle. IsLeastCycle (edge rows) s (listed cycle)) → IfSome r (λ cycle. (h : LockEvents) → Tells a b d h → IsLeastCycle (waits_for h) s (listed cycle))
found_told None rows s a b d same f = f
found_told (Some cycle) rows s a b d same f = λ h told. least_same (edge rows) (waits_for h) s (listed cycle) (same h told) f

pub none_told : (rows : List SessionSet) (s : ℕ) (h : LockEvents) → ((x y : ℕ) → edge rows x y ≡ waits_for h x y) → ((cycle : List ℕ) → IsCycle (edge rows) s cycle → ⊥) → (cycle : List ℕ) → IsCycle (waits_for h) s cycle → ⊥
none_told rows s h same none cycle c = none cycle (cycle_same (waits_for h) (edge rows) s cycle (λ x y. sym (same x y)) c)
