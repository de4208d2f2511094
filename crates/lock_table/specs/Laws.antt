-- What holds of all locks and waits.
use Rattle.std.specs.Prelude.{◌≡◌, ◌≢◌, ℕ, ◌<◌, nat_eq, true, false, List, ◌∷◌, Some}
use Rattle.std.specs.List.{list_any}
use Rattle.pg_values.specs.Modes.{conflicts}
use Rattle.pg_values.specs.declared.ids.TableNo.{TableNo}
use Rattle.pg_values.specs.declared.lock_mode.LockMode.{LockMode}
use Rattle.history.specs.declared.wait.Wanted.TheVariants.{Lock}
use Rattle.history.specs.Locks.{LockEvent, LockEvents, holds, holds_against, wanted, queue}
use Rattle.history.specs.Waits.{before, is_cause, waits_for, ready, IsLeastCycle}

-- whoever stands before a waiter stood there before the event, too: nobody overtakes
abbrev pub WaitersKeepTheirPlace : Type 0
WaitersKeepTheirPlace = (e : LockEvent) (h : LockEvents) (x y : ℕ) → list_any (nat_eq x) (queue h) ≡ true → list_any (nat_eq x) (queue (e ∷ h)) ≡ true
    → list_any (nat_eq y) (before x (queue (e ∷ h))) ≡ true → list_any (nat_eq y) (before x (queue h)) ≡ true

-- who is ready waits for nobody any more, and each who stands before it waits for somebody
pub record IsOldestReady (h : LockEvents) (x : ℕ) : Type 0 where
  pub gone : (y : ℕ) → y < 128 → waits_for h x y ≡ false
  pub oldest : (z : ℕ) → list_any (nat_eq z) (before x (queue h)) ≡ true → (y : ℕ) × (waits_for h z y ≡ true)

abbrev pub ReadyHasNoCause : Type 0
ReadyHasNoCause = (h : LockEvents) (x : ℕ) → ready h ≡ Some x → IsOldestReady h x

-- a session that does not wait has to wait behind each other waiter that wants a conflicting mode, unless it
-- has what it asks for, or holds a mode that conflicts with what the waiter wants
abbrev pub FirstComeFirstServed : Type 0
FirstComeFirstServed = (h : LockEvents) (x y : ℕ) (table : TableNo) (asked waited : LockMode) → x ≢ y → list_any (nat_eq x) (queue h) ≡ false → list_any (nat_eq y) (queue h) ≡ true
    → wanted h y ≡ Some (Lock table waited) → conflicts waited asked ≡ true → holds h x table.number asked ≡ false → holds_against h x table.number waited ≡ false
    → is_cause h x (Lock table asked) y ≡ true

-- two least cycles of one session are the same
abbrev pub OneCycleIsTold : Type 0
OneCycleIsTold = (h : LockEvents) (s : ℕ) (a b : List ℕ) → IsLeastCycle (waits_for h) s a → IsLeastCycle (waits_for h) s b → a ≡ b
