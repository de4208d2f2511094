-- Who waits for whom, and who goes on first (the manual, 13.3.1 and 13.3.4).
--
-- A session that waits for the end of another's part of a transaction will be a further cause here.
use Rattle.std.specs.Prelude.{◌≡◌, ℕ, nat_eq, ◌==◌, ◌&&◌, ◌||◌, not, Bool, true, false, nat_lt, ◌≤◌, if◌then◌else◌, List, [], ◌∷◌, length, Option, Some, None, find}
use Rattle.std.specs.List.{list_any}
use Rattle.pg_values.specs.Modes.{conflicts}
use Rattle.pg_values.specs.Sets.{has, nobody}
use Rattle.pg_values.specs.declared.lock_mode.LockMode.{LockMode}
use Rattle.history.specs.declared.wait.WaitOn.TheVariants.{Ends, Snapshots}
use Rattle.history.specs.declared.wait.Wanted.{Wanted}
use Rattle.history.specs.declared.wait.Wanted.TheVariants.{Lock, Others}
use Rattle.history.specs.Locks.{LockEvents, WaitBegan, wanted, holds, holds_against, queue}

-- those of a queue who stand before x, and all where x isn't in it
abbrev pub before : ℕ → List ℕ → List ℕ
before x [] = []
before x (y ∷ ys) = if y == x then [] else y ∷ before x ys

-- what a session waits for is a mode on the table that conflicts with m, and x holds nothing against it
abbrev pub wants_against : LockEvents → ℕ → ℕ → LockMode → Option Wanted → Bool
wants_against h x t m (Some (Lock table mode)) = (table.number == t) && (conflicts mode m && not (holds_against h x t mode))
wants_against h x t m w = false

-- y holds a mode that conflicts with m, or waits before x for one: so x cannot get m
abbrev pub stands_against : LockEvents → ℕ → ℕ → LockMode → ℕ → Bool
stands_against h x t m y = not (y == x) && (holds_against h y t m || (list_any (nat_eq y) (before x (queue h)) && wants_against h x t m (wanted h y)))

-- y is a cause that x has to wait for what it wants; what it holds it has at once
abbrev pub is_cause : LockEvents → ℕ → Wanted → ℕ → Bool
is_cause h x (Lock table mode) y = not (holds h x table.number mode) && stands_against h x table.number mode y
is_cause h x (Others (Ends of)) y = has of y
is_cause h x (Others (Snapshots of)) y = has of y

abbrev pub is_cause_of : LockEvents → ℕ → Option Wanted → ℕ → Bool
is_cause_of h x None y = false
is_cause_of h x (Some w) y = is_cause h x w y

-- x waits for y
abbrev pub waits_for : LockEvents → ℕ → ℕ → Bool
waits_for h x y = is_cause_of h x (wanted h x) y

-- the oldest wait whose causes have gone
abbrev pub ready : LockEvents → Option ℕ
ready h = find (λ x. nobody (waits_for h x)) (queue h)

-- from x on, each waits for the next of the list, and the last for s
abbrev pub IsChain : (ℕ → ℕ → Bool) → ℕ → ℕ → List ℕ → Type 0
IsChain waits s x [] = waits x s ≡ true
IsChain waits s x (y ∷ ys) = (waits x y ≡ true) × IsChain waits s y ys

-- the list begins with s, each in it waits for the next, and the last for s
abbrev pub IsCycle : (ℕ → ℕ → Bool) → ℕ → List ℕ → Type 0
IsCycle waits s [] = ⊥
IsCycle waits s (x ∷ xs) = (x ≡ s) × IsChain waits s x xs

-- compared number by number, the one list comes before the other
abbrev pub precedes : List ℕ → List ℕ → Bool
precedes (x ∷ xs) (y ∷ ys) = nat_lt x y || ((x == y) && precedes xs ys)
precedes xs ys = false

-- of the cycles that begin with s it is a shortest one, and the least of these
pub record IsLeastCycle (waits : ℕ → ℕ → Bool) (s : ℕ) (cycle : List ℕ) : Type 0 where
  pub is : IsCycle waits s cycle
  pub shortest : (other : List ℕ) → IsCycle waits s other → length cycle ≤ length other
  pub least : (other : List ℕ) → IsCycle waits s other → length other ≡ length cycle → precedes other cycle ≡ false

-- who waits for whom once s waits, too
abbrev pub waits_with : LockEvents → ℕ → Wanted → ℕ → ℕ → Bool
waits_with h s w = waits_for (WaitBegan s w ∷ h)

-- no wait would close a cycle
abbrev pub ClosesNone : LockEvents → ℕ → Wanted → Type 0
ClosesNone h s w = (cycle : List ℕ) → IsCycle (waits_with h s w) s cycle → ⊥

-- nobody is a cause to wait for it
abbrev pub IsFree : LockEvents → ℕ → Wanted → Type 0
IsFree h s w = (y : ℕ) → is_cause h s w y ≡ false
