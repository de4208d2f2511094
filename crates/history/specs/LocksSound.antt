-- Which event of locks may come.
use Rattle.std.specs.Prelude.{◌≡◌, ℕ, ◌<◌, true, [], ◌∷◌, Some, None}
use Rattle.pg_values.specs.declared.ids.TableNo.{TableNo}
use Rattle.pg_values.specs.declared.lock_mode.LockMode.{LockMode}
use Rattle.history.specs.declared.wait.Wanted.{Wanted}
use Rattle.history.specs.declared.wait.Wanted.TheVariants.{Lock}
use Rattle.history.specs.Locks.{LockEvent, LockEvents, LockGot, LocksGivenUp, SnapshotGone, WaitBegan, WaitResumed, WaitWithdrawn, wanted}
use Rattle.history.specs.Waits.{is_cause, ready, IsFree, ClosesNone}

-- a session that does not wait gets a lock for which it would not have to wait
pub record IsGotSound (s t : ℕ) (m : LockMode) (h : LockEvents) : Type 0 where
  pub session : s < 128
  pub idle : wanted h s ≡ None
  pub free : IsFree h s (Lock (record { number = t }) m)

-- a session that does not wait begins to, as there is a cause, and closes no cycle
pub record IsWaitSound (s : ℕ) (w : Wanted) (h : LockEvents) : Type 0 where
  pub session : s < 128
  pub idle : wanted h s ≡ None
  pub cause : (y : ℕ) × (is_cause h s w y ≡ true)
  pub acyclic : ClosesNone h s w

abbrev pub IsLockSound : LockEvent → LockEvents → Type 0
IsLockSound (LockGot s t m) h = IsGotSound s t m h
IsLockSound (WaitBegan s w) h = IsWaitSound s w h
IsLockSound (WaitResumed s) h = ready h ≡ Some s
IsLockSound _ h = Unit {0}

abbrev pub AreLocksSound : LockEvents → Type 0
AreLocksSound [] = Unit {0}
AreLocksSound (e ∷ h) = IsLockSound e h × AreLocksSound h
