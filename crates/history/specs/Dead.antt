-- Dead row versions: those that nobody can see any more (the manual, 25.1.2).
use Rattle.std.specs.Prelude.{◌≡◌, ℕ, ◌∷◌, ◌⊎◌, Bool, true, false, Option, Some, None}
use Rattle.history.specs.declared.version.Version.{Version}
use Rattle.history.specs.declared.version.End.{End}
use Rattle.history.specs.Transactions.{TxEvents, fate, was_aborted, is_committed, IsSound}
use Rattle.history.specs.Snapshots.{TakenSnapshot, sees, held_by}
use Rattle.history.specs.History.{Event, History, tx_events, snapshot_events, end_of, is_seen}
use Rattle.history.specs.Legal.{IsHoldSound, May}

-- whether this is so of the snapshot that a session holds, if it holds one
abbrev pub if_held : (TakenSnapshot → Bool) → Option TakenSnapshot → Bool
if_held test None = false
if_held test (Some s) = test s

-- the snapshot that the session holds sees the version, and its birth
abbrev pub sees_if_held : History → Option TakenSnapshot → Version → Bool
sees_if_held h held v = if_held (λ s. is_seen h s v) held

abbrev pub is_held_seen : History → (session : ℕ) → Version → Bool
is_held_seen h session v = sees_if_held h (held_by (snapshot_events h) session) v

abbrev pub is_birth_held_seen : History → (session : ℕ) → Version → Bool
is_birth_held_seen h session v = if_held (λ s. sees (tx_events h) s v.by.number v.cmd) (held_by (snapshot_events h) session)

-- the end is committed
abbrev pub is_over : TxEvents → Option End → Bool
is_over txs None = false
is_over txs (Some e) = is_committed (fate txs e.by.number)

-- the version's birth was aborted, and no snapshot that is held sees it
abbrev pub IsUndone : History → Version → Type 0
IsUndone h v = (was_aborted (tx_events h) v.by.number ≡ true) × ((session : ℕ) → is_birth_held_seen h session v ≡ false)

-- its birth is committed and its end too, and no snapshot that is held sees the version
abbrev pub IsOutdated : History → Version → Type 0
IsOutdated h v = (is_committed (fate (tx_events h) v.by.number) ≡ true) × (is_over (tx_events h) (end_of h v.id.number) ≡ true) × ((session : ℕ) → is_held_seen h session v ≡ false)

abbrev pub IsDead : History → Version → Type 0
IsDead h v = IsUndone h v ⊎ IsOutdated h v

-- a snapshot that a session may read under: one that it may hold now
abbrev pub MayRead : TakenSnapshot → History → Type 0
MayRead s h = (session : ℕ) × IsHoldSound session s h

-- no snapshot that is held or taken sees what is dead
abbrev pub DeadAreUnseen : Type 0
DeadAreUnseen = (h : History) (s : TakenSnapshot) (v : Version) → IsSound (tx_events h) → MayRead s h → IsDead h v → is_seen h s v ≡ false

-- and it stays dead
abbrev pub DeadStayDead : Type 0
DeadStayDead = (e : Event) (h : History) (v : Version) → IsSound (tx_events h) → May e h → IsDead h v → IsDead (e ∷ h) v
