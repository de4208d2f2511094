-- What happened to transactions (the manual, 13.2). The newest event stands first.
use Rattle.std.specs.Prelude.{◌≡◌, ℕ, ◌+◌, ◌<◌, ◌==◌, ◌||◌, Bool, true, false, if◌then◌else◌, List, [], ◌∷◌, ◌++◌, Option, Some, None}
use Rattle.history.specs.declared.transaction.Fate.{Fate}
use Rattle.history.specs.declared.transaction.Fate.TheVariants.{Running, Committed, Aborted}

-- a session's transaction began, committed or was aborted
pub data TxEvent : Type 0 where
  TxBegan : (session tx : ℕ) → TxEvent
  TxCommitted : (session tx : ℕ) → TxEvent
  TxAborted : (session tx : ℕ) → TxEvent

abbrev pub TxEvents : Type 0
TxEvents = List TxEvent

-- how many transactions began, which is the number of the next one
abbrev pub next_tx : TxEvents → ℕ
next_tx [] = 0
next_tx (TxBegan s t ∷ h) = next_tx h + 1
next_tx (TxCommitted s t ∷ h) = next_tx h
next_tx (TxAborted s t ∷ h) = next_tx h

-- the transaction that the session has open
abbrev pub open_of : TxEvents → ℕ → Option ℕ
open_of [] s = None
open_of (TxBegan r t ∷ h) s = if r == s then Some t else open_of h s
open_of (TxCommitted r t ∷ h) s = if r == s then None else open_of h s
open_of (TxAborted r t ∷ h) s = if r == s then None else open_of h s

-- the session that began the transaction
abbrev pub session_of : TxEvents → ℕ → ℕ
session_of [] tx = 0
session_of (TxBegan s t ∷ h) tx = if t == tx then s else session_of h tx
session_of (TxCommitted s t ∷ h) tx = session_of h tx
session_of (TxAborted s t ∷ h) tx = session_of h tx

abbrev pub was_committed : TxEvents → ℕ → Bool
was_committed [] tx = false
was_committed (TxBegan s t ∷ h) tx = was_committed h tx
was_committed (TxCommitted s t ∷ h) tx = (t == tx) || was_committed h tx
was_committed (TxAborted s t ∷ h) tx = was_committed h tx

abbrev pub was_aborted : TxEvents → ℕ → Bool
was_aborted [] tx = false
was_aborted (TxBegan s t ∷ h) tx = was_aborted h tx
was_aborted (TxCommitted s t ∷ h) tx = was_aborted h tx
was_aborted (TxAborted s t ∷ h) tx = (t == tx) || was_aborted h tx

-- what became of the transaction
abbrev pub fate : TxEvents → ℕ → Fate
fate h tx = if was_aborted h tx then Aborted else if was_committed h tx then Committed else Running

abbrev pub is_committed : Fate → Bool
is_committed Running = false
is_committed Committed = true
is_committed Aborted = false

-- the transaction has begun and has not ended
pub record IsRunning (h : TxEvents) (tx : ℕ) : Type 0 where
  pub begun : tx < next_tx h
  pub runs : fate h tx ≡ Running

-- what a transaction itself sees now of what another one, or itself, did
abbrev pub sees_now : TxEvents → ℕ → ℕ → Bool
sees_now h me tx = is_committed (fate h tx) || (tx == me)

-- a transaction begins with the next number in a session without an open one, and ends there while it runs
abbrev pub IsSound : TxEvents → Type 0
IsSound [] = Unit {0}
IsSound (TxBegan s t ∷ h) = (t ≡ next_tx h) × (open_of h s ≡ None) × IsSound h
IsSound (TxCommitted s t ∷ h) = (fate h t ≡ Running) × (open_of h s ≡ Some t) × IsSound h
IsSound (TxAborted s t ∷ h) = (fate h t ≡ Running) × (open_of h s ≡ Some t) × IsSound h

-- the history went on from that past
abbrev pub IsPast : TxEvents → TxEvents → Type 0
IsPast past h = (later : TxEvents) × (later ++ past ≡ h)
