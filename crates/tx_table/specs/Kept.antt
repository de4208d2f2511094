-- What the transaction table and a snapshot keep.
use Rattle.std.specs.Prelude.{ℕ, List, [], ◌∷◌, Option, Some, None, length, slice_index_or, slice_set, unwrap_or}
use Rattle.history.specs.declared.transaction.Fate.{Fate}

-- of a snapshot: its place, as the number of the next transaction and those that ran; session, own
-- transaction, command number
pub record KeptSnapshot : Type 0 where
  pub next : ℕ
  pub running : List ℕ
  pub session : ℕ
  pub tx : ℕ
  pub cmd : ℕ

-- of all transactions, by their numbers: who began them, and their fates; of all sessions: the open
-- transaction, and the snapshot that is held
pub record KeptTable : Type 0 where
  pub owners : List ℕ
  pub fates : List Fate
  pub current : List (Option ℕ)
  pub held : List (Option KeptSnapshot)

-- what stands in the places
abbrev pub somes : List (Option ℕ) → List ℕ
somes [] = []
somes (None ∷ os) = somes os
somes (Some n ∷ os) = n ∷ somes os

-- the snapshot of the session's transaction that is taken now
abbrev pub taken_now : KeptTable → ℕ → ℕ → KeptSnapshot
taken_now kept session tx = record { next = length kept.fates; running = somes kept.current; session = session; tx = tx; cmd = 0 }

-- the snapshot that the session is given: the one that it holds, else one of its open transaction
abbrev pub given_kept : Option KeptSnapshot → KeptTable → ℕ → KeptSnapshot
given_kept None kept session = taken_now kept session (unwrap_or (slice_index_or kept.current session None) 0)
given_kept (Some old) kept session = old

-- the snapshot with another command number
abbrev pub with_number : ℕ → KeptSnapshot → KeptSnapshot
with_number cmd snap = record { next = snap.next; running = snap.running; session = snap.session; tx = snap.tx; cmd = cmd }

-- what is kept after the session holds that snapshot, or none
abbrev pub after_hold : KeptTable → ℕ → Option KeptSnapshot → KeptTable
after_hold kept session snap = record { owners = kept.owners; fates = kept.fates; current = kept.current; held = slice_set kept.held session snap }
