-- What happened to row versions (the manual, 13.1 and 13.2). The newest event stands first.
use Rattle.std.specs.Prelude.{ℕ, ◌+◌, ◌==◌, ◌&&◌, not, if◌then◌else◌, List, [], ◌∷◌, ◌++◌, Option, Some, None}
use Rattle.history.specs.declared.version.Version.{Version}
use Rattle.history.specs.declared.version.End.{End}
use Rattle.history.specs.Transactions.{TxEvents, was_aborted}

-- a leaf was made; a version was born; a version was ended
pub data RowEvent : Type 0 where
  LeafAdded : (leaf : ℕ) → RowEvent
  RowBorn : Version → RowEvent
  RowEnded : (id : ℕ) → End → RowEvent

abbrev pub RowEvents : Type 0
RowEvents = List RowEvent

-- how many leaves there are, which is the number of the next one
abbrev pub leaf_count : RowEvents → ℕ
leaf_count [] = 0
leaf_count (LeafAdded l ∷ h) = leaf_count h + 1
leaf_count (RowBorn v ∷ h) = leaf_count h
leaf_count (RowEnded k e ∷ h) = leaf_count h

-- all versions as they were born, in order of birth
abbrev pub births : RowEvents → List Version
births [] = []
births (LeafAdded l ∷ h) = births h
births (RowBorn v ∷ h) = births h ++ v ∷ []
births (RowEnded k e ∷ h) = births h

-- the last end of the version
abbrev pub last_end : RowEvents → ℕ → Option End
last_end [] k = None
last_end (LeafAdded l ∷ h) k = last_end h k
last_end (RowBorn v ∷ h) k = last_end h k
last_end (RowEnded id e ∷ h) k = if id == k then Some e else last_end h k

-- the last end of the version whose transaction is not aborted
abbrev pub end_in : TxEvents → RowEvents → ℕ → Option End
end_in txs [] k = None
end_in txs (LeafAdded l ∷ h) k = end_in txs h k
end_in txs (RowBorn v ∷ h) k = end_in txs h k
end_in txs (RowEnded id e ∷ h) k = if (id == k) && not (was_aborted txs e.by.number) then Some e else end_in txs h k

-- the end, where it counts: one by an aborted transaction does not
abbrev pub counted : TxEvents → Option End → Option End
counted txs None = None
counted txs (Some e) = if was_aborted txs e.by.number then None else Some e
