-- What storing the rows of an INSERT makes of a history (the manual, INSERT; CREATE TABLE, NOT NULL).
use Rattle.std.specs.Prelude.{ℕ, List, [], ◌∷◌, ◌++◌}
use Rattle.pg_values.specs.declared.value.Value.{Value}
use Rattle.pg_values.specs.declared.fault.Fault.{Fault}
use Rattle.pg_values.specs.declared.ids.LeafId.{LeafId}
use Rattle.history.specs.declared.transaction.TxId.{TxId}
use Rattle.history.specs.Rows.{RowBorn}
use Rattle.history.specs.History.{History, RowChange}
use Rattle.row_store.specs.Stands.{newborn}
use Rattle.row_change.specs.Storing.{full_faults}
use Rattle.statement_steps.specs.Made.{Made, made, unless_refused}
use Rattle.statement_steps.specs.Steps.{follow}

-- a row is born in the leaf, where nothing stands against it and there is room
abbrev pub born : TxId → (cmd : ℕ) → List Fault → LeafId → List Value → History → Made (Unit {0})
born by cmd faults leaf row h = unless_refused (faults ++ full_faults h row) (RowChange (RowBorn (newborn h leaf row by cmd)) ∷ [])

-- row after row, each after those before it; the first refusal ends it
abbrev pub all_born : TxId → (cmd : ℕ) → (LeafId → List Value → List Fault) → List LeafId → List (List Value) → History → Made (Unit {0})
all_born by cmd faults [] rows h = made [] tt
all_born by cmd faults (l ∷ ls) [] h = made [] tt
all_born by cmd faults (l ∷ ls) (r ∷ rs) h = follow (born by cmd (faults l r) l r) (λ u. all_born by cmd faults ls rs) h
