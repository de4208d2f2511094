-- Which table CREATE TABLE makes, and why it makes none (the manual, CREATE TABLE).
use Rattle.std.specs.Prelude.{ℕ, List, [], ◌∷◌, Option, Some, None, is_none, nat_lt}
use Rattle.pg_values.specs.declared.fault.Fault.{Fault}
use Rattle.pg_values.specs.declared.ids.TableNo.{TableNo}
use Rattle.pg_values.specs.declared.ids.LeafId.{LeafId}
use Rattle.pg_values.specs.declared.which.Which.TheVariants.{Tables}
use Rattle.bound_forms.specs.declared.level.Level.{Level as OneLevel}
use Rattle.pg_values.specs.Refusals.{unless}
use Rattle.refusals.specs.Refusals.{table_is_there, too_many}
use Rattle.history.specs.declared.transaction.TxId.{TxId}
use Rattle.history.specs.declared.catalogue.Column.{Column}
use Rattle.history.specs.declared.catalogue.Table.{Table}
use Rattle.history.specs.declared.catalogue.TableShape.{TableShape}
use Rattle.history.specs.declared.catalogue.TableShape.TheVariants.{Leaf, Level}
use Rattle.history.specs.Rows.{LeafAdded, leaf_count}
use Rattle.history.specs.Catalogue.{TableMade}
use Rattle.history.specs.History.{History, RowChange, CatalogueChange, row_events}
use Rattle.history.specs.Places.{KeysLieIn}
use Rattle.row_router.specs.Histories.{table_of}
use Rattle.part_catalog.specs.Found.{resolved, table_number}
use Rattle.part_ddl.specs.Made.{Made, made_by}

-- ---- the name

-- a table of the name is there for the session
abbrev pub name_faults : History → (session : ℕ) → (name : List ℕ) → List Fault
name_faults h session name = unless (is_none (resolved h session name)) (table_is_there name)

-- ---- the table

-- there are 4,096 tables at most, dropped ones too
abbrev pub count_faults : History → List Fault
count_faults h = unless (nat_lt (table_number h) 4096) (too_many Tables)

-- the number of the next table, and of the next leaf
abbrev pub next_table : History → TableNo
next_table h = table_of (table_number h)

abbrev pub next_leaf : History → LeafId
next_leaf h = record { number = leaf_count (row_events h) }

-- a table that is not partitioned has a leaf of its own
abbrev pub shape_of : History → Option OneLevel → TableShape
shape_of h None = Leaf (next_leaf h)
shape_of h (Some level) = Level level

abbrev pub leaf_events : History → Option OneLevel → History
leaf_events h None = RowChange (LeafAdded (next_leaf h).number) ∷ []
leaf_events h (Some level) = []

abbrev pub new_table : History → (name : List ℕ) → List Column → Option OneLevel → TxId → (cmd : ℕ) → Table
new_table h name columns level by cmd = record { id = next_table h; name = name; columns = columns; shape = shape_of h level; by = by; cmd = cmd }

-- its leaf is made before it
abbrev pub table_events : History → (name : List ℕ) → List Column → Option OneLevel → TxId → (cmd : ℕ) → History
table_events h name columns level by cmd = CatalogueChange (TableMade (new_table h name columns level by cmd)) ∷ leaf_events h level

abbrev pub made_table : History → (name : List ℕ) → List Column → Option OneLevel → TxId → (cmd : ℕ) → Made
made_table h name columns level by cmd = made_by (count_faults h) (next_table h) (table_events h name columns level by cmd)

-- the key columns of the level, if there is one, lie among the columns
abbrev pub KeysFit : List Column → Option OneLevel → Type 0
KeysFit columns None = Unit {0}
KeysFit columns (Some level) = KeysLieIn columns (Level level)
