-- Which leaf a row comes to, or why it comes to none (the manual, 5.11.2 Declarative Partitioning; INSERT).
use Rattle.std.specs.Prelude.{ℕ, ◌<◌, List, [], ◌∷◌, Option, Some, None, Result, Ok, Err, All, find, map}
use Rattle.pg_values.specs.declared.value.Value.{Value}
use Rattle.pg_values.specs.declared.fault.Fault.{Fault}
use Rattle.pg_values.specs.declared.ids.LeafId.{LeafId}
use Rattle.pg_values.specs.declared.ids.TableNo.{TableNo}
use Rattle.pg_values.specs.Refusals.{faults_in, read_in, or_first}
use Rattle.refusals.specs.Refusals.{does_not_accept, no_partition}
use Rattle.history.specs.declared.catalogue.Table.{Table}
use Rattle.history.specs.declared.catalogue.TableShape.{TableShape}
use Rattle.history.specs.declared.catalogue.TableShape.TheVariants.{Leaf, Level}
use Rattle.history.specs.Places.{table_at}
use Rattle.history.specs.Catalogue.{tables_made}
use Rattle.history.specs.History.{History, catalogue_events}
use Rattle.row_router.specs.declared.path_part.Place.{Place}
use Rattle.row_router.specs.declared.path_part.PathPart.{PathPart}
use Rattle.row_router.specs.declared.tree.NoPartition.{NoPartition}
use Rattle.row_router.specs.Trees.{TableTree, Fits, key_of, routed}
use Rattle.row_router.specs.declared.path.PathTest.TheVariants.{Bounds}
use Rattle.row_router.specs.Paths.{refuses, PartFits}
use Rattle.row_change.specs.Ways.{AllTables}

abbrev pub name_at : List Table → TableNo → List ℕ
name_at tables t = (table_at tables t.number).name

-- ---- the bounds above

-- the key that the parent of a table asks of a row
abbrev pub key_above : Option Place → List Value → List Value
key_above None row = []
key_above (Some p) row = key_of p.level row

abbrev pub refused_by : List Table → List Value → Option PathPart → List Fault
refused_by tables row None = []
refused_by tables row (Some p) = does_not_accept (name_at tables p.table) (key_above p.place row) ∷ []

-- the nearest table of a path that does not accept the row
abbrev pub bounds_faults : List Table → List PathPart → List Value → List Fault
bounds_faults tables path row = refused_by tables row (find (refuses Bounds row) path)

-- ---- the way down

-- the key that a table asks of a row
abbrev pub key_in : TableShape → List Value → List Value
key_in (Leaf leaf) row = []
key_in (Level level) row = key_of level row

-- the leaf, or that no partition of a table accepts the row
abbrev pub way_told : List Table → List Value → Result LeafId NoPartition → Result LeafId Fault
way_told tables row (Ok leaf) = Ok leaf
way_told tables row (Err e) = Err (no_partition (name_at tables e.table) (key_in (table_at tables e.table.number).shape row))

-- ---- rows

-- what is answered where there is none of these faults
abbrev pub first_or : {T : Type 0} → List Fault → Result T Fault → Result T Fault
first_or [] answer = answer
first_or (f ∷ fs) answer = Err f

-- the bounds of the named table and of those above it, then the way below it
abbrev pub placed : List Table → TableTree → List PathPart → List Value → Result LeafId Fault
placed tables tree path row = first_or (bounds_faults tables path row) (way_told tables row (routed row tree))

-- the leaf of each row, or the first refusal
abbrev pub all_placed : List Table → TableTree → List PathPart → List (List Value) → Result (List LeafId) Fault
all_placed tables tree path rows = or_first (faults_in (map (placed tables tree path) rows)) (read_in (map (placed tables tree path) rows))

-- ---- what may be asked

-- the row may be asked of the tree and of the path
abbrev pub CanBePlaced : TableTree → List PathPart → List Value → Type 0
CanBePlaced tree path row = Fits row tree × All (PartFits row) path

abbrev pub IsPartNumbered : ℕ → PathPart → Type 0
IsPartNumbered n p = p.table.number < n

-- the tables of a tree are among the first n
abbrev pub IsNumbered : ℕ → TableTree → Type 0
IsNumbered n tree = AllTables (λ t. t.number < n) tree

-- ---- by a history

-- the tables that were made
abbrev pub tables_of : History → List Table
tables_of h = tables_made (catalogue_events h)
