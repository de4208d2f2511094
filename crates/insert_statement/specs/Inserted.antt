-- INSERT of a session (the manual, INSERT; 5.11.2 Declarative Partitioning; 13.3.1 Table-Level Locks).
use Rattle.std.specs.Prelude.{ℕ, true, List, Option, Result, Ok, Err, map, length}
use Rattle.pg_values.specs.declared.value.Value.{Value}
use Rattle.pg_values.specs.declared.fault.Fault.{Fault}
use Rattle.pg_values.specs.declared.ids.LeafId.{LeafId}
use Rattle.pg_values.specs.declared.lock_mode.LockMode.TheVariants.{RowExclusive}
use Rattle.history.specs.declared.catalogue.Column.{Column}
use Rattle.history.specs.declared.catalogue.TableShape.{TableShape}
use Rattle.history.specs.declared.catalogue.TableShape.TheVariants.{Leaf, Level}
use Rattle.history.specs.History.{History}
use Rattle.row_router.specs.declared.path_part.PathPart.{PathPart}
use Rattle.row_router.specs.Histories.{tree_of, path_of}
use Rattle.row_router.specs.Trees.{TableTree}
use Rattle.part_catalog.specs.Found.{made_at}
use Rattle.row_change.specs.FullRows.{full_row}
use Rattle.row_change.specs.Placing.{all_placed, tables_of}
use Rattle.row_change.specs.Ways.{ways_below}
use Rattle.row_change.specs.Storing.{table_faults}
use Rattle.row_change.specs.Targets.{holder_faults}
use Rattle.sql_ast.specs.Expressions.{Trees}
use Rattle.expression_binder.specs.declared.scope.Param.{Param}
use Rattle.cond_logic.specs.Asked.{InsertMeant}
use Rattle.sql_binder.specs.Inserts.{bound_insert}
use Rattle.stores.specs.Events.{look_of}
use Rattle.statement_steps.specs.Made.{answered}
use Rattle.statement_steps.specs.Made.{Made}
use Rattle.statement_steps.specs.declared.caller.Caller.{Caller}
use Rattle.statement_steps.specs.Asks.{named, held_at, all_locked}
use Rattle.statement_steps.specs.Steps.{follow}
use Rattle.insert_statement.specs.Born.{all_born}
use Rattle.statement_steps.specs.Owned.{own}
use Rattle.statement_steps.specs.Scopes.{scope_column}

-- ---- the rows of VALUES

-- with a value for each column of the table
abbrev pub whole : (width : ℕ) → Result InsertMeant Fault → Result (List (List Value)) Fault
whole width (Ok m) = Ok (map (full_row width m.columns) m.rows)
whole width (Err f) = Err f

abbrev pub whole_rows : List Column → List Param → (session : ℕ) → Option (List (List ℕ)) → List Trees → Result (List (List Value)) Fault
whole_rows columns params s names values = whole (length columns) (bound_insert (map scope_column columns) params s names values)

abbrev pub rows_meant : List Param → (session table : ℕ) → Option (List (List ℕ)) → List Trees → History → Made (List (List Value))
rows_meant params s t names values h = answered (whole_rows (made_at h t).columns params s names values)

-- ---- into a table with rows of its own

abbrev pub into_leaf : Caller → (table : ℕ) → LeafId → List (List Value) → History → Made (Unit {0})
into_leaf caller t leaf rows h =
    all_born (own h caller.session) caller.cmd (λ l row. table_faults (tables_of h) (record { number = t }) (path_of h caller.session t) true row) (map (λ row. leaf) rows) rows h

-- ---- into a partitioned table

abbrev pub into_leaves : Caller → TableTree → List LeafId → List (List Value) → History → Made (Unit {0})
into_leaves caller tree leaves rows h = all_born (own h caller.session) caller.cmd (holder_faults h caller.session tree) leaves rows h

abbrev pub placed_rows : TableTree → List PathPart → List (List Value) → History → Made (List LeafId)
placed_rows tree path rows h = answered (all_placed (tables_of h) tree path rows)

-- the tables on the ways of the rows are locked before the rows are stored
abbrev pub locked_into : List (List ℕ) → Caller → TableTree → List LeafId → List (List Value) → History → Made (Unit {0})
locked_into names caller tree leaves rows =
    follow (all_locked names caller.session RowExclusive (map (λ t. t.number) (ways_below tree rows))) (λ u. into_leaves caller tree leaves rows)

-- all rows are placed before
abbrev pub below : List (List ℕ) → Caller → TableTree → List PathPart → List (List Value) → History → Made (Unit {0})
below names caller tree path rows = follow (placed_rows tree path rows) (λ leaves. locked_into names caller tree leaves rows)

abbrev pub into_partitions : List (List ℕ) → Caller → (table : ℕ) → List (List Value) → History → Made (Unit {0})
into_partitions names caller t rows h = below names caller (tree_of h caller.session t (look_of h caller.session caller.cmd)) (path_of h caller.session t) rows h

-- ---- the statement

abbrev pub into_shape : List (List ℕ) → Caller → (table : ℕ) → List (List Value) → TableShape → History → Made (Unit {0})
into_shape names caller t rows (Leaf leaf) = into_leaf caller t leaf rows
into_shape names caller t rows (Level level) = into_partitions names caller t rows

abbrev pub into : List (List ℕ) → Caller → (table : ℕ) → List (List Value) → History → Made (Unit {0})
into names caller t rows h = into_shape names caller t rows (made_at h t).shape h

-- the table is locked, the values are computed, and the rows are stored
abbrev pub gathered : (names : List (List ℕ)) → List Param → Caller → (table : List ℕ) → (columns : Option (List (List ℕ))) → (values : List Trees) → History → Made (Unit {0})
gathered names params caller table columns values =
    follow (named names caller.session RowExclusive table) (λ t.
    follow (rows_meant params caller.session t columns values) (λ rows.
    into names caller t rows))

-- INSERT INTO table [ (columns) ] VALUES values
abbrev pub inserted : (names : List (List ℕ)) → List Param → Caller → (table : List ℕ) → (columns : Option (List (List ℕ))) → (values : List Trees) → History → Made (Unit {0})
inserted names params caller table columns values = follow (held_at caller.level caller.session caller.cmd) (λ u. gathered names params caller table columns values)
