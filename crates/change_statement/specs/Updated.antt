-- UPDATE of a session (the manual, UPDATE; 5.11.2 Declarative Partitioning).
use Rattle.std.specs.Prelude.{ℕ, ◌++◌, Bool, true, false, List, Option, Result, Ok}
use Rattle.pg_values.specs.declared.value.Value.{Value}
use Rattle.pg_values.specs.declared.fault.Fault.{Fault}
use Rattle.pg_values.specs.declared.ids.LeafId.{LeafId}
use Rattle.pg_values.specs.declared.ids.RowId.{RowId}
use Rattle.pg_values.specs.Refusals.{or_first}
use Rattle.history.specs.declared.transaction.TxId.{TxId}
use Rattle.history.specs.declared.catalogue.Table.{Table}
use Rattle.history.specs.History.{History}
use Rattle.part_catalog.specs.Found.{made_at}
use Rattle.row_router.specs.declared.path_part.PathPart.{PathPart}
use Rattle.row_router.specs.Trees.{TableTree}
use Rattle.row_store.specs.Stands.{newborn}
use Rattle.row_change.specs.Placing.{bounds_faults, first_or, placed, tables_of}
use Rattle.row_change.specs.Storing.{check_faults, full_faults}
use Rattle.row_change.specs.Succession.{follows}
use Rattle.row_change.specs.Targets.{holder_faults}
use Rattle.change_statement.specs.NewRows.{new_row}
use Rattle.sql_ast.specs.Expressions.{Tree}
use Rattle.sql_ast.specs.Queries.{Setting}
use Rattle.sql_ast.specs.declared.named_table.NamedTable.{NamedTable}
use Rattle.plan_tree.specs.declared.planning.Planning.{Planning}
use Rattle.expression_binder.specs.declared.scope.Param.{Param}
use Rattle.statement_steps.specs.Made.{Made, unless_refused, answered}
use Rattle.statement_steps.specs.declared.caller.Caller.{Caller}
use Rattle.statement_steps.specs.declared.rest.Rest.{Rest}
use Rattle.statement_steps.specs.Asks.{held_at}
use Rattle.statement_steps.specs.Steps.{follow}
use Rattle.statement_steps.specs.Owned.{own}
use Rattle.change_statement.specs.Changed.{Changing, Told, changed, changed_by}
use Rattle.change_statement.specs.Gathered.{gathered}
use Rattle.statement_steps.specs.Gathered.{Found}

-- ---- the new row

-- with the values that are set in it, of the kinds of the named table's columns
abbrev pub renewed : Found → List Value → History → Made (List Value)
renewed g row h = answered (new_row (made_at h g.table.number).columns g.asked.settings row)

-- its leaf: the bounds of the named table and of those above it are asked, then, where rows may move, the way below it
abbrev pub housed : (moves : Bool) → List Table → TableTree → List PathPart → (old : LeafId) → List Value → Result LeafId Fault
housed true tables tree path old row = placed tables tree path row
housed false tables tree path old row = first_or (bounds_faults tables path row) (Ok old)

abbrev pub rehoused : Found → (old : LeafId) → List Value → History → Made LeafId
rehoused g old row h = answered (housed g.moves (tables_of h) g.tree g.path old row)

-- NOT NULL and the kept CHECKs of the table that has the leaf, then the CHECKs that were gathered of the named table and of
-- those above it
abbrev pub against : History → (session : ℕ) → Found → LeafId → List Value → List Fault
against h s g leaf row = holder_faults h s g.tree leaf row ++ check_faults (tables_of h) g.path row

abbrev pub tested : Caller → Found → LeafId → List Value → History → Made (Unit {0})
tested c g leaf row h = answered (or_first (against h c.session g leaf row) tt)

-- ---- its version

-- where there is room, the version is replaced in its leaf, or its row is moved to another one
abbrev pub succeeded_by : TxId → Caller → (old : LeafId) → RowId → (new : LeafId) → List Value → History → Made (Unit {0})
succeeded_by by c old id new row h = unless_refused (full_faults h row) (follows old id (newborn h new row by c.cmd))

abbrev pub succeeded : Caller → (old : LeafId) → RowId → (new : LeafId) → List Value → History → Made (Unit {0})
succeeded c old id new row h = succeeded_by (own h c.session) c old id new row h

-- ---- the statement

abbrev pub stored_in : Caller → Found → (old : LeafId) → RowId → List Value → (new : LeafId) → History → Made (Unit {0})
stored_in c g old id row new = follow (tested c g new row) (λ u. succeeded c old id new row)

abbrev pub stored : Caller → Found → (old : LeafId) → RowId → List Value → History → Made (Unit {0})
stored c g old id row = follow (rehoused g old row) (stored_in c g old id row)

abbrev pub updating : Caller → Found → Changing
updating c g old id row = follow (renewed g row) (stored c g old id)

-- UPDATE table SET settings [ WHERE condition ], from its beginning, or from where it stood
abbrev pub updated : Planning → (names : List (List ℕ)) → List Param → Caller → Option Rest → NamedTable → List Setting → (condition : Option Tree) → History → Made Told
updated how names params c rest table settings condition =
    changed_by (λ g. updating c g) names c rest (follow (held_at c.level c.session c.cmd) (λ u.
    follow (gathered how names params c table settings condition) (λ g. changed (updating c g) names c g)))
