-- CREATE TABLE of a session (the manual, CREATE TABLE; 5.11.2 Declarative Partitioning).
use Rattle.std.specs.Prelude.{◌≡◌, ℕ, List, [], ◌∷◌, Option, Some, None, Result, Ok, Err, length, codes}
use mathlib.Core.Path.{refl, subst}
use Rattle.pg_values.specs.declared.fault.Fault.{Fault}
use Rattle.refusals.specs.Refusals.{takes_one_column}
use Rattle.bound_forms.specs.declared.level.KeyColumn.{KeyColumn}
use Rattle.bound_forms.specs.declared.level.Level.{Level}
use Rattle.pg_values.specs.declared.strategy.Strategy.{Strategy}
use Rattle.pg_values.specs.declared.strategy.Strategy.TheVariants.{Range as ByRange, List as ByList, Hash as ByHash}
use Rattle.history.specs.declared.catalogue.Column.{Column}
use Rattle.history.specs.History.{History}
use Rattle.sql_ast.specs.declared.table_definition.ColumnDefinition.{ColumnDefinition}
use Rattle.sql_ast.specs.declared.table_definition.Partitioning.{Partitioning}
use Rattle.table_binder.specs.Columns.{bound_columns}
use Rattle.table_binder.specs.Partitionings.{Key, bound_key}
use Rattle.part_ddl.specs.Tables.{count_faults, table_events}
use Rattle.statement_steps.specs.Made.{Made, made, answered}
use Rattle.statement_steps.specs.declared.caller.Caller.{Caller}
use Rattle.statement_steps.specs.Asks.{held_at}
use Rattle.statement_steps.specs.Steps.{follow}
use Rattle.statement_steps.specs.Owned.{own}
use Rattle.table_statements.specs.Claims.{name_claimed}
use Rattle.ddl_steps.specs.Refused.{next_answer, unless_faults}

-- ---- how a table is partitioned

-- what LIST asks of key columns
abbrev pub AreOneIfList : List KeyColumn → Strategy → Type 0
AreOneIfList columns ByRange = Unit {0}
AreOneIfList columns ByList = length columns ≡ 1
AreOneIfList columns ByHash = Unit {0}

abbrev pub level_of : Strategy → List KeyColumn → Result Level Fault
level_of ByRange columns = Ok (record { strategy = ByRange; columns = columns; one_if_list = λ e. subst (AreOneIfList columns) e tt })
level_of ByHash columns = Ok (record { strategy = ByHash; columns = columns; one_if_list = λ e. subst (AreOneIfList columns) e tt })
level_of ByList (c ∷ []) = Ok (record { strategy = ByList; columns = c ∷ []; one_if_list = λ e. refl })
level_of ByList _ = Err (takes_one_column (codes "LIST"))

abbrev pub level_with : Key → Result Level Fault
level_with key = level_of key.strategy key.columns

abbrev pub some_level : Level → Result (Option Level) Fault
some_level level = Ok (Some level)

-- the level of a table with these columns, where it is partitioned
abbrev pub level_by : List Column → Option Partitioning → Result (Option Level) Fault
level_by columns None = Ok None
level_by columns (Some by) = next_answer (next_answer (bound_key columns by) level_with) some_level

-- ---- the table

-- what a new table has, or the first refusal: the count of tables, its columns, its key
pub record Plan : Type 0 where
  pub columns : List Column
  pub level : Option Level

abbrev pub plan_with : List Column → Option Level → Result Plan Fault
plan_with columns level = Ok (record { columns = columns; level = level })

abbrev pub columns_and_key : List ColumnDefinition → Option Partitioning → Result Plan Fault
columns_and_key definitions by = next_answer (bound_columns definitions) (λ columns. next_answer (level_by columns by) (plan_with columns))

abbrev pub table_plan : History → List ColumnDefinition → Option Partitioning → Result Plan Fault
table_plan h definitions by = unless_faults (count_faults h) (columns_and_key definitions by)

abbrev pub planned : List ColumnDefinition → Option Partitioning → History → Made Plan
planned definitions by h = answered (table_plan h definitions by)

abbrev pub table_made : Caller → (name : List ℕ) → Plan → History → Made (Unit {0})
table_made caller name plan h = made (table_events h name plan.columns plan.level (own h caller.session) caller.cmd) tt

abbrev pub planned_and_made : Caller → (name : List ℕ) → List ColumnDefinition → Option Partitioning → History → Made (Unit {0})
planned_and_made caller name columns by = follow (planned columns by) (λ plan. table_made caller name plan)

-- its name comes first
abbrev pub claimed_and_made : (names : List (List ℕ)) → Caller → (name : List ℕ) → List ColumnDefinition → Option Partitioning → History → Made (Unit {0})
claimed_and_made names caller name columns by = follow (name_claimed names caller.session name) (λ u. planned_and_made caller name columns by)

-- CREATE TABLE name ( columns ) [ PARTITION BY .. ]
abbrev pub created : (names : List (List ℕ)) → Caller → (name : List ℕ) → List ColumnDefinition → Option Partitioning → History → Made (Unit {0})
created names caller name columns by = follow (held_at caller.level caller.session caller.cmd) (λ u. claimed_and_made names caller name columns by)
