-- Whether a table may become a partition of another one (the manual, ALTER TABLE, ATTACH PARTITION).
use Rattle.std.specs.Prelude.{ℕ, ◌==◌, Bool, not, is_none, List, ◌++◌, Result, Ok}
use Rattle.std.specs.List.{list_any}
use Rattle.pg_values.specs.declared.fault.Fault.{Fault}
use Rattle.bound_forms.specs.declared.partition_bound.Bound.{Bound as MeantBound}
use Rattle.pg_values.specs.Refusals.{unless}
use Rattle.refusals.specs.Refusals.{already_a_partition, is_above}
use Rattle.history.specs.History.{History}
use Rattle.row_router.specs.Histories.{ddl_tree}
use Rattle.row_router.specs.Trees.{height}
use Rattle.sql_ast.specs.Commands.{Bound}
use Rattle.table_binder.specs.Bounds.{bound_for}
use Rattle.part_catalog.specs.Found.{made_at}
use Rattle.part_ddl.specs.Below.{tables_from}
use Rattle.part_ddl.specs.Placing.{level_at, place_faults}
use Rattle.ddl_steps.specs.Refused.{next_answer, unless_faults}
use Rattle.ddl_steps.specs.Families.{parent_in}
use Rattle.alter_table.specs.Columns.{column_faults}

abbrev pub name_at : History → (table : ℕ) → List ℕ
name_at h t = (made_at h t).name

-- the parent is the table itself, or stands below it
abbrev pub stands_above : History → (session parent table : ℕ) → Bool
stands_above h s p t = list_any (λ x. x.number == p) (tables_from h s t)

-- what stands against the table whatever its bound: it is a partition, it stands above the parent, or its columns differ
abbrev pub table_faults : History → (session parent table : ℕ) → List Fault
table_faults h s p t =
    unless (is_none (parent_in h s t)) (already_a_partition (name_at h t))
    ++ (unless (not (stands_above h s p t)) (is_above (name_at h t) (name_at h p))
    ++ column_faults (name_at h t) (made_at h p).columns (made_at h t).columns)

-- the first refusal: the parent, the table, the bound, its place below the parent
abbrev pub attach_place : History → (session parent table : ℕ) → Bound → Result MeantBound Fault
attach_place h s p t b =
    next_answer (level_at h p) (λ level.
    unless_faults (table_faults h s p t) (
    next_answer (bound_for level b) (λ bound.
    unless_faults (place_faults h s p bound (height (ddl_tree h s t))) (Ok bound))))
