use Rattle.std.proofs.Common.{◌≡◌, drop}
use Rattle.alter_table.specs.Columns.{column_faults}
use Rattle.alter_table.proofs.columns.check_columns.Given as goal

abbrev pub invariant-loop-column : goal.invariant-loop-column
invariant-loop-column l = column_faults l.table (drop l.column-index l.parent) l.left ≡ column_faults l.fn.table l.fn.parent l.fn.own
