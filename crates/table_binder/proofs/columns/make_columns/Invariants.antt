use Rattle.std.proofs.Common.{◌≡◌, ◌++◌, map, drop}
use Rattle.table_binder.specs.Columns.{type_faults, column_of}
use Rattle.table_binder.proofs.columns.make_columns.Given as goal

-- no type so far is missing, and the columns so far stand before the rest
abbrev pub invariant-loop-definition : goal.invariant-loop-definition
invariant-loop-definition l = record {
  faults : type_faults (drop l.definition-index l.definitions) ≡ type_faults l.definitions;
  made : l.columns.items ++ map column_of (drop l.definition-index l.definitions) ≡ map column_of l.definitions;
}
