use Rattle.std.proofs.Common.{◌≡◌, ◌++◌, map, drop}
use Rattle.std.specs.List.{All}
use Rattle.history.specs.Places.{LiesIn}
use Rattle.table_binder.specs.Partitionings.{missing_faults, key_column}
use Rattle.table_binder.proofs.partitioning.key_columns.Given as goal

-- no column so far is missing, and the key columns so far stand before the rest
abbrev pub invariant-loop-name : goal.invariant-loop-name
invariant-loop-name l = record {
  faults : missing_faults l.columns (drop l.name-index l.names) ≡ missing_faults l.columns l.names;
  made : l.key ++ map (key_column l.columns) (drop l.name-index l.names) ≡ map (key_column l.columns) l.names;
  lie : All (LiesIn l.columns) l.key;
}
