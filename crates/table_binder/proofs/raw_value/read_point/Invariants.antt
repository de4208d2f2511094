use Rattle.std.proofs.Common.{◌≡◌, ◌++◌, drop}
use Rattle.table_binder.specs.RawBounds.{edges_for}
use Rattle.pg_values.specs.Refusals.{faults_in, read_in}
use Rattle.table_binder.proofs.raw_value.read_point.Given as goal

-- no entry so far has a fault, and what was read of them stands before what the rest gives
abbrev pub invariant-loop-i : goal.invariant-loop-i
invariant-loop-i l = record {
  faults : faults_in (edges_for (drop l.i l.columns) (drop l.i l.edges)) ≡ faults_in (edges_for l.columns l.edges);
  read : l.point.items ++ read_in (edges_for (drop l.i l.columns) (drop l.i l.edges)) ≡ read_in (edges_for l.columns l.edges);
}
