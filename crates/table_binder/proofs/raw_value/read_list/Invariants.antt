use Rattle.std.proofs.Common.{◌≡◌, ◌++◌, drop}
use Rattle.table_binder.specs.ListedValues.{values_in}
use Rattle.table_binder.specs.RawBounds.{values_for, each_once}
use Rattle.pg_values.specs.Refusals.{faults_in, read_in}
use Rattle.table_binder.proofs.OnceLaws.{further}
use Rattle.table_binder.proofs.raw_value.read_list.Given as goal

-- no value so far has a fault, and those that are kept stand before the further ones of the rest
abbrev pub invariant-loop-value : goal.invariant-loop-value
invariant-loop-value l = record {
  faults : faults_in (values_for l.kind (drop l.value-index l.raw)) ≡ faults_in (values_for l.kind l.raw);
  once : values_in l.once.keys ++ further (values_in l.once.keys) (read_in (values_for l.kind (drop l.value-index l.raw))) ≡ each_once (read_in (values_for l.kind l.raw));
}
