-- The bound of a partition, or its first fault (CREATE TABLE, FOR VALUES; ALTER TABLE, ATTACH PARTITION).
use Rattle.std.specs.Prelude.{map, Result}
use Rattle.pg_values.specs.declared.fault.Fault.{Fault}
use Rattle.bound_forms.specs.declared.level.Level.{Level}
use Rattle.bound_forms.specs.declared.partition_bound.Bound.{Bound as MeantBound}
use Rattle.table_binder.specs.declared.raw_bound.RawEdge.{RawEdge}
use Rattle.table_binder.specs.declared.raw_bound.RawEdge.TheVariants.{Min, At, Max}
use Rattle.table_binder.specs.declared.raw_bound.RawBound.{RawBound}
use Rattle.table_binder.specs.declared.raw_bound.RawBound.TheVariants as raw
use Rattle.table_binder.specs.Checks.{checked}
use Rattle.sql_ast.specs.Commands.{Edge, min, max, at, Bound, range, listed, hash, other}
use Rattle.table_binder.specs.Values.{raw_value, raw_values}

abbrev pub raw_edge : Edge → RawEdge
raw_edge min = Min
raw_edge max = Max
raw_edge (at t) = At (raw_value t)

-- the bound with each of its expressions computed
abbrev pub raw_bound : Bound → RawBound
raw_bound (range from to) = raw.Range (map raw_edge from) (map raw_edge to)
raw_bound (listed ts) = raw.List (raw_values ts)
raw_bound (hash modulus remainder) = raw.Hash modulus remainder
raw_bound other = raw.Default

abbrev pub bound_for : Level → Bound → Result MeantBound Fault
bound_for level b = checked level.strategy level.columns (raw_bound b)
