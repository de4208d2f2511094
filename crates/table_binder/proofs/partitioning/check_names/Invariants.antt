use Rattle.std.proofs.Common.{◌≡◌, [], drop}
use Rattle.refusals.specs.Refusals.{twice_in_key}
use Rattle.table_binder.specs.Names.{twice_faults, bytes_of}
use Rattle.table_binder.proofs.partitioning.check_names.Given as goal

-- no name so far stands twice, and each is noted
abbrev pub invariant-loop-name : goal.invariant-loop-name
invariant-loop-name l = twice_faults twice_in_key (bytes_of l.earlier.keys) (drop l.name-index l.names) ≡ twice_faults twice_in_key [] l.names
