use Rattle.std.proofs.Common.{◌≡◌, drop, map}
use Rattle.part_ddl.specs.Below.{default_among}
use Rattle.part_ddl.proofs.below.default_among.Given as goal

abbrev pub invariant-loop-entry : goal.invariant-loop-entry
invariant-loop-entry l = default_among (map (λ e. e.now) (drop l.entry-index l.partitions)) ≡ default_among (map (λ e. e.now) l.partitions)
