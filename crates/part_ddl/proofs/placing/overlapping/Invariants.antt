use Rattle.std.proofs.Common.{◌≡◌, drop, map}
use Rattle.std.specs.List.{find}
use Rattle.bound_forms.specs.Bounds.{overlaps}
use Rattle.part_ddl.proofs.placing.overlapping.Given as goal

abbrev pub invariant-loop-i : goal.invariant-loop-i
invariant-loop-i l = find (λ e. overlaps l.bound e.bound) (map (λ e. e.now) (drop l.i l.partitions)) ≡ find (λ e. overlaps l.bound e.bound) (map (λ e. e.now) l.partitions)
