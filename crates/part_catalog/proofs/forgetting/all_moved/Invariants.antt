use Rattle.std.proofs.Common.{◌≡◌, ◌++◌, drop, map}
use Rattle.part_catalog.specs.Moved.{moved}
use Rattle.part_catalog.proofs.forgetting.all_moved.Given as goal

abbrev pub invariant-loop-list : goal.invariant-loop-list
invariant-loop-list l = l.lists.items ++ map (moved l.places) (drop l.list-index l.below) ≡ map (moved l.places) l.below
