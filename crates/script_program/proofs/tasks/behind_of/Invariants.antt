use Rattle.std.proofs.Common.{◌≡◌, take}
use Rattle.std.specs.List.{flat_map}
use Rattle.script_program.specs.Tasks.{behind_marker}
use Rattle.script_program.proofs.tasks.behind_of.Given as goal

abbrev pub invariant-loop-marker : goal.invariant-loop-marker
invariant-loop-marker l = l.behind.items ≡ flat_map (behind_marker l.steps) (take l.marker-index l.markers)
