use Rattle.std.proofs.Common.{◌≡◌, drop}
use Rattle.std.specs.List.{list_any}
use Rattle.script_program.specs.Tasks.{is_waiting}
use Rattle.script_program.proofs.tasks.is_starred.Given as goal

abbrev pub invariant-loop-marker : goal.invariant-loop-marker
invariant-loop-marker l = list_any is_waiting (drop l.marker-index l.markers) ≡ list_any is_waiting l.markers
