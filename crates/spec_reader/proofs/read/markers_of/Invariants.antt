use Rattle.std.proofs.Common.{◌≡◌}
use Rattle.spec_reader.specs.Specs.{markers_of}
use Rattle.spec_reader.proofs.read.markers_of.Given as goal

abbrev pub invariant-loop-marker : goal.invariant-loop-marker
invariant-loop-marker l = l.markers.items ≡ markers_of l.yielded
