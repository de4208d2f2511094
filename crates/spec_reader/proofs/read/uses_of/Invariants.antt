use Rattle.std.proofs.Common.{◌≡◌}
use Rattle.spec_reader.specs.Specs.{uses_of}
use Rattle.spec_reader.proofs.read.uses_of.Given as goal

abbrev pub invariant-loop-one : goal.invariant-loop-one
invariant-loop-one l = l.uses.items ≡ uses_of l.yielded
