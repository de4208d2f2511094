use Rattle.std.proofs.Common.{◌≡◌, map}
use Rattle.spec_reader.specs.Specs.{uses_of}
use Rattle.spec_reader.proofs.read.permutations_of.Given as goal

abbrev pub invariant-loop-uses : goal.invariant-loop-uses
invariant-loop-uses l = l.permutations.items ≡ map uses_of l.yielded
