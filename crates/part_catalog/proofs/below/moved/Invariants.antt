use Rattle.std.proofs.Common.{◌≡◌, ◌++◌, drop}
use Rattle.part_catalog.specs.Moved.{moved}
use Rattle.part_catalog.proofs.below.moved.Given as goal

abbrev pub invariant-loop-number : goal.invariant-loop-number
invariant-loop-number l = l.found.items ++ moved l.places (drop l.number-index l.numbers) ≡ moved l.places l.numbers
