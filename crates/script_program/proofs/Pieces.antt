-- What was read in two pieces.
use Rattle.std.proofs.Common.{◌≤◌, ℕ, ◌+◌, List, ◌++◌, Option, length, length-append, arith}
use Rattle.std.specs.Io.KnownBytes.{Consumes}
use Rattle.std.proofs.KnownBytes.{Consumes-trans}
use Rattle.script_program.specs.Reading.{GivesWithin}

pub one_more : (limit : ℕ) (old mid new : Option (List ℕ)) (bytes piece : List ℕ) → Consumes old mid bytes → Consumes mid new piece → length bytes + length piece ≤ limit → GivesWithin limit old new
one_more limit old mid new bytes piece a b few = record { bytes = bytes ++ piece; given = Consumes-trans old mid new bytes piece a b; within = omega (arith, length-append bytes piece, few) }
