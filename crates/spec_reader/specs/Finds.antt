-- What a judge found: the fault that is told, or none; but nothing is said where memory ran out. No judge tells of tokens.
use Rattle.std.specs.Prelude.{◌≡◌, Option, Some, None, Result, Ok, Err}
use Rattle.spec_reader.specs.declared.fault.SpecFault.{SpecFault}
use Rattle.spec_reader.specs.declared.fault.SpecFault.TheVariants.{BadToken, Limit, DoubleName, NoPermutation, UnknownStep, UnknownMarker, NoMemory}

abbrev pub Found : SpecFault → Option SpecFault → Type 0
Found NoMemory o = Unit {0}
Found (BadToken line) o = ⊥
Found (Limit w) o = o ≡ Some (Limit w)
Found (DoubleName n) o = o ≡ Some (DoubleName n)
Found NoPermutation o = o ≡ Some NoPermutation
Found (UnknownStep n) o = o ≡ Some (UnknownStep n)
Found (UnknownMarker n) o = o ≡ Some (UnknownMarker n)

abbrev pub Finds : {X : Type 0} → Result X SpecFault → Option SpecFault → Type 0
Finds (Ok x) o = o ≡ None
Finds (Err f) o = Found f o
