-- What a call reads of its input.
use Rattle.std.specs.Prelude.{◌≡◌, ℕ, ◌+◌, ◌≤◌, List, Option, length}
use Rattle.std.specs.Io.KnownBytes.{Consumes, IsAtEnd, Keeps}
use Rattle.pg_values.specs.Faults.{Rose}
use Rattle.pg_values.specs.declared.outside.Source.{Ghosts}
use Rattle.script_program.specs.declared.input.ReadRefused.{ReadRefused}
use Rattle.script_program.specs.declared.input.ReadRefused.TheVariants as refusals
use Rattle.script_program.specs.declared.input.TheConstants.{INPUT_LIMIT}

pub data Reading : Type 0 where
  Unread : Reading  -- nothing
  Partly : Reading  -- some bytes, until memory ran out
  Whole : (text : List ℕ) → Reading  -- all of it, within the limit
  TooLong : Reading  -- the first byte past the limit, and nothing behind it
  Broken : Reading  -- at most the limit, until a read failed

-- at most so many bytes came
pub record GivesWithin (limit : ℕ) (old new : Option (List ℕ)) : Type 0 where
  pub bytes : List ℕ
  pub given : Consumes old new bytes
  pub within : length bytes ≤ limit

-- one byte more than the limit came
pub record GivesPast (limit : ℕ) (old new : Option (List ℕ)) : Type 0 where
  pub bytes : List ℕ
  pub given : Consumes old new bytes
  pub past : length bytes ≡ limit + 1

-- all came, and then the end
pub record GivesAll (limit : ℕ) (old new : Option (List ℕ)) (text : List ℕ) : Type 0 where
  pub given : Consumes old new text
  pub ended : IsAtEnd new
  pub within : length text ≤ limit

-- the source gave this, and counted a failed read exactly where one is told
abbrev pub Gives : {S : Type 0} (g : Ghosts S) → S → S → Reading → Type 0
Gives {S} g old new Unread = Keeps (g.left old) (g.left new) × (g.faults new ≡ g.faults old)
Gives {S} g old new Partly = GivesWithin (INPUT_LIMIT + 1) (g.left old) (g.left new) × (g.faults new ≡ g.faults old)
Gives {S} g old new (Whole text) = GivesAll INPUT_LIMIT (g.left old) (g.left new) text × (g.faults new ≡ g.faults old)
Gives {S} g old new TooLong = GivesPast INPUT_LIMIT (g.left old) (g.left new) × (g.faults new ≡ g.faults old)
Gives {S} g old new Broken = GivesWithin INPUT_LIMIT (g.left old) (g.left new) × Rose (g.faults old) (g.faults new)

-- what was read where the input was not read to its end
abbrev pub reading_of : ReadRefused → Reading
reading_of refusals.TooLarge = TooLong
reading_of refusals.Fault = Broken
reading_of refusals.NoMemory = Partly
