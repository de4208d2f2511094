-- Blocks of SQL as plain data, and what is noted of the block that a session runs.
use Rattle.std.specs.Prelude.{ℕ, Bool, true, false, List, [], slice_index_or}
use Rattle.schedule.specs.declared.block.BlockKind.{BlockKind}
use Rattle.schedule.specs.declared.block.BlockKind.TheVariants.{Setup, Step, Teardown, ControlTeardown}

-- a block at its place in a permutation
pub record BlockView : Type 0 where
  pub kind : BlockKind
  pub session : ℕ  -- 0 is the control session
  pub step : ℕ  -- the number of a step
  pub name : List ℕ  -- that of a step, or of the session of a teardown
  pub text : List ℕ
  pub starred : Bool  -- a step has the marker `(*)`
  pub behind : List ℕ  -- the steps that its markers name

-- the block that a session runs, or ran last
pub record Seated : Type 0 where
  pub kind : BlockKind
  pub step : ℕ
  pub name : List ℕ
  pub text : List ℕ
  pub starred : Bool
  pub behind : List ℕ
  pub waited : Bool  -- it was reported as waiting
  pub is_open : Bool  -- it is a step whose end was not reported

abbrev pub is_step : BlockKind → Bool
is_step Setup = false
is_step Step = true
is_step Teardown = false
is_step ControlTeardown = false

-- a session that has run nothing
abbrev pub no_seat : Seated
no_seat = record { kind = Setup; step = 0; name = []; text = []; starred = false; behind = []; waited = false; is_open = false }

abbrev pub seat_at : List Seated → ℕ → Seated
seat_at seats s = slice_index_or seats s no_seat

-- the block was launched: with `(*)` it is reported as waiting at once
abbrev pub seat_of : BlockView → Seated
seat_of b = record { kind = b.kind; step = b.step; name = b.name; text = b.text; starred = b.starred; behind = b.behind; waited = b.starred; is_open = is_step b.kind }
