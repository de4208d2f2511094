-- What a call comes to whose writes do not fail, and that finds memory.
use Rattle.std.specs.Prelude.{◌≡◌, ℕ, List, ◌++◌}
use Rattle.schedule.specs.Run.{Anything}
use Rattle.script_program.specs.Outcomes.{Outcome}
use Rattle.script_program.specs.Program.{Answers, WorkEnds}
use Rattle.script_program.specs.Reading.{Reading}
use Rattle.step_engine.specs.Run.{rules, opened, refused}

-- a call with these words, which reads this, comes to that
abbrev pub ComesTo : (words : List (List ℕ)) → Reading → Outcome → Type 0
ComesTo words r o = Answers (WorkEnds rules Anything opened refused) words r o

-- it comes to something
pub record HasOutcome (words : List (List ℕ)) (r : Reading) : Type 0 where
  pub outcome : Outcome
  pub is : ComesTo words r outcome

-- .. that begins with these bytes
pub record HasOutcomeBehind (words : List (List ℕ)) (r : Reading) (bytes : List ℕ) : Type 0 where
  pub outcome : Outcome
  pub is : ComesTo words r outcome
  pub rest : List ℕ
  pub whole : bytes ++ rest ≡ outcome.out
