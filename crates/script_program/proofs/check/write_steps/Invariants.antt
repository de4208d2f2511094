use Rattle.std.proofs.Common.{◌≡◌, ◌++◌, take}
use Rattle.std.specs.List.{flat_map}
use Rattle.script_program.specs.Checks.{block_line, step_block}
use Rattle.script_program.proofs.check.write_steps.Given as goal

-- the lines of the steps so far
abbrev pub invariant-loop-step : goal.invariant-loop-step
invariant-loop-step g l = l.out.items ≡ l.initial.out.items ++ flat_map (λ step. block_line g.O.Db.Database.rules g.O.Opener.refused (step_block step)) (take l.step-index l.steps)
