use Rattle.script_program.specs.Draws.{repeated}
use Rattle.script_program.specs.Loads.{Goes}
use Rattle.script_program.specs.LoadScript.{next_row}
use Rattle.script_program.proofs.load.Load.write_rows_line.Given as goal

-- so many rows stand behind the first one
abbrev pub invariant-loop : goal.invariant-loop
invariant-loop l = Goes (repeated l.counter next_row) l.initial.self l.self
