use Rattle.script_program.specs.Draws.{Moves, repeated}
use Rattle.script_program.specs.LoadScript.{one_use}
use Rattle.script_program.proofs.load.Load.write_permutation.Given as goal

-- so many uses are written
abbrev pub invariant-loop : goal.invariant-loop
invariant-loop l = Moves (repeated l.counter one_use) (l.initial.self.state, l.initial.given) l.initial.self.text.items (l.self.state, l.given) l.self.text.items
