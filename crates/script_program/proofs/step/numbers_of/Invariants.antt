use Rattle.std.proofs.Common.{◌≡◌, ℕ, List, drop}
use Rattle.std.specs.Borrow.{Bor}
use Rattle.std.specs.Map.{lookup}
use Rattle.std.specs.Str.{bytes_eq}
use Rattle.script_program.specs.Steps.{number_from}
use Rattle.script_program.proofs.step.numbers_of.Given as goal

-- the steps from here on have their numbers
abbrev pub invariant-loop-i : goal.invariant-loop-i
invariant-loop-i l = (name : Bor (List ℕ)) → lookup (λ k. bytes_eq name.now k.now) l.numbers.entries ≡ number_from l.i name.now (drop l.i l.steps)
