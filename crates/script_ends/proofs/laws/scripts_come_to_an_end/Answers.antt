use Rattle.std.proofs.Common.{◌+◌, ◌≤◌, length, arith}
use Rattle.script_program.specs.Tasks.{permutations_of}
use Rattle.script_program.proofs.Known.{permutations_known}
use Rattle.script_program.proofs.Limits.{few_sessions}
use Rattle.step_engine.specs.Run.{options}
use Rattle.script_ends.proofs.laws.scripts_come_to_an_end.Goals as goal

pub returns : goal.returns
returns c trail text script is =
    let few = few_sessions text script is in
    c.runs_of_statements_come_to_an_end.ensures (options trail script) (length script.sessions + 1) (permutations_of script) (omega (arith, few)) (permutations_known script)
