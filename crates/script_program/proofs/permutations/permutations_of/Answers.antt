use Rattle.script_program.proofs.Known.{permutations_known}
use Rattle.script_program.proofs.permutations.permutations_of.Goals as goal

pub returns-clause-known : goal.returns-clause-known
returns-clause-known c = rw c.in_ok-all.ensures (permutations_known c.args.script.now)
