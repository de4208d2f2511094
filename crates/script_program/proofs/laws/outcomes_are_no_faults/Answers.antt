use Rattle.schedule.specs.Run.{Anything}
use Rattle.script_program.proofs.Causes.{no_fault}
use Rattle.script_program.proofs.laws.outcomes_are_no_faults.Goals as goal

pub returns : goal.returns
returns g c = no_fault g.D.Database.rules Anything
