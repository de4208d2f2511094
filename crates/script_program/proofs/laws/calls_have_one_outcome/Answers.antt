use Rattle.schedule.specs.Run.{Anything}
use Rattle.script_program.specs.Program.{WorkEnds}
use Rattle.script_program.proofs.Answers.{one_answer}
use Rattle.script_program.proofs.Works.{one_work}
use Rattle.script_program.proofs.laws.calls_have_one_outcome.Goals as goal

pub returns : goal.returns
returns g c opened refused words = let R = g.D.Database.rules in one_answer (WorkEnds R Anything opened refused) words (one_work R Anything opened refused)
