use Rattle.schedule.specs.Run.{Anything}
use Rattle.script_program.specs.Program.{WorkBegins, WorkEnds}
use Rattle.script_program.proofs.Answers.{answer_begins}
use Rattle.script_program.proofs.Works.{work_begins}
use Rattle.script_program.proofs.laws.outcomes_begin_so.Goals as goal

pub returns : goal.returns
returns g c opened refused words =
    let R = g.D.Database.rules in
    answer_begins (WorkEnds R Anything opened refused) words (WorkBegins R Anything opened refused) (work_begins R Anything opened refused)
