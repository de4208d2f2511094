use Rattle.schedule.specs.Run.{Anything}
use Rattle.script_program.specs.Program.{WorkBegins, WorkEnds}
use Rattle.script_program.proofs.Answers.{answers_more, begins_more}
use Rattle.script_program.proofs.Works.{work_begins_anyhow, work_ends_anyhow}
use Rattle.script_program.proofs.laws.good_outcomes_are_outcomes.Goals as goal

pub returns : goal.returns
returns g c =
    let R = g.D.Database.rules in
    let Good = g.D.Database.good in
    record {
      ends = λ opened refused words. answers_more (WorkEnds R Good opened refused) (WorkEnds R Anything opened refused) words (work_ends_anyhow R Good opened refused);
      begins = λ opened refused words. begins_more (WorkBegins R Good opened refused) (WorkBegins R Anything opened refused) words (work_begins_anyhow R Good opened refused);
    }
