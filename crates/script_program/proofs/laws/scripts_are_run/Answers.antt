use Rattle.std.proofs.Common.{refl}
use Rattle.schedule.specs.Run.{Anything}
use Rattle.schedule.proofs.Ends.{good_at}
use Rattle.script_program.specs.Program.{WorkEnds}
use Rattle.script_program.specs.Reading.{Whole}
use Rattle.script_program.specs.Texts.{beginning}
use Rattle.script_program.specs.declared.work.Work.TheVariants.{Run}
use Rattle.script_program.proofs.Answers.{read_ends}
use Rattle.script_program.proofs.Texts.{script_ends}
use Rattle.script_program.proofs.laws.scripts_are_run.Goals as goal

pub returns : goal.returns
returns g c =
    let R = g.D.Database.rules in
    record {
      run = λ opened trail refused words text spec o asked is answers.
          script_ends text R Anything (opened trail) spec o is (read_ends (WorkEnds R Anything opened refused) words (Whole text) (Run trail) text o asked refl answers);
      good = λ opened trail refused words text spec o lines w asked is answers reaches.
          let ends = script_ends text R g.D.Database.good (opened trail) spec o is (read_ends (WorkEnds R g.D.Database.good opened refused) words (Whole text) (Run trail) text o asked refl answers) in
          good_at R g.D.Database.good (beginning R (opened trail spec) spec) ends.lines ends.last ends.runs.reaches ends.runs.ends ends.good lines w reaches;
    }
