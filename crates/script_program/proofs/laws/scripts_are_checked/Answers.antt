use Rattle.std.proofs.Common.{refl}
use Rattle.schedule.specs.Run.{Anything}
use Rattle.script_program.specs.Program.{WorkEnds}
use Rattle.script_program.specs.Reading.{Whole}
use Rattle.script_program.specs.declared.work.Work.TheVariants.{Check}
use Rattle.script_program.proofs.Answers.{read_ends}
use Rattle.script_program.proofs.Checks.{check_is}
use Rattle.script_program.proofs.laws.scripts_are_checked.Goals as goal

pub returns : goal.returns
returns g c opened refused words text spec o asked is answers =
    let R = g.D.Database.rules in
    check_is text R refused spec o is (read_ends (WorkEnds R Anything opened refused) words (Whole text) Check text o asked refl answers)
