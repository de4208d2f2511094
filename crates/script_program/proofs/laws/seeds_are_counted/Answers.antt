use Rattle.std.proofs.Common.{refl}
use Rattle.schedule.specs.Run.{Anything}
use Rattle.script_program.specs.Program.{WorkEnds}
use Rattle.script_program.specs.declared.work.Work.TheVariants.{Load}
use Rattle.script_program.proofs.Answers.{made_ends}
use Rattle.script_program.proofs.laws.seeds_are_counted.Goals as goal

pub returns : goal.returns
returns g c opened refused words r seed o asked answers = made_ends (WorkEnds g.D.Database.rules Anything opened refused) words r (Load seed) o asked refl answers
