use Rattle.std.proofs.Common.{◌≡◌, refl}
use Rattle.script_program.specs.Checks.{checked}
use Rattle.script_program.specs.Program.{WorkBegins, WorkEnds}
use Rattle.script_program.specs.declared.work.Work.TheVariants as works
use Rattle.step_engine.specs.Run.{rules, opened, refused, HoldsThroughout}
use Rattle.script_ends.proofs.Done.{is_done, check_is_whole}
use Rattle.script_ends.proofs.laws.unhindered_checks_are_done.Goals as goal

pub returns : goal.returns
returns g c words text script input input' out out' err err' ended asked is free call =
    is_done g.S.Source g.K.Sink g.E.Sink text input input' out out' err err' free (WorkEnds rules HoldsThroughout opened refused) (WorkBegins rules HoldsThroughout opened refused) words works.Check asked refl
    (λ bytes. bytes ≡ checked rules refused script) (λ o found. check_is_whole text script o is found) ended call
