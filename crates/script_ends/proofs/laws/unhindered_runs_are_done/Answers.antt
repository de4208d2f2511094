use Rattle.std.proofs.Common.{refl}
use Rattle.script_program.specs.Program.{WorkBegins, WorkEnds}
use Rattle.script_program.specs.declared.work.Work.TheVariants as works
use Rattle.step_engine.specs.Run.{rules, opened, refused, HoldsThroughout}
use Rattle.script_ends.specs.Complete.{IsWholeRun}
use Rattle.script_ends.proofs.Done.{is_done, run_is_whole}
use Rattle.script_ends.proofs.laws.unhindered_runs_are_done.Goals as goal

pub returns : goal.returns
returns g c words trail text script input input' out out' err err' ended asked is none free call =
    is_done g.S.Source g.K.Sink g.E.Sink text input input' out out' err err' free (WorkEnds rules HoldsThroughout opened refused) (WorkBegins rules HoldsThroughout opened refused) words (works.Run trail) asked refl
    (IsWholeRun trail script) (λ o found. run_is_whole trail text script o is none found) ended call
