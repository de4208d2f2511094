use Rattle.std.proofs.Common.{refl}
use Rattle.schedule.proofs.Runs.{over_anything}
use Rattle.script_program.specs.Program.{Read}
use Rattle.script_program.specs.Texts.{Accepted, outcome_of, printed}
use Rattle.script_program.specs.declared.work.Work.TheVariants as works
use Rattle.step_engine.specs.Run.{rules}
use Rattle.script_ends.proofs.laws.scripts_have_an_outcome.Goals as goal

pub returns : goal.returns
returns c words trail text script run is =
    let whole = c.scripts_come_to_an_end.ensures trail text script is in
    let o = outcome_of rules script (printed script whole.lines) whole.last.end in
    record {
      outcome = o;
      is = Read (works.Run trail) text run refl refl (Accepted script is (record { lines = whole.lines; last = whole.last; runs = whole.runs; good = over_anything _ _ _ _ whole.runs.reaches; is = refl }));
    }
