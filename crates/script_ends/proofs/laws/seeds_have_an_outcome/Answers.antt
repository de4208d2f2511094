use Rattle.std.proofs.Common.{false, refl}
use Rattle.script_program.specs.LoadScript.{load}
use Rattle.schedule.specs.Counts.{counts_of, none}
use Rattle.schedule.proofs.Runs.{over_anything}
use Rattle.script_program.specs.Program.{Made}
use Rattle.script_program.specs.Seeded.{Accepted, told_of}
use Rattle.script_program.specs.declared.work.Work.TheVariants as works
use Rattle.step_engine.specs.Run.{rules}
use Rattle.script_ends.proofs.laws.seeds_have_an_outcome.Goals as goal

pub returns : goal.returns
returns c words seed script asked is =
    let whole = c.scripts_come_to_an_end.ensures false (load seed) script is in
    let n = counts_of none whole.runs.reaches in
    record {
      outcome = told_of rules script seed n (rules.tally whole.last.db) whole.last.end;
      is = Made (works.Load seed) asked refl refl
          (Accepted script is (record {
            end = whole.last.end;
            counts = n;
            last = whole.last;
            counted = record { lines = whole.lines; runs = whole.runs; good = over_anything _ _ _ _ whole.runs.reaches; counts = refl; ends = refl };
            is = refl;
          }));
    }
