use Rattle.std.proofs.Common.{◌≡◌, ℕ, [], inl, refl, ap, subst, ◌∙◌}
use Rattle.schedule.specs.Counts.{IsCounted}
use Rattle.schedule.specs.Run.{start}
use Rattle.schedule.specs.declared.tally.Tally.{Tally}
use Rattle.script_program.specs.Outcomes.{Outcome, Stopped}
use Rattle.script_program.specs.Seeded.{RunCounts, told_of}
use Rattle.script_program.specs.Tasks.{permutations_of}
use Rattle.script_program.proofs.Endings.{ends_more, nothing, nothing_of}
use Rattle.script_program.proofs.SeedLaws.{at_once_more}
use Rattle.script_program.proofs.seeded.count_over.Goals as goal

pub returns-in-Ok : goal.returns-in-Ok
returns-in-Ok g c v st =
    let R = g.D.Database.rules in
    let Good = g.D.Database.good in
    let script = c.args.script.now in
    let x = c.in-Ok.counted in
    let came = c.in-Ok.ensures v st in
    let more : (o : Outcome) → o ≡ told_of R script c.args.seed x.counts c.tally-tally.result x.end → RunCounts R Good v script c.args.seed o = λ o same. record {
      end = x.end;
      counts = x.counts;
      last = came.0;
      counted = subst (λ (n : ℕ). IsCounted R Good (start R v n (permutations_of script)) x.end x.counts came.0) c.requires came.1;
      is = same ∙ ap (λ (t : Tally). told_of R script c.args.seed x.counts t x.end) (c.tally-tally.ensures came.0.db came.2);
    } in
    ends_more g.K.Sink g.E.Sink _ _ _ _ _ _ _ (RunCounts R Good v script c.args.seed) _ more (at_once_more _ (RunCounts R Good v script c.args.seed) more) c.tell.ensures

pub returns-in-Err : goal.returns-in-Err
returns-in-Err g c v st = Stopped [] (inl refl) refl (nothing_of g.K.Sink _ []) (nothing g.E.Sink _)
