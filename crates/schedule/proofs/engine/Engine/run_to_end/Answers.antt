use Rattle.std.proofs.Common.{◌≡◌, sym, ◌∙◌, refl, rules, None}
use Rattle.schedule.proofs.Results.{if_err}
use Rattle.schedule.proofs.Runs.{at_first, on_with, cut_at, are_printed}
use Rattle.schedule.proofs.Weights.{falls}
use Rattle.schedule.proofs.engine.Engine.run_to_end.Goals as goal

pub loop-event-init : goal.loop-event-init
loop-event-init g c = record { so_far = λ w st. at_first g.D.Database g.met.D.Database.stands_are_good w _ _ st; kept = refl }

pub loop-event-smaller : goal.loop-event-smaller
loop-event-smaller g c = falls g.D.Database _ _ c.in_ok-event.ensures.falls

pub loop-event-preserved : goal.loop-event-preserved
loop-event-preserved g c = record {
  so_far = λ w st.
      let so = c.loop-event.invariant.so_far w st in
      on_with g.D.Database g.met.D.Database.stands_are_good w _ _ c.in-Some.event _ _ _ so (sym (c.next.ensures.is so.world so.stands) ∙ c.in-Some.is) c.in_ok-event.ensures.leaves c.in_ok-event.ensures.writes;
  kept = search rules;
}

pub returns-in_err-event-clause-cut : goal.returns-in_err-event-clause-cut
returns-in_err-event-clause-cut g c = if_err c.from_residual.result _ (λ w st.
    let so = c.loop-event.invariant.so_far w st in
    cut_at g.D.Database g.met.D.Database.stands_are_good w _ _ c.in-Some.event _ _ _ so (sym (c.next.ensures.is so.world so.stands) ∙ c.in-Some.is) c.in_err-event.ensures.begins)

pub returns-clause-done : goal.returns-clause-done
returns-clause-done g c w st =
    let so = c.loop-event.invariant.so_far w st in
    let none : c.next.result ≡ None = search rules in
    are_printed g.D.Database g.met.D.Database.stands_are_good w _ _ _ so (sym (c.next.ensures.is so.world so.stands) ∙ none)
