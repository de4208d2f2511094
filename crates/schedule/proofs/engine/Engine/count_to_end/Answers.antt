use Rattle.std.proofs.Common.{◌≡◌, sym, ◌∙◌, rules, None}
use Rattle.schedule.proofs.Counting.{counted_first, counted_on}
use Rattle.schedule.proofs.Weights.{falls}
use Rattle.schedule.proofs.engine.Engine.count_to_end.Goals as goal

pub loop-event-init : goal.loop-event-init
loop-event-init g c = λ w st. counted_first g.D.Database g.met.D.Database.stands_are_good w _ _ st

pub loop-event-smaller : goal.loop-event-smaller
loop-event-smaller g c = falls g.D.Database _ _ c.in_ok-counts.ensures.falls

pub loop-event-preserved : goal.loop-event-preserved
loop-event-preserved g c = λ w st.
    let so = c.loop-event.invariant w st in
    counted_on g.D.Database g.met.D.Database.stands_are_good w _ _ c.in-Some.event _ _ _ so (sym (c.next.ensures.is so.last so.stands) ∙ c.in-Some.is) c.in_ok-counts.ensures.leaves c.in_ok-counts.ensures.counts

pub returns-clause-ends : goal.returns-clause-ends
returns-clause-ends g c w st =
    let none : c.next.result ≡ None = search rules in
    sym (c.next.ensures.is w st) ∙ none
