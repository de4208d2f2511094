use Rattle.schedule.specs.Counts.{AreCounted}
use Rattle.schedule.specs.Run.{World}
use Rattle.schedule.specs.Stands.{Stands}
use Rattle.schedule.specs.Weight.{measure}
use Rattle.schedule.proofs.engine.Engine.count_to_end.Given as goal

abbrev pub invariant-loop-event : goal.invariant-loop-event
invariant-loop-event g l = (w : World g.D.Database.State) → Stands g.D.Database l.initial.self w → AreCounted g.D.Database w l.self l.initial.counts l.counts

abbrev pub decreases-loop-event : goal.decreases-loop-event
decreases-loop-event g l = measure g.D.Database l.self
