use Rattle.std.proofs.Common.{◌≡◌}
use Rattle.schedule.specs.Run.{World}
use Rattle.schedule.specs.Stands.{Stands}
use Rattle.schedule.specs.Weight.{measure}
use Rattle.schedule.proofs.Runs.{SoFar}
use Rattle.schedule.proofs.engine.Engine.run_to_end.Given as goal

abbrev pub invariant-loop-event : goal.invariant-loop-event
invariant-loop-event g l = record {
  so_far : (w : World g.D.Database.State) → Stands g.D.Database l.initial.self w → SoFar g.D.Database w l.self (g.K.Sink.taken l.initial.out) (g.K.Sink.taken l.out);
  kept : g.K.Sink.faults l.out ≡ g.K.Sink.faults l.initial.out;
}

abbrev pub decreases-loop-event : goal.decreases-loop-event
decreases-loop-event g l = measure g.D.Database l.self
