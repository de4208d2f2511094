use Rattle.schedule.proofs.Tasks.{rest_known}
use Rattle.schedule.proofs.engine.Engine.settle.Goals as goal

pub invariant_of-self : goal.invariant_of-self
invariant_of-self g c = record {
  counted = c.args.self.now.counted;
  seated = c.args.self.now.seated;
  known = rw c.others-self.ensures (rest_known _ _ c.args.self.now.known);
  known_later = c.args.self.now.known_later;
  holding = c.args.self.now.holding;
  acting = c.args.self.now.acting;
  free = λ s e. absurd (let h = c.requires.idle in cc);
}
