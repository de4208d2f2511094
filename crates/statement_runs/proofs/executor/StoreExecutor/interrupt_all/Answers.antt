use Rattle.std.proofs.Common.{◌∙◌, refl, arith, get_or, map}
use Rattle.prepared_statements.specs.Kept.{listed}
use Rattle.statement_runs.specs.Kept.{StandsFor}
use Rattle.statement_runs.proofs.Cuts.{next_cut}
use Rattle.statement_runs.proofs.executor.StoreExecutor.interrupt_all.Goals as goal

pub loop-session-preserved : goal.loop-session-preserved
loop-session-preserved c =
    let i = c.loop-session.invariant in
    let e = c.in_ok-interrupt.ensures in
    record {
      options = e.options ∙ i.options;
      prepared = e.prepared ∙ i.prepared;
      opened = e.opened ∙ i.opened;
      rests = e.rests ∙ i.rests;
      stands = λ v s. let x = i.stands v s in
          next_cut (λ y. StandsFor c.interrupt.new.self.options c.interrupt.new.self.seats (map listed c.interrupt.new.self.prepared.items) c.interrupt.new.self.cut.items c.interrupt.new.self.tally y) v x.0 c.args.sessions.now c.loop-session.session-index
          (get_or c.args.sessions.now c.loop-session.session-index 0) (omega arith) refl x.2 (e.stands x.0 x.1);
      others = λ s off. e.others s (i.others s off);
      lower = let a = e.lower in let b = i.lower in omega (arith, a, b);
    }
