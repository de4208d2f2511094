use Rattle.lock_table.specs.declared.asked.Asked.TheVariants.{Granted}
use Rattle.history.specs.declared.wait.Wanted.TheVariants.{Lock}
use Rattle.stores.proofs.Events.{request_good}
use Rattle.stores.proofs.Calls.{ask_stand}
use Rattle.stores.proofs.stores.Stores.take_unopposed.Goals as goal

pub returns-clause-good : goal.returns-clause-good
returns-clause-good c t h st known = record {
  all = ask_stand c.args.self.now c.take_unopposed.new.self c.args.session (Lock c.args.table c.args.mode) Granted (c.take_unopposed.ensures.added t) h st.all;
  good = request_good c.take_unopposed.new.self c.args.session c.args.table c.args.mode Granted h (c.take_unopposed.ensures.added t h st.all.locks) known st.good;
  leaves = st.leaves;
}
