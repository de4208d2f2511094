use Rattle.history.specs.declared.wait.Wanted.TheVariants.{Lock}
use Rattle.stores.proofs.Events.{request_good}
use Rattle.stores.proofs.Calls.{ask_stand}
use Rattle.stores.proofs.stores.Stores.request.Goals as goal

pub returns-clause-added : goal.returns-clause-added
returns-clause-added c = ask_stand c.args.self.now c.request.new.self c.args.session (Lock c.args.table c.args.mode) c.request.result c.request.ensures.added

pub returns-clause-good : goal.returns-clause-good
returns-clause-good c h st known = record {
  all = ask_stand c.args.self.now c.request.new.self c.args.session (Lock c.args.table c.args.mode) c.request.result c.request.ensures.added h st.all;
  good = request_good c.request.new.self c.args.session c.args.table c.args.mode c.request.result h (c.request.ensures.added h st.all.locks) known st.good;
  leaves = st.leaves;
}
