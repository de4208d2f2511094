use Rattle.history.specs.declared.wait.Wanted.TheVariants.{Others}
use Rattle.stores.proofs.Events.{wait_good}
use Rattle.stores.proofs.Calls.{ask_stand}
use Rattle.stores.proofs.stores.Stores.wait_on.Goals as goal

pub returns-clause-added : goal.returns-clause-added
returns-clause-added c = ask_stand c.args.self.now c.wait_on.new.self c.args.session (Others c.args.what) c.wait_on.result c.wait_on.ensures.added

pub returns-clause-good : goal.returns-clause-good
returns-clause-good c h st = record {
  all = ask_stand c.args.self.now c.wait_on.new.self c.args.session (Others c.args.what) c.wait_on.result c.wait_on.ensures.added h st.all;
  good = wait_good c.wait_on.new.self c.args.session c.args.what c.wait_on.result h (c.wait_on.ensures.added h st.all.locks) st.good;
  leaves = st.leaves;
}
