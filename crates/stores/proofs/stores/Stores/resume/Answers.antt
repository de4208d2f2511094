use Rattle.history.specs.Locks.{WaitResumed}
use Rattle.stores.proofs.Events.{resumed_good}
use Rattle.stores.proofs.Calls.{lock_stand}
use Rattle.stores.proofs.stores.Stores.resume.Goals as goal

pub returns-clause-added : goal.returns-clause-added
returns-clause-added c = lock_stand c.args.self.now c.resume.new.self (WaitResumed c.args.session) c.resume.ensures.added

pub returns-clause-good : goal.returns-clause-good
returns-clause-good c h st = record {
  all = lock_stand c.args.self.now c.resume.new.self (WaitResumed c.args.session) c.resume.ensures.added h st.all;
  good = resumed_good c.args.session h (c.requires.ready h st.all.locks) st.good;
  leaves = st.leaves;
}
