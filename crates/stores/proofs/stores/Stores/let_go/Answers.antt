use Rattle.stores.proofs.Events.{let_go_good}
use Rattle.stores.proofs.Calls.{let_go_stand}
use Rattle.stores.proofs.stores.Stores.let_go.Goals as goal

pub returns-clause-added : goal.returns-clause-added
returns-clause-added c = let_go_stand c.args.self.now c.drop_held.new.self c.snapshot_gone.new.self c.args.session c.drop_held.ensures.added c.snapshot_gone.ensures.added

pub returns-clause-good : goal.returns-clause-good
returns-clause-good c h st = record {
  all = let_go_stand c.args.self.now c.drop_held.new.self c.snapshot_gone.new.self c.args.session c.drop_held.ensures.added c.snapshot_gone.ensures.added h st.all;
  good = let_go_good c.args.session h st.good;
  leaves = st.leaves;
}
