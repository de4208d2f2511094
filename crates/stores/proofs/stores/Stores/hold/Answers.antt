use Rattle.std.proofs.Common.{◌≡◌, arith, None, slice_index_or}
use Rattle.std.proofs.lemmas.Grind.{common_steps}
use Rattle.stores.proofs.Calls.{held_stand, held_stays_good}
use Rattle.stores.proofs.stores.Stores.hold.Goals as goal

pub returns-in_ok-snap-clause-added : goal.returns-in_ok-snap-clause-added
returns-in_ok-snap-clause-added c h all =
    let none : slice_index_or c.args.self.now.txs.held c.args.session None ≡ None = grind (arith, common_steps, c.held.ensures.kept) in
    held_stand c.args.self.now c.hold.new.self c.args.session c.args.cmd c.in_ok-snap.snap c.requires.open none c.in_ok-snap.ensures.stands c.hold.ensures.added h all

pub returns-in_ok-snap-clause-good : goal.returns-in_ok-snap-clause-good
returns-in_ok-snap-clause-good c h st at = record {
  all = returns-in_ok-snap-clause-added c h st.all;
  good = held_stays_good c.args.self.now.txs c.args.session c.args.cmd h c.requires.open st.all.txs at st.good;
  leaves = st.leaves;
}
