use Rattle.std.proofs.Common.{◌≡◌, ◌<◌, None, slice_index_or, sym, subst, length, arith}
use Rattle.std.proofs.lemmas.Grind.{common_steps}
use Rattle.history.specs.History.{tx_events, snapshot_events}
use Rattle.tx_table.specs.Kept.{KeptTable}
use Rattle.tx_table.specs.Stands.{TableStands}
use Rattle.tx_table.proofs.Tables.{begun_kept, begun_stands}
use Rattle.tx_table.proofs.table.TxTable.begin.Goals as goal

pub invariant_of-self-2 : goal.invariant_of-self-2
invariant_of-self-2 c =
    let n : c.len-number.result ≡ length c.self.inside.fates.items = grind (arith, common_steps) in
    let K : KeptTable → Type 0 = λ k. c.args.session < length k.current in
    let F : KeptTable → Type 0 = λ k. slice_index_or k.current c.args.session None ≡ None in
    rw (c.in_ok-push.ensures.items, c.in_ok-push-2.ensures.items, c.reserve.ensures.items, c.reserve-2.ensures.items, n) (begun_kept _ c.args.session c.self.invariant (subst K (sym c.self.view_is) c.requires.known) (subst F (sym c.self.view_is) c.requires.none))

pub returns-clause-added : goal.returns-clause-added
returns-clause-added c h st =
    let n : c.len-number.result ≡ length c.self.inside.fates.items = grind (arith, common_steps) in
    let K : KeptTable → Type 0 = λ k. c.args.session < length k.current in
    let F : KeptTable → Type 0 = λ k. slice_index_or k.current c.args.session None ≡ None in
    let S : KeptTable → Type 0 = λ k. TableStands k h in
    rw (c.in_ok-push.ensures.items, c.in_ok-push-2.ensures.items, c.reserve.ensures.items, c.reserve-2.ensures.items)
    (begun_stands _ (tx_events h) (snapshot_events h) c.args.session c.len-number.result n c.self.invariant.both (subst K (sym c.self.view_is) c.requires.known) (subst F (sym c.self.view_is) c.requires.none) (subst S (sym c.self.view_is) st))
