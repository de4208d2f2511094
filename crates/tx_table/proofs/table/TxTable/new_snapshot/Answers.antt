use Rattle.std.proofs.Common.{◌≡◌, Some, None, slice_index_or, sym, ap, subst, ◌∙◌, length, arith}
use Rattle.std.proofs.lemmas.Grind.{common_steps}
use Rattle.history.specs.History.{tx_events, snapshot_events}
use Rattle.tx_table.specs.Kept.{KeptTable}
use Rattle.tx_table.specs.Stands.{TableStands}
use Rattle.tx_table.proofs.Tables.{fresh_stands, somes_short}
use Rattle.tx_table.proofs.table.TxTable.new_snapshot.Goals as goal

pub returns-clause-stands : goal.returns-clause-stands
returns-clause-stands c h st =
    let S : KeptTable → Type 0 = λ k. TableStands k h in
    let at : slice_index_or c.self.inside.current.items c.args.session None ≡ Some c.unwrap-own.result =
    sym (ap (λ xs. slice_index_or xs c.args.session None) c.deref.ensures.value) ∙ sym c.open_in.ensures ∙ c.unwrap-own.ensures in
    let n : c.len.result ≡ length c.self.inside.fates.items = grind (arith, common_steps) in
    rw (n, c.in_ok-running_in.ensures, c.deref-2.ensures.value) (fresh_stands _ (tx_events h) (snapshot_events h) c.args.session c.unwrap-own.result c.self.invariant at (subst S (sym c.self.view_is) st))

pub invariant_of-result : goal.invariant_of-result
invariant_of-result c = rw (c.in_ok-running_in.ensures, c.deref-2.ensures.value) (omega (arith, somes_short c.self.inside.current.items, c.self.invariant.few))
