use Rattle.std.proofs.Common.{◌≡◌, ◌<◌, sym, subst, arith, length}
use Rattle.std.proofs.lemmas.Grind.{common_steps, elements}
use Rattle.tx_table.specs.Kept.{KeptTable}
use Rattle.tx_table.specs.Stands.{IsOpen}
use Rattle.tx_table.proofs.Tables.{ended_kept, some_below}
use Rattle.tx_table.proofs.table.TxTable.end.Goals as goal

pub index-owner-requires : goal.index-owner-requires
index-owner-requires c =
    let P : KeptTable → Type 0 = λ k. IsOpen k c.args.tx.number in
    let o = subst P (sym c.self.view_is) c.requires.running in
    let known = (c.self.invariant.each o.0 c.args.tx.number o.1).known in
    let both = c.self.invariant.both in
    grind (arith, common_steps)

pub index_mut-requires-2 : goal.index_mut-requires-2
index_mut-requires-2 c =
    let P : KeptTable → Type 0 = λ k. IsOpen k c.args.tx.number in
    let o = subst P (sym c.self.view_is) c.requires.running in
    let mine = c.self.invariant.each o.0 c.args.tx.number o.1 in
    let both = c.self.invariant.both in
    let known : c.args.tx.number < length c.self.inside.owners.items = grind (arith, common_steps) in
    let owner : c.index-owner.result.now ≡ o.0 = grind (arith, common_steps, elements, mine.own, c.index-owner.ensures) in
    let below = some_below _ o.0 c.args.tx.number o.1 in
    grind (arith, common_steps)

pub invariant_of-self : goal.invariant_of-self
invariant_of-self c =
    let P : KeptTable → Type 0 = λ k. IsOpen k c.args.tx.number in
    let o = subst P (sym c.self.view_is) c.requires.running in
    let mine = c.self.invariant.each o.0 c.args.tx.number o.1 in
    let both = c.self.invariant.both in
    let known : c.args.tx.number < length c.self.inside.owners.items = grind (arith, common_steps) in
    let owner : c.index-owner.result.now ≡ o.0 = grind (arith, common_steps, elements, mine.own, c.index-owner.ensures) in
    rw owner (ended_kept _ o.0 c.args.tx.number c.args.fate c.requires.ended c.self.invariant o.1)
