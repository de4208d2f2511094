use Rattle.std.proofs.Common.{◌∙◌, ap, sym, subst}
use Rattle.part_catalog.specs.Groves.{IsGrownFrom, grown_for}
use Rattle.part_catalog.proofs.keep.find_kept.Goals as goal

pub returns-then-is_for : goal.returns-then-is_for
returns-then-is_for c tables entries all =
    let k = c.k-item.result in
    let same = c.is_for.ensures c.if-is_for.true in
    let one : IsGrownFrom tables entries k = subst (IsGrownFrom tables entries) (sym c.k-item.is) (all c.loop-k.k-index k c.loop-k-test.true) in
    one ∙ ap (λ f. grown_for tables entries f k.table.number) same.1 ∙ ap (grown_for tables entries c.args.flags.now) same.0
