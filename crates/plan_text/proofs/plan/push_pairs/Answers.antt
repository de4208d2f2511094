use Rattle.std.proofs.Common.{◌∙◌, sym}
use Rattle.cond_logic.specs.Tuples.{lent}
use Rattle.plan_tree.specs.Plans.{planned_pair}
use Rattle.plan_text.proofs.Told.{on_ok, no_pair_told, one_pair_told, pairs_told}
use Rattle.plan_text.proofs.plan.push_pairs.Goals as goal

pub returns-then-is_empty : goal.returns-then-is_empty
returns-then-is_empty c =
    on_ok c.push_never.result
    (λ pushed. no_pair_told c.args.items.now (lent c.args.counts) planned_pair c.args.depth c.of_pairs-count.result c.args.pairs.now _ _ (sym c.is_empty.ensures ∙ c.if-is_empty.true) c.of_pairs-count.ensures pushed)
    c.push_never.ensures

pub returns-then-pairs-eq1 : goal.returns-then-pairs-eq1
returns-then-pairs-eq1 c =
    on_ok c.push_pair.result
    (λ pushed. one_pair_told c.args.items.now (lent c.args.counts) planned_pair c.args.depth c.of_pairs-count.result c.args.pairs.now c.index-pairs-0.result _ _ c.if-pairs-eq1.true c.index-pairs-0.is pushed)
    c.push_pair.ensures

pub returns : goal.returns
returns c =
    on_ok c.push_each_pair.result
    (λ pushed. pairs_told c.args.items.now (lent c.args.counts) planned_pair c.args.depth c.of_pairs-count.result c.args.pairs.now _ _ _ (sym c.is_empty.ensures ∙ c.if-is_empty.false) c.if-pairs-eq1.false c.of_pairs-count.ensures c.in_ok-push_node.ensures pushed)
    c.push_each_pair.ensures
