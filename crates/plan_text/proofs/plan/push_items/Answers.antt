use Rattle.std.proofs.Common.{◌∙◌, [], ◌++◌, ap, codes, length, refl, sym}
use Rattle.cond_logic.specs.Tuples.{lent}
use Rattle.plan_tree.specs.Plans.{planned_item}
use Rattle.plan_text.specs.Nodes.{alone, counted}
use Rattle.plan_text.proofs.Told.{none_asked, on_ok, some_asked}
use Rattle.plan_text.proofs.plan.push_items.Goals as goal

pub returns-then-is_empty : goal.returns-then-is_empty
returns-then-is_empty c =
    on_ok c.push_node.result
    (λ pushed. pushed
    ∙ ap (λ n. c.args.out.now.items ++ alone (counted (codes "Result") n) [] c.args.depth) c.of_given.ensures
    ∙ ap (λ ls. c.args.out.now.items ++ ls) (sym (none_asked c.args.items.now (lent c.args.counts) planned_item (length c.args.joined.now) c.args.depth c.args.joined.now refl (sym c.is_empty.ensures ∙ c.if-is_empty.true))))
    c.push_node.ensures

pub returns : goal.returns
returns c =
    on_ok c.push_joined.result
    (λ pushed. pushed
    ∙ ap (λ ls. c.args.out.now.items ++ ls) (sym (some_asked c.args.items.now (lent c.args.counts) planned_item (length c.args.joined.now) c.args.depth c.args.joined.now refl (sym c.is_empty.ensures ∙ c.if-is_empty.false))))
    c.push_joined.ensures
