use Rattle.std.proofs.Common.{◌∙◌, ◌∷◌, [], ◌++◌, ap, codes, map, sym}
use Rattle.std.specs.Prelude.{Some}
use Rattle.cond_logic.specs.Tuples.{lent}
use Rattle.plan_tree.specs.Plans.{planned, planned_item, planned_pair, planned_pairs}
use Rattle.plan_text.specs.Nodes.{Node, alone, counted}
use Rattle.plan_text.specs.Plans.{items}
use Rattle.plan_text.proofs.Told.{few_items, few_onto, on_ok, rows_never, rows_one_by_one, rows_onto}
use Rattle.plan_text.proofs.plan.push_rows.Goals as goal

pub push_items-requires : goal.push_items-requires
push_items-requires c = few_items planned_item c.args.plan.now.items c.as_slice.result.now c.args.depth c.as_slice.ensures c.requires

pub push_onto-requires : goal.push_onto-requires
push_onto-requires c = few_onto planned_item c.unpaired-behind.result.now (planned c.args.plan.now) c.args.depth c.unpaired-behind.ensures c.requires

pub returns-then-is_empty : goal.returns-then-is_empty
returns-then-is_empty c =
    on_ok c.push_never.result
    (λ pushed. pushed
    ∙ ap (λ n. c.args.out.now.items ++ alone (counted (codes "Result") n) (codes "One-Time Filter: false" ∷ []) c.args.depth) c.of_given.ensures
    ∙ ap (λ (n : Node). c.args.out.now.items ++ n c.args.depth) (sym (rows_never c.args.items.now (lent c.args.counts) (planned c.args.plan.now) c.is_empty.result c.is_empty.ensures c.if-is_empty.true)))
    c.push_never.ensures

pub returns-in-None : goal.returns-in-None
returns-in-None c =
    on_ok c.push_items.result
    (λ pushed. pushed
    ∙ ap (λ is. c.args.out.now.items ++ items c.args.items.now (lent c.args.counts) (map planned_item is) c.args.depth) c.as_slice.ensures
    ∙ ap (λ (n : Node). c.args.out.now.items ++ n c.args.depth) (sym (rows_one_by_one c.args.items.now (lent c.args.counts) (planned c.args.plan.now) c.is_empty.result c.is_empty.ensures c.if-is_empty.false (ap (λ ps. planned_pairs ps) c.in-None.is))))
    c.push_items.ensures

pub returns-in-Some : goal.returns-in-Some
returns-in-Some c =
    let pairs = c.as_slice-in-Some.result.now in
    let some = ap (λ ps. planned_pairs ps) c.in-Some.is ∙ ap (λ ps. Some (map planned_pair ps)) (sym c.as_slice-in-Some.ensures) in
    on_ok c.push_onto.result
    (λ pushed. pushed
    ∙ ap (λ (n : Node). c.args.out.now.items ++ n c.args.depth) (sym (rows_onto c.args.items.now (lent c.args.counts) (planned c.args.plan.now) c.is_empty.result c.is_empty.ensures (map planned_pair pairs) (map planned_item c.unpaired-behind.result.now) c.if-is_empty.false some c.unpaired-behind.ensures)))
    c.push_onto.ensures
