use Rattle.std.proofs.Common.{◌∙◌, ◌∷◌, [], ap, sym, map}
use Rattle.std.proofs.lemmas.List.{map-append}
use Rattle.cond_logic.specs.Tuples.{lent}
use Rattle.plan_tree.specs.Plans.{planned_item, planned_pair}
use Rattle.plan_text.specs.Plans.{pair_joins}
use Rattle.plan_text.proofs.Told.{onto_told, on_ok}
use Rattle.plan_text.proofs.plan.+push_onto.Goals as goal

pub returns-in_ok-push_onto-in-Some : goal.returns-in_ok-push_onto-in-Some
returns-in_ok-push_onto-in-Some t c =
    let before = c.in-Some.before.now in
    let last = c.in-Some.last.now in
    let all = ap (map planned_item) c.in-Some.ensures.cases.0 ∙ map-append planned_item before (last ∷ []) in
    on_ok c.push_item.result
    (λ pushed. onto_told c.args.items.now (lent c.args.counts) (pair_joins c.args.items.now (lent c.args.counts) (map planned_pair c.args.pairs.now)) (map planned_item before) (planned_item last) (map planned_item c.args.joined.now) c.args.depth _ _ _ _ all
    c.in_ok-push_join-in-Some.ensures c.in_ok-push_onto-in-Some.ensures pushed) c.push_item.ensures
