use Rattle.std.proofs.Common.{◌∙◌, ◌∷◌, [], ap, sym, map}
use Rattle.std.proofs.lemmas.List.{map-append}
use Rattle.cond_logic.specs.Tuples.{lent}
use Rattle.plan_tree.specs.Plans.{planned_item}
use Rattle.plan_text.proofs.Told.{join_told, on_ok, some_items}
use Rattle.plan_text.proofs.plan.+push_joined.Goals as goal

pub returns-in_ok-push_joined-in-Some : goal.returns-in_ok-push_joined-in-Some
returns-in_ok-push_joined-in-Some t c =
    let before = c.in-Some.before.now in
    let last = c.in-Some.last.now in
    let all = ap (map planned_item) c.in-Some.ensures.cases.0 ∙ map-append planned_item before (last ∷ []) in
    let some = some_items planned_item before (sym c.is_empty.ensures ∙ c.if-is_empty.false) in
    on_ok c.push_item-in-Some.result
    (λ pushed. join_told c.args.items.now (lent c.args.counts) (map planned_item before) (planned_item last) (map planned_item c.args.joined.now) c.args.depth _ _ _ _ some all
    c.in_ok-push_join-in-Some.ensures c.in_ok-push_joined-in-Some.ensures pushed) c.push_item-in-Some.ensures
