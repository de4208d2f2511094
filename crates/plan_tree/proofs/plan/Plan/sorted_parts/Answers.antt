use Rattle.std.proofs.Common.{◌≡◌, ◌∙◌, List, ap, arith, false, true, get_or, length, map, subst, sym}
use Rattle.std.specs.Prelude.{is_some}
use Rattle.std.proofs.lemmas.Result.{IfOk-weaker}
use Rattle.cond_logic.specs.Asked.{select_meant}
use Rattle.plan_tree.specs.Plans.{planned_pair}
use Rattle.plan_tree.specs.declared.item.PlanItem.{PlanItem}
use Rattle.plan_tree.proofs.OrderedParts.{only_part, only_whole}
use Rattle.plan_tree.proofs.plan.Plan.sorted_parts.Goals as goal

pub returns : goal.returns
returns c =
    let unpaired : is_some c.args.self.now.pairs ≡ false = sym c.is_some.ensures ∙ c.if-is_some.false in
    let one : length c.args.self.now.items ≡ 1 = omega (arith, ap length c.as_slice-items.ensures) in
    let first = subst (λ (is : List PlanItem). c.index-items-0.result ≡ get_or is 0 c.index-items-0.result) c.as_slice-items.ensures c.index-items-0.is in
    let whole : is_some c.index-items-0.result.part ≡ false = sym c.is_some-2.ensures ∙ c.if-is_some-2.false in
    IfOk-weaker c.parts_in.result _ _ (λ _ h.
    h ∙ only_whole (map planned_pair) (select_meant c.args.ask.now) c.args.self.now.pairs c.args.self.now.items c.index-items-0.result unpaired one first whole) c.parts_in.ensures

pub returns-then-is_some-2 : goal.returns-then-is_some-2
returns-then-is_some-2 c =
    let unpaired : is_some c.args.self.now.pairs ≡ false = sym c.is_some.ensures ∙ c.if-is_some.false in
    let one : length c.args.self.now.items ≡ 1 = omega (arith, ap length c.as_slice-items.ensures) in
    let first = subst (λ (is : List PlanItem). c.index-items-0.result ≡ get_or is 0 c.index-items-0.result) c.as_slice-items.ensures c.index-items-0.is in
    let part : is_some c.index-items-0.result.part ≡ true = sym c.is_some-2.ensures ∙ c.if-is_some-2.true in
    rw c.new-then-is_some-2.ensures.items (only_part (map planned_pair) (select_meant c.args.ask.now) c.args.self.now.pairs c.args.self.now.items c.index-items-0.result unpaired one first part)
