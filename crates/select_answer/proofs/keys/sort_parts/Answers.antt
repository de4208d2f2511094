use Rattle.std.proofs.Common.{◌∙◌, sym, arith, length, refl}
use Rattle.select_answer.specs.Keys.{row_less}
use Rattle.select_answer.proofs.SortedParts.{all_sorted, front_sorted, stable_again, unsorted}
use Rattle.select_answer.proofs.Total.{row_weak}
use Rattle.select_answer.proofs.keys.sort_parts.Goals as goal

pub returns-then-is_empty : goal.returns-then-is_empty
returns-then-is_empty c = unsorted c.args.order.now (length c.args.order.now) c.args.rows.now refl (sym c.is_empty.ensures ∙ c.if-is_empty.true)

pub loop-place-preserved : goal.loop-place-preserved
loop-place-preserved c = record {
  within = let kept = c.sort_part.auto.rows in let most = c.max-end.ensures in let least = c.min.ensures in let start = c.loop-place.invariant.within in omega (arith, kept, most, least, start);
  sorted = λ is. c.in_ok-in_order.ensures.sorted is c.loop-place.invariant.sorted;
  stable = stable_again (row_less c.args.order.now) (row_weak c.args.order.now) c.args.rows.now c.loop-place.rows c.sort_part.new.rows c.loop-place.invariant.stable c.in_ok-in_order.ensures.stable;
}

pub returns-then-in_order : goal.returns-then-in_order
returns-then-in_order c =
    let kept = c.sort_part-2.auto.rows in
    front_sorted (row_less c.args.order.now) (row_weak c.args.order.now) c.args.rows.now c.sort_part-2.new.rows (length c.loop-place.rows) (omega (arith, kept))
    (c.in_ok-in_order-2.ensures.sorted c.if-in_order.true c.loop-place.invariant.sorted)
    (stable_again (row_less c.args.order.now) (row_weak c.args.order.now) c.args.rows.now c.loop-place.rows c.sort_part-2.new.rows c.loop-place.invariant.stable c.in_ok-in_order-2.ensures.stable)

pub returns : goal.returns
returns c =
    all_sorted (row_less c.args.order.now) (row_weak c.args.order.now) c.args.rows.now c.sort_rows.new.rows c.in_ok-sort_rows.ensures.sorted
    (stable_again (row_less c.args.order.now) (row_weak c.args.order.now) c.args.rows.now c.sort_part-2.new.rows c.sort_rows.new.rows
    (stable_again (row_less c.args.order.now) (row_weak c.args.order.now) c.args.rows.now c.loop-place.rows c.sort_part-2.new.rows c.loop-place.invariant.stable c.in_ok-in_order-2.ensures.stable)
    c.in_ok-sort_rows.ensures.stable)
