use Rattle.std.proofs.Common.{◌≡◌, ◌-◌, ◌∙◌, arith, drop, length-drop, rules, sym, true}
use Rattle.std.proofs.lemmas.List.{length-take-le}
use Rattle.select_answer.specs.Keys.{row_less}
use Rattle.select_answer.proofs.SortedParts.{no_part, part_sorted, part_stable}
use Rattle.select_answer.proofs.Total.{row_weak}
use Rattle.select_answer.proofs.keys.sort_part.Goals as goal

pub returns-then-not-in_order-clause-sorted : goal.returns-then-not-in_order-clause-sorted
returns-then-not-in_order-clause-sorted c = λ is first. absurd (cc)

pub returns-then-not-in_order-clause-stable : goal.returns-then-not-in_order-clause-stable
returns-then-not-in_order-clause-stable c =
    part_stable (row_less c.args.order.now) (row_weak c.args.order.now) c.args.start (c.args.end - c.args.start) c.args.rows.now c.sort_rows.new.rows c.in_ok-sort_rows.ensures.stable

pub returns-then-start-end-clause-sorted : goal.returns-then-start-end-clause-sorted
returns-then-start-end-clause-sorted c =
    let told : c.args.in_order ≡ true = search rules in
    let rise = c.requires.rise in
    let within = c.requires.within in
    let left = length-drop c.args.start c.args.rows.now in
    let cut = length-take-le (c.args.end - c.args.start) (drop c.args.start c.args.rows.now) (omega (arith, left, rise, within)) in
    let kept = c.sort_rows.auto.rows in
    λ is first.
    no_part c.args.order.now c.args.start (c.args.end - c.args.start) c.args.end c.args.rows.now c.sort_rows.new.rows
    (omega (arith, rise, within)) (omega (arith, kept, cut)) (omega (arith, rise)) (omega (arith, c.if-start-end.true)) (first told)

pub returns-then-start-end-clause-stable : goal.returns-then-start-end-clause-stable
returns-then-start-end-clause-stable c =
    part_stable (row_less c.args.order.now) (row_weak c.args.order.now) c.args.start (c.args.end - c.args.start) c.args.rows.now c.sort_rows.new.rows c.in_ok-sort_rows.ensures.stable

pub returns-clause-sorted : goal.returns-clause-sorted
returns-clause-sorted c =
    let told : c.args.in_order ≡ true = search rules in
    let rise = c.requires.rise in
    let within = c.requires.within in
    let left = length-drop c.args.start c.args.rows.now in
    let cut = length-take-le (c.args.end - c.args.start) (drop c.args.start c.args.rows.now) (omega (arith, left, rise, within)) in
    let kept = c.sort_rows.auto.rows in
    λ is first.
    part_sorted c.args.order.now c.args.start (c.args.end - c.args.start) c.args.end c.args.rows.now c.sort_rows.new.rows c.split_at.result.0.now c.split_at.result.1.now
    (omega (arith, rise, within)) (omega (arith, kept, cut)) (omega (arith, rise)) c.split_at.ensures.front c.split_at.ensures.back (sym c.stands_right.ensures ∙ is) c.in_ok-sort_rows.ensures.sorted (first told)

pub returns-clause-stable : goal.returns-clause-stable
returns-clause-stable c =
    part_stable (row_less c.args.order.now) (row_weak c.args.order.now) c.args.start (c.args.end - c.args.start) c.args.rows.now c.sort_rows.new.rows c.in_ok-sort_rows.ensures.stable
