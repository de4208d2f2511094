use Rattle.std.proofs.Common.{◌*◌, ◌<◌, ◌≤◌, true, false, length, subst, sym, arith}
use Rattle.part_bounds.specs.Stored.{stored, width, passes, Splits}
use Rattle.part_bounds.proofs.Strategies.{ranges_have_points}
use Rattle.part_bounds.proofs.StoredLaws.{short}
use Rattle.prune_steps.specs.Chains.{Chain}
use Rattle.prune_steps.specs.Runs.{ends_of, Ends}
use Rattle.prune_steps.proofs.Runs.{all_kept, twice_at_least, twice_at_most, ends_width}
use Rattle.prune_steps.proofs.Filled.{chain_filled}
use Rattle.prune_steps.proofs.chain.keep_chain.Goals as goal

pub points_below-start-requires-clause-level : goal.points_below-start-requires-clause-level
points_below-start-requires-clause-level g c = ranges_have_points c.args.set.now c.requires.ranges

pub points_below-end-requires-clause-level : goal.points_below-end-requires-clause-level
points_below-end-requires-clause-level g c = ranges_have_points c.args.set.now c.requires.ranges

pub overflow_add-end : goal.overflow_add-end
overflow_add-end g c =
    let w = c.points_below-end.ensures.points.within in
    let m = subst (λ ps. length ps ≤ 2 * length c.args.set.now) (sym c.ranges_stand_in_row.ensures.points) (short c.args.set.now) in
    search (arith, w, m, c.requires.small)

pub set_run-requires : goal.set_run-requires
set_run-requires g c =
    let w = c.points_below-end.ensures.points.within in
    let m = subst (λ ps. length ps ≤ 2 * length c.args.set.now) (sym c.ranges_stand_in_row.ensures.points) (short c.args.set.now) in
    omega (arith, w, m, c.requires.small)

pub returns-clause-kept : goal.returns-clause-kept
returns-clause-kept g c = λ w is.
    let bounds = c.args.set.now in
    let values = g.Q.Key.values c.args.key.now in
    let chain : Chain = ends_of w c.args.op values in
    let points = c.ranges_stand_in_row.ensures.points in
    let start = rw (c.start_of-from.ensures.count, c.start_of-from.ensures.fill, c.len-j.ensures) at c.points_below-start.ensures.points in
    let end = rw (c.end_of-to.ensures.count, c.end_of-to.ensures.fill, c.len-j.ensures) at c.points_below-end.ensures.points in
    let ends : Ends bounds chain c.points_below-start.result c.points_below-end.result = record {
      filled = λ some. let more = subst (λ ps. 0 < length ps) (sym points) some in chain_filled w c.args.op values c.requires.chain.some (subst (λ v. length values < v) (is more) (c.requires.chain.few more));
      start_is = subst (λ ps. Splits (passes true chain.from) ps c.points_below-start.result) points (ends_width true (stored bounds) (width bounds) w _ _ values _ is start);
      end_is = subst (λ ps. Splits (passes false chain.to) ps c.points_below-end.result) points (ends_width false (stored bounds) (width bounds) w _ _ values _ is end);
    } in
    all_kept bounds c.args.short chain c.points_below-start.result c.points_below-end.result c.keeps_default-keeps.result _ _ c.ranges_stand_in_row.ensures.row ends c.requires.small
    (c.keeps_default-keeps.ensures chain ends) c.set_run.ensures c.add_default.ensures

pub returns-clause-counted : goal.returns-clause-counted
returns-clause-counted g c = λ d few. twice_at_least _ _ _ _ d c.points_below-start.ensures.later c.points_below-end.ensures.later c.points_below-start.ensures.counted c.points_below-end.ensures.counted few

pub returns-clause-cost : goal.returns-clause-cost
returns-clause-cost g c = λ d most.
    twice_at_most _ _ _ _ d c.points_below-start.ensures.later c.points_below-end.ensures.later c.points_below-start.ensures.cost c.points_below-end.ensures.cost most
