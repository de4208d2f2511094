use Rattle.std.proofs.Common.{◌≡◌, ◌∙◌, refl, ap, sym, subst, List, arith, length}
use Rattle.std.specs.List.{All}
use Rattle.std.specs.Vec.Iter.{into_iter_items}
use Rattle.std.proofs.lemmas.List.Elements.{All-head, All-tail}
use Rattle.pg_values.specs.declared.ids.LeafId.{LeafId}
use Rattle.pg_values.specs.declared.value.Value.{Value}
use Rattle.row_change.specs.Storing.{all_stored, FitsTargets, IsLeafKnown}
use Rattle.row_change.proofs.Rows.{rows_begun, row_stored, rows_done}
use Rattle.row_change.proofs.storing.store_rows.Goals as goal

pub loop-row-init : goal.loop-row-init
loop-row-init c =
    let a = c.args in
    let left = into_iter_items c.into_iter-row-iterator.result in
    let given = c.into_iter-row-iterator.ensures.into_iter_gives.0 in
    record {
      count = omega (arith, ap (length {A = List Value}) given);
      leaves = refl;
      known = c.requires.leaves;
      fits = subst (λ (rs : List (List Value)). All (FitsTargets a.targets.now) rs) (sym given) c.requires.fits;
      made = λ h txs catalogue store. rows_begun a.txs.now a.catalog.now a.store.now h a.targets.now a.by a.cmd a.leaves.now a.rows.items left given txs catalogue store;
    }

pub store_row-requires-clause-fits : goal.store_row-requires-clause-fits
store_row-requires-clause-fits c =
    All-head (FitsTargets c.args.targets.now) c.in-Some.row (into_iter_items c.next.new.self) (subst (λ (rs : List (List Value)). All (FitsTargets c.args.targets.now) rs) c.in-Some.ensures.steps.0 c.loop-row.invariant.fits)

pub loop-row-preserved : goal.loop-row-preserved
loop-row-preserved c =
    let a = c.args in
    let next = c.in-Some.ensures.steps.0 in
    let row = c.in-Some.row in
    let more = into_iter_items c.next.new.self in
    let front = c.in-Some-split_first.ensures.cases.0 in
    let same = c.in_ok-store_row-in-Some-split_first.ensures.leaves in
    let known = subst (λ (ls : List LeafId). All (IsLeafKnown c.loop-row.store.leaves) ls) front c.loop-row.invariant.known in
    record {
      count = omega (arith, ap (length {A = List Value}) next, c.loop-row.invariant.count);
      leaves = same ∙ c.loop-row.invariant.leaves;
      known = subst (λ n. All (IsLeafKnown n) c.in-Some-split_first.others.now) (sym same) (All-tail (IsLeafKnown c.loop-row.store.leaves) c.in-Some-split_first.leaf.now c.in-Some-split_first.others.now known);
      fits = All-tail (FitsTargets a.targets.now) row more (subst (λ (rs : List (List Value)). All (FitsTargets a.targets.now) rs) next c.loop-row.invariant.fits);
      made = λ h txs catalogue store.
          row_stored a.txs.now a.catalog.now c.loop-row.store c.store_row.new.store h (all_stored a.targets.now a.by a.cmd h a.leaves.now a.rows.items) a.targets.now a.by a.cmd c.loop-row.left.now c.in-Some-split_first.others.now c.in-Some-split_first.leaf.now
          (into_iter_items c.loop-row.row-iterator) more row front next c.in_ok-store_row-in-Some-split_first.ensures.made (c.loop-row.invariant.made h txs catalogue store);
    }

pub returns-clause-made : goal.returns-clause-made
returns-clause-made c h txs catalogue store =
    let a = c.args in
    let left = into_iter_items c.loop-row.row-iterator in
    let none : length left ≡ 0 = omega (arith, c.in-None.ensures.steps.0, c.loop-row.invariant.count) in
    rows_done a.txs.now a.catalog.now c.loop-row.store h (all_stored a.targets.now a.by a.cmd h a.leaves.now a.rows.items) a.targets.now a.by a.cmd c.loop-row.left.now left none (c.loop-row.invariant.made h txs catalogue store)
