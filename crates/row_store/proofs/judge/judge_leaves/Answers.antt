use Rattle.std.proofs.Common.{◌≡◌, ◌<◌, [], map, length, slice_index_or, arith}
use Rattle.std.proofs.lemmas.Grind.{common_steps, elements}
use Rattle.std.proofs.lemmas.List.Elements.{Contains-get_or}
use Rattle.pg_values.specs.declared.ids.LeafId.{LeafId}
use Rattle.row_store.specs.Kept.{stored_at}
use Rattle.row_store.proofs.Judging.{no_leaf, listed_is, numbers_below, leaf_suits, leaf_passes, leaf_seen, leaf_refuses}
use Rattle.row_store.proofs.judge.judge_leaves.Goals as goal

pub judge_versions-requires-clause-below : goal.judge_versions-requires-clause-below
judge_versions-requires-clause-below g c =
    let leaf : LeafId = slice_index_or c.args.leaves.now c.loop-leaf.leaf-index no_leaf in
    let known : leaf.number < length c.args.lists.now = c.requires.known c.loop-leaf.leaf-index no_leaf c.loop-leaf-test.true in
    let at : c.ids-ids.result.now ≡ slice_index_or c.args.lists.now leaf.number [] = first_of (cc, grind (arith, common_steps, elements)) in
    numbers_below c.args.versions.now c.args.lists.now leaf c.ids-ids.result.now c.requires.listed known at

pub judge_versions-requires-clause-suited : goal.judge_versions-requires-clause-suited
judge_versions-requires-clause-suited g c =
    let leaf : LeafId = slice_index_or c.args.leaves.now c.loop-leaf.leaf-index no_leaf in
    let known : leaf.number < length c.args.lists.now = c.requires.known c.loop-leaf.leaf-index no_leaf c.loop-leaf-test.true in
    let at : c.ids-ids.result.now ≡ slice_index_or c.args.lists.now leaf.number [] = first_of (cc, grind (arith, common_steps, elements)) in
    leaf_suits (g.T.RowTest.suits c.args.test.now) c.args.versions.now c.args.lists.now c.args.leaves.now leaf c.ids-ids.result.now c.requires.listed known at (Contains-get_or c.args.leaves.now c.loop-leaf.leaf-index no_leaf c.loop-leaf-test.true) c.requires.suited

pub returns-in-Err-clause-refusing : goal.returns-in-Err-clause-refusing
returns-in-Err-clause-refusing g c =
    let leaf : LeafId = slice_index_or c.args.leaves.now c.loop-leaf.leaf-index no_leaf in
    let known : leaf.number < length c.args.lists.now = c.requires.known c.loop-leaf.leaf-index no_leaf c.loop-leaf-test.true in
    let at : c.ids-ids.result.now ≡ slice_index_or c.args.lists.now leaf.number [] = first_of (cc, grind (arith, common_steps, elements)) in
    let kept = listed_is c.args.versions.now c.args.lists.now leaf c.ids-ids.result.now at in
    let first = c.in-Err.ensures.refusing in
    (first.0, leaf_refuses c.args.txs.now c.args.session c.args.me.number (g.T.RowTest.broken c.args.test.now) c.args.versions.now (map (stored_at c.args.versions.now) c.ids-ids.result.now) c.args.lists.now c.args.leaves.now c.loop-leaf.leaf-index no_leaf first.0 c.loop-leaf-test.true kept c.loop-leaf.invariant.refusing first.1, first.2)

pub loop-leaf-preserved : goal.loop-leaf-preserved
loop-leaf-preserved g c =
    let leaf : LeafId = slice_index_or c.args.leaves.now c.loop-leaf.leaf-index no_leaf in
    let known : leaf.number < length c.args.lists.now = c.requires.known c.loop-leaf.leaf-index no_leaf c.loop-leaf-test.true in
    let at : c.ids-ids.result.now ≡ slice_index_or c.args.lists.now leaf.number [] = first_of (cc, grind (arith, common_steps, elements)) in
    let kept = listed_is c.args.versions.now c.args.lists.now leaf c.ids-ids.result.now at in
    record {
      refusing = leaf_passes c.args.txs.now c.args.session c.args.me.number (g.T.RowTest.broken c.args.test.now) c.args.versions.now (map (stored_at c.args.versions.now) c.ids-ids.result.now) c.args.lists.now c.args.leaves.now c.loop-leaf.leaf-index no_leaf c.loop-leaf-test.true kept c.loop-leaf.invariant.refusing c.in-Ok.ensures.refusing;
      seen = λ r. leaf_seen c.args.txs.now c.args.session (g.T.RowTest.broken c.args.test.now) c.args.versions.now (map (stored_at c.args.versions.now) c.ids-ids.result.now) c.args.lists.now c.args.leaves.now c.loop-leaf.leaf-index no_leaf c.loop-leaf.others c.in-Ok.seen c.union-others.result r c.loop-leaf-test.true kept (c.loop-leaf.invariant.seen r) (c.in-Ok.ensures.seen r) (c.union-others.ensures r);
    }
