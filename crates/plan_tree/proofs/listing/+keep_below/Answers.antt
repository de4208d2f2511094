use Rattle.std.proofs.Common.{◌<◌, arith, length}
use Rattle.std.specs.Prelude.{vec_capacity}
use Rattle.row_router.specs.Seen.{seen, items_of}
use Rattle.plan_tree.specs.Asks.{keeps_asked}
use Rattle.plan_tree.proofs.Filling.{begins, next_prunes, next_fits, next_listed, none_behind, none_more}
use Rattle.plan_tree.proofs.Pushing.{child_lower}
use Rattle.plan_tree.proofs.listing.+keep_below.Goals as goal

pub loop-k-init : goal.loop-k-init
loop-k-init t c =
    begins (keeps_asked c.args.asks c.args.known.now c.args.steps.now) c.args.tree.now c.in-Level.level c.in-Level.set c.in-Level.children c.kept_of-kept.result c.args.leaves.now.items (vec_capacity c.args.leaves.now)
    c.in-Level.is c.requires.can c.kept_of-kept.ensures c.requires.room

pub keep_below-requires : goal.keep_below-requires
keep_below-requires t c =
    let lt : c.in-Some.k < length (items_of c.in-Level.children) = omega arith in
    let lower = child_lower c.args.tree.now c.in-Level.level c.in-Level.set c.in-Level.children c.in-Some.k c.at.result.now c.in-Level.is lt c.at.ensures in
    let keeps = keeps_asked c.args.asks c.args.known.now c.args.steps.now in
    let can = next_prunes keeps (seen c.args.tree.now) (items_of c.in-Level.children) c.kept_of-kept.result c.args.leaves.now.items (vec_capacity c.args.leaves.now) c.loop-k.leaves.items (vec_capacity c.loop-k.leaves) c.loop-k.from c.loop-k.invariant
    c.in-Some.k c.at.result.now c.in-Some.ensures lt c.at.ensures in
    let fit = next_fits keeps (seen c.args.tree.now) (items_of c.in-Level.children) c.kept_of-kept.result c.args.leaves.now.items (vec_capacity c.args.leaves.now) c.loop-k.leaves.items (vec_capacity c.loop-k.leaves) c.loop-k.from c.loop-k.invariant
    c.in-Some.k c.at.result.now c.in-Some.ensures lt c.at.ensures in
    (omega (arith, lower), (can, fit))

pub loop-k-preserved : goal.loop-k-preserved
loop-k-preserved t c =
    let lt : c.in-Some.k < length (items_of c.in-Level.children) = omega arith in
    next_listed (keeps_asked c.args.asks c.args.known.now c.args.steps.now) (seen c.args.tree.now) (items_of c.in-Level.children) c.kept_of-kept.result c.args.leaves.now.items (vec_capacity c.args.leaves.now) c.loop-k.leaves.items (vec_capacity c.loop-k.leaves) c.loop-k.from c.loop-k.invariant
    c.in-Some.k c.at.result.now c.in-Some.ensures lt c.at.ensures _ _ c.keep_below.ensures.leaves c.keep_below.ensures.room

pub returns-then-k-len-clause-leaves : goal.returns-then-k-len-clause-leaves
returns-then-k-len-clause-leaves t c =
    none_behind (keeps_asked c.args.asks c.args.known.now c.args.steps.now) (seen c.args.tree.now) (items_of c.in-Level.children) c.kept_of-kept.result c.args.leaves.now.items (vec_capacity c.args.leaves.now) c.loop-k.leaves.items (vec_capacity c.loop-k.leaves) c.loop-k.from c.loop-k.invariant
    c.in-Some.k (omega arith) c.in-Some.ensures.none_before

pub returns-in_default-clause-leaves : goal.returns-in_default-clause-leaves
returns-in_default-clause-leaves t c =
    none_more (keeps_asked c.args.asks c.args.known.now c.args.steps.now) (seen c.args.tree.now) (items_of c.in-Level.children) c.kept_of-kept.result c.args.leaves.now.items (vec_capacity c.args.leaves.now) c.loop-k.leaves.items (vec_capacity c.loop-k.leaves) c.loop-k.from c.loop-k.invariant
    c.in_default.ensures
