use Rattle.std.proofs.Common.{[], ◌∷◌, ◌++◌, ◌<◌, ap, arith, length, sym, ◌∙◌}
use Rattle.std.proofs.lemmas.Bool.Decides.{nat_tests}
use Rattle.row_router.specs.declared.node.Node.{Node}
use Rattle.row_router.specs.Seen.{seen, items_of}
use Rattle.plan_tree.specs.Asks.{keeps_alone}
use Rattle.plan_tree.specs.Kept.{node_of}
use Rattle.plan_tree.proofs.Nodes.{node_seen}
use Rattle.plan_tree.proofs.Pushing.{led_behind, begins, child_lower, next_prunes, next_pushed, none_behind, none_more}
use Rattle.plan_tree.proofs.pruning.+pruning.Goals as goal

pub push_below-loop-k-init : goal.push_below-loop-k-init
push_below-loop-k-init t c =
    begins (keeps_alone c.args.steps.now) c.args.tree.now c.in-Level.level c.in-Level.set c.in-Level.children c.kept_alone-kept.result c.args.tables.now.items c.args.leaves.now.items
    c.in-Level.is c.requires c.kept_alone-kept.ensures

pub push_below-push_led-requires : goal.push_below-push_led-requires
push_below-push_led-requires t c =
    let lt : c.in-Some.k < length (items_of c.in-Level.children) = omega arith in
    let lower = child_lower c.args.tree.now c.in-Level.level c.in-Level.set c.in-Level.children c.in-Some.k c.at.result.now c.in-Level.is lt c.at.ensures in
    let can = next_prunes (keeps_alone c.args.steps.now) (seen c.args.tree.now) (items_of c.in-Level.children) c.kept_alone-kept.result c.loop-k.tables.items c.args.tables.now.items c.loop-k.leaves.items c.args.leaves.now.items
    c.loop-k.from c.loop-k.invariant c.in-Some.k c.at.result.now c.in-Some.ensures lt c.at.ensures in
    (omega (arith, lower), can)

pub push_below-loop-k-preserved : goal.push_below-loop-k-preserved
push_below-loop-k-preserved t c =
    let lt : c.in-Some.k < length (items_of c.in-Level.children) = omega arith in
    next_pushed (keeps_alone c.args.steps.now) (seen c.args.tree.now) (items_of c.in-Level.children) c.kept_alone-kept.result c.loop-k.tables.items c.args.tables.now.items c.loop-k.leaves.items c.args.leaves.now.items
    c.loop-k.from c.loop-k.invariant c.in-Some.k c.at.result.now c.in-Some.ensures lt c.at.ensures _ _ c.in_ok-push_led-in-Level.ensures.tables c.in_ok-push_led-in-Level.ensures.leaves

pub push_below-returns-then-k-len-clause-tables : goal.push_below-returns-then-k-len-clause-tables
push_below-returns-then-k-len-clause-tables t c =
    (none_behind (keeps_alone c.args.steps.now) (seen c.args.tree.now) (items_of c.in-Level.children) c.kept_alone-kept.result c.loop-k.tables.items c.args.tables.now.items c.loop-k.leaves.items c.args.leaves.now.items
    c.loop-k.from c.loop-k.invariant c.in-Some.k (omega arith) c.in-Some.ensures.none_before).0

pub push_below-returns-then-k-len-clause-leaves : goal.push_below-returns-then-k-len-clause-leaves
push_below-returns-then-k-len-clause-leaves t c =
    (none_behind (keeps_alone c.args.steps.now) (seen c.args.tree.now) (items_of c.in-Level.children) c.kept_alone-kept.result c.loop-k.tables.items c.args.tables.now.items c.loop-k.leaves.items c.args.leaves.now.items
    c.loop-k.from c.loop-k.invariant c.in-Some.k (omega arith) c.in-Some.ensures.none_before).1

pub push_below-returns-in_default-clause-tables : goal.push_below-returns-in_default-clause-tables
push_below-returns-in_default-clause-tables t c =
    (none_more (keeps_alone c.args.steps.now) (seen c.args.tree.now) (items_of c.in-Level.children) c.kept_alone-kept.result c.loop-k.tables.items c.args.tables.now.items c.loop-k.leaves.items c.args.leaves.now.items
    c.loop-k.from c.loop-k.invariant c.in_default.ensures).0

pub push_below-returns-in_default-clause-leaves : goal.push_below-returns-in_default-clause-leaves
push_below-returns-in_default-clause-leaves t c =
    (none_more (keeps_alone c.args.steps.now) (seen c.args.tree.now) (items_of c.in-Level.children) c.kept_alone-kept.result c.loop-k.tables.items c.args.tables.now.items c.loop-k.leaves.items c.args.leaves.now.items
    c.loop-k.from c.loop-k.invariant c.in_default.ensures).1

pub push_led-returns-else-len-count-clause-tables : goal.push_led-returns-else-len-count-clause-tables
push_led-returns-else-len-count-clause-tables t c =
    led_behind c.args.leaves.now.items c.push_below.new.leaves.items _ c.args.tables.now.items _ _ (node_of (seen c.args.tree.now)).table _
    (λ e. let off = c.if-len-count.false in let n = c.len.ensures in let m = c.len-count.ensures in grind (arith, nat_tests, off, n, m, e))
    c.in_ok-push_below.ensures.leaves (c.in_ok-push-3.ensures.items ∙ ap (λ (n : Node). c.args.tables.now.items ++ n.table ∷ []) (sym (node_seen c.args.tree.now))) c.in_ok-push_below.ensures.tables
