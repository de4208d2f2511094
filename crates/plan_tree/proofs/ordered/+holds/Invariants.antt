use Rattle.std.proofs.Common.{◌≡◌, map, drop}
use Rattle.std.specs.List.{list_any}
use Rattle.row_router.specs.Trees.{leaves, all_leaves, trees_of}
use Rattle.row_router.specs.Seen.{seen}
use Rattle.plan_tree.specs.OrderedAppends.{is_leaf}
use Rattle.plan_tree.proofs.ordered.+holds.Given as goal

-- the children so far do not hold it
abbrev pub invariant-loop-child : goal.invariant-loop-child
invariant-loop-child l = list_any (is_leaf l.leaf) (all_leaves (trees_of (map seen (drop l.child-index l.child-items)))) ≡ list_any (is_leaf l.leaf) (leaves (seen l.fn.tree))
