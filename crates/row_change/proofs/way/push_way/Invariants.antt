use Rattle.std.proofs.Common.{◌≡◌, ◌≤◌, ◌*◌, ◌-◌, ◌^◌, ◌++◌}
use Rattle.row_router.specs.Trees.{routed, Fits, height}
use Rattle.row_router.specs.Seen.{seen}
use Rattle.row_router.specs.Costs.{way_outcomes}
use Rattle.row_change.specs.Ways.{way_below}
use Rattle.row_change.proofs.way.push_way.Given as goal

-- the tables so far stand before those that are left
abbrev pub invariant-loop-node : goal.invariant-loop-node
invariant-loop-node g l = record {
  fits : Fits l.row (seen l.node);
  leaf : routed l.row (seen l.node) ≡ routed l.row (seen l.fn.tree);
  way : l.out.items ++ way_below l.row (seen l.node) ≡ l.initial.out.items ++ way_below l.row (seen l.fn.tree);
  later : l.fn.steps ≤ l.steps;
  cost : 2 ^ (l.steps - l.fn.steps) * way_outcomes l.row (seen l.node) ≤ way_outcomes l.row (seen l.fn.tree);
}

abbrev pub decreases-loop-node : goal.decreases-loop-node
decreases-loop-node g l = height (seen l.node)
