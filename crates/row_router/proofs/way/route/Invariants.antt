use Rattle.std.proofs.Common.{◌≡◌, ◌≤◌, ◌*◌, ◌-◌, ◌^◌}
use Rattle.row_router.specs.Trees.{routed, accepting, Fits, height}
use Rattle.row_router.specs.Seen.{seen}
use Rattle.row_router.specs.Costs.{way_outcomes}
use Rattle.row_router.proofs.way.route.Given as goal

abbrev pub invariant-loop-node : goal.invariant-loop-node
invariant-loop-node g l = record {
  fits : Fits l.row (seen l.node);
  way : routed l.row (seen l.node) ≡ routed l.row (seen l.fn.tree);
  accept : accepting l.row (seen l.node) ≡ accepting l.row (seen l.fn.tree);
  later : l.fn.steps ≤ l.steps;
  cost : 2 ^ (l.steps - l.fn.steps) * way_outcomes l.row (seen l.node) ≤ way_outcomes l.row (seen l.fn.tree);
}

abbrev pub decreases-loop-node : goal.decreases-loop-node
decreases-loop-node g l = height (seen l.node)
