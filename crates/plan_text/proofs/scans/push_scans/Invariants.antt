use Rattle.std.proofs.Common.{◌≡◌, ◌++◌, take}
use Rattle.cond_logic.specs.Tuples.{lent}
use Rattle.plan_text.specs.Plans.{scans}
use Rattle.plan_text.proofs.scans.push_scans.Given as goal

abbrev pub invariant-loop-leaf : goal.invariant-loop-leaf
invariant-loop-leaf l = l.out.items ≡ l.initial.out.items ++ scans l.items (lent l.counts) l.number l.filters (take l.leaf-index l.leaves) l.depth
