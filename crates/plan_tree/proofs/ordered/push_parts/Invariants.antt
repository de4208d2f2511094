use Rattle.std.proofs.Common.{map}
use Rattle.plan_tree.proofs.OrderedParts.{GoesOn}
use Rattle.plan_tree.proofs.ordered.push_parts.Given as goal

-- the parts so far, and those under the children that are left
abbrev pub invariant-loop-place : goal.invariant-loop-place
invariant-loop-place l = GoesOn l.leaves l.set l.children (map (λ p. p.now) l.fn.parts.items) l.place l.start (map (λ p. p.now) l.parts.items)
