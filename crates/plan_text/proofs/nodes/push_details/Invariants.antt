use Rattle.std.proofs.Common.{◌≡◌, ◌++◌, map, take}
use Rattle.plan_text.specs.Nodes.{detail_line}
use Rattle.plan_text.proofs.nodes.push_details.Given as goal

abbrev pub invariant-loop-detail : goal.invariant-loop-detail
invariant-loop-detail l = l.out.items ≡ l.initial.out.items ++ map (detail_line l.depth) (take l.detail-index l.details)
