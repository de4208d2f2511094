use Rattle.std.proofs.Common.{◌≡◌, ◌++◌, map, drop}
use Rattle.part_bounds.specs.Stored.{range_points}
use Rattle.part_bounds.specs.Leads.{lead}
use Rattle.part_bounds.proofs.lead.add_ranges.Given as goal

-- those so far with those still to come are all
abbrev pub invariant-loop-b : goal.invariant-loop-b
invariant-loop-b l = l.leads.items ++ map lead (range_points (drop l.b-index l.bounds)) ≡ l.initial.leads.items ++ map lead (range_points l.bounds)
