use Rattle.std.proofs.Common.{◌≡◌, ◌++◌, map, drop}
use Rattle.part_bounds.specs.Leads.{listed_lead}
use Rattle.part_bounds.proofs.lead.add_listed.Given as goal

-- those so far with those still to come are all
abbrev pub invariant-loop-s : goal.invariant-loop-s
invariant-loop-s l = l.leads.items ++ map (listed_lead l.bounds) (drop l.s-index l.listings) ≡ l.initial.leads.items ++ map (listed_lead l.bounds) l.listings
