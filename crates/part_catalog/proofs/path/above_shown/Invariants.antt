use Rattle.std.proofs.Common.{◌≡◌, drop}
use Rattle.std.specs.List.{find}
use Rattle.part_catalog.specs.Kept.{by_place}
use Rattle.part_catalog.specs.Stands.{flagged_above}
use Rattle.part_catalog.proofs.path.above_shown.Given as goal

abbrev pub invariant-loop-at : goal.invariant-loop-at
invariant-loop-at l = find (flagged_above l.flags l.table.number) (drop l.at (by_place l.entries)) ≡ find (flagged_above l.flags l.table.number) (by_place l.entries)
