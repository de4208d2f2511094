use Rattle.std.proofs.Common.{◌≡◌, ◌++◌, map, filter, drop}
use Rattle.row_router.specs.Histories.{children, bound_of}
use Rattle.part_catalog.specs.Kept.{by_place}
use Rattle.part_catalog.specs.Stands.{is_flagged}
use Rattle.part_catalog.proofs.grow.set_below.Given as goal

abbrev pub invariant-loop-number : goal.invariant-loop-number
invariant-loop-number l =
    l.bounds.items ++ map bound_of (filter (is_flagged l.flags) (drop l.number-index (children (by_place l.entries) l.fn._table.number)))
    ≡ map bound_of (filter (is_flagged l.flags) (children (by_place l.entries) l.fn._table.number))
