use Rattle.std.proofs.Common.{◌≡◌, ◌++◌, ◌-◌, map, filter, drop}
use Rattle.history.specs.declared.catalogue.Entry.{Entry}
use Rattle.row_router.specs.Seen.{seen}
use Rattle.row_router.specs.Histories.{tree_within, children, child_of_entry}
use Rattle.part_catalog.specs.Kept.{table_in, by_place}
use Rattle.part_catalog.specs.Stands.{is_flagged}
use Rattle.part_catalog.proofs.grow.+grow.Given as goal

abbrev pub decreases-grow : goal.decreases-grow
decreases-grow l = l.depth

abbrev pub invariant-loop-number : goal.invariant-loop-number
invariant-loop-number l =
    map seen l.trees.items ++ map (λ (e : Entry). tree_within (l.depth - 1) (map table_in l.tables) (filter (is_flagged l.flags) (by_place l.entries)) l.named.number (child_of_entry e)) (filter (is_flagged l.flags) (drop l.number-index (children (by_place l.entries) l.table.number)))
    ≡ map (λ (e : Entry). tree_within (l.depth - 1) (map table_in l.tables) (filter (is_flagged l.flags) (by_place l.entries)) l.named.number (child_of_entry e)) (filter (is_flagged l.flags) (children (by_place l.entries) l.table.number))
