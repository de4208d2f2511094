use Rattle.std.proofs.Common.{◌≡◌, ◌≤◌, ◌++◌, drop}
use Rattle.part_catalog.specs.Moved.{places_left}
use Rattle.part_catalog.specs.Stands.{stays_by}
use Rattle.part_catalog.proofs.forgetting.places_left.Given as goal

abbrev pub invariant-loop-x : goal.invariant-loop-x
invariant-loop-x l = record {
  few : l.next ≤ l.x-index;
  told : l.places.items ++ places_left (stays_by l.txs) l.next (drop l.x-index l.entries) ≡ places_left (stays_by l.txs) 0 l.entries;
}
