use Rattle.std.proofs.Common.{◌≡◌, ◌++◌, drop}
use Rattle.std.specs.List.{All}
use Rattle.history.specs.Catalogue.{tables_made}
use Rattle.history.specs.History.{History, catalogue_events}
use Rattle.row_router.specs.Seen.{seen}
use Rattle.part_catalog.specs.Stands.{CatalogueStands}
use Rattle.row_change.specs.Placing.{placed}
use Rattle.row_change.specs.Targets.{HasWay}
use Rattle.row_change.specs.Ways.{ways_below}
use Rattle.row_change.proofs.Placed.{ArePlaced}
use Rattle.row_change.proofs.placing.place_rows.Given as goal

-- the rows so far have these leaves, to which there are ways, and the tables on them stand before those of the rows that
-- are left
abbrev pub invariant-loop-row : goal.invariant-loop-row
invariant-loop-row g l = record {
  placed : (h : History) → CatalogueStands l.catalog h → ArePlaced (placed (tables_made (catalogue_events h)) (seen l.tree) l.path) l.rows (drop l.row-index l.rows) l.leaves;
  ways : All (HasWay (seen l.tree)) l.leaves;
  tables : l.ways.items ++ ways_below (seen l.tree) (drop l.row-index l.rows) ≡ l.initial.ways.items ++ ways_below (seen l.tree) l.rows;
}
