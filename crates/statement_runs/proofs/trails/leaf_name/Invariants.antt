use Rattle.std.proofs.Common.{◌≡◌, ◌≤◌, length}
use Rattle.history.specs.History.{History}
use Rattle.part_catalog.specs.Stands.{CatalogueStands}
use Rattle.statement_runs.specs.Trails.{leaf_name, name_below}
use Rattle.statement_runs.proofs.trails.leaf_name.Given as goal

-- none of the tables from there on has the leaf
abbrev pub invariant-loop-below : goal.invariant-loop-below
invariant-loop-below l = ((h : History) → CatalogueStands l.catalog h → name_below h l.leaf l.below ≡ leaf_name h l.leaf) × (l.below ≤ length l.catalog.tables)

abbrev pub decreases-loop-below : goal.decreases-loop-below
decreases-loop-below l = l.below
