use Rattle.std.proofs.Common.{◌≡◌, ◌++◌, take}
use Rattle.std.specs.List.{flat_map}
use Rattle.history.specs.History.{History}
use Rattle.part_catalog.specs.Stands.{CatalogueStands}
use Rattle.statement_runs.specs.Trails.{read_text}
use Rattle.statement_runs.proofs.trails.write_each.Given as goal

abbrev pub invariant-loop-leaf : goal.invariant-loop-leaf
invariant-loop-leaf l = (h : History) → CatalogueStands l.catalog h → l.out.items ≡ l.initial.out.items ++ flat_map (read_text h l.reads) (take l.leaf-index l.leaves)
