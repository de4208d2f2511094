use Rattle.std.proofs.Common.{◌≡◌, ◌++◌, map, drop}
use Rattle.row_router.specs.Trees.{trees_of}
use Rattle.row_router.specs.Seen.{seen}
use Rattle.legal_statements.specs.Below.{all_tables}
use Rattle.statement_steps.specs.Below.{below}
use Rattle.statement_steps.proofs.below.tables_below.Given as goal

abbrev pub invariant-loop-child : goal.invariant-loop-child
invariant-loop-child l =
    l.tables.items ++ all_tables (trees_of (map seen (drop l.child-index l.child-items))) ≡ below (seen l.fn.tree)
