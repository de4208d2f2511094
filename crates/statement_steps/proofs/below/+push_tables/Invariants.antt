use Rattle.std.proofs.Common.{◌≡◌, ◌++◌, map, drop}
use Rattle.row_router.specs.Trees.{trees_of}
use Rattle.row_router.specs.Seen.{seen}
use Rattle.legal_statements.specs.Below.{tables_in, all_tables}
use Rattle.statement_steps.proofs.below.+push_tables.Given as goal

abbrev pub invariant-loop-child : goal.invariant-loop-child
invariant-loop-child l =
    l.out.items ++ all_tables (trees_of (map seen (drop l.child-index l.child-items))) ≡ l.fn.out.items ++ tables_in (seen l.fn.tree)
