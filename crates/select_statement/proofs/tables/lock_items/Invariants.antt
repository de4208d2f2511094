use Rattle.std.proofs.Common.{length, map}
use Rattle.sql_ast.specs.Queries.{joined_tree}
use Rattle.select_statement.proofs.Naming.{AreNamed, numbers}
use Rattle.select_statement.proofs.tables.lock_items.Given as goal

abbrev pub invariant-loop-item : goal.invariant-loop-item
invariant-loop-item l = AreNamed numbers l.fn.stores l.stores l.fn.attempt.caller l.fn.attempt.names.now (map joined_tree l.fn.items) l.tables.items (map joined_tree l.left)

abbrev pub decreases-loop-item : goal.decreases-loop-item
decreases-loop-item l = length l.left
