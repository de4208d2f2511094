use Rattle.std.proofs.Common.{◌≡◌, ◌+◌, ◌*◌, max, map, drop}
use Rattle.sql_ast.specs.Expressions.{listed, tree}
use Rattle.expression_binder.proofs.Trees.{weight, weights}
use Rattle.prepared_statements.specs.Numbers.{greatest_of, all_numbers}
use Rattle.prepared_statements.proofs.numbers.+number.Given as goal

abbrev pub decreases-in_expr : goal.decreases-in_expr
decreases-in_expr l = 2 * weight (tree l.e.now)

abbrev pub decreases-in_exprs : goal.decreases-in_exprs
decreases-in_exprs l = 2 * weights (listed (map tree l.list.now)) + 1

-- the greatest so far, and the greatest of the rest
abbrev pub invariant-in_exprs-loop-e : goal.invariant-in_exprs-loop-e
invariant-in_exprs-loop-e l = max l.most (greatest_of (all_numbers (listed (map tree (drop l.e-index l.list))))) ≡ greatest_of (all_numbers (listed (map tree l.list)))
