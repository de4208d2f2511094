use Rattle.std.proofs.Common.{◌≡◌, ◌++◌, drop, map}
use Rattle.insert_statement.proofs.leaf.same_leaf.Given as goal

abbrev pub invariant-loop : goal.invariant-loop
invariant-loop l = l.leaves ++ map (λ row. l.leaf) (drop l.index l.rows) ≡ map (λ row. l.leaf) l.rows
