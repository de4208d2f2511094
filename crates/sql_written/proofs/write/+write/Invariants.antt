use Rattle.std.proofs.Common.{◌≡◌, ◌++◌, ◌+◌, ◌*◌, map, drop}
use Rattle.sql_ast.specs.Expressions.{listed, tree, trees}
use Rattle.sql_written.specs.Marks.{text_of}
use Rattle.sql_written.specs.Chains as chains
use Rattle.sql_written.specs.Written.{more}
use Rattle.sql_written.proofs.WriteSteps.{weight, weights}
use Rattle.sql_written.proofs.write.+write.Given as goal

abbrev pub decreases-write_tree : goal.decreases-write_tree
decreases-write_tree l = 5 * weight (tree l.e.now)

abbrev pub decreases-write_operand : goal.decreases-write_operand
decreases-write_operand l = 5 * weight (tree l.e.now) + 1

abbrev pub decreases-write_more : goal.decreases-write_more
decreases-write_more l = 5 * weights (listed (map tree l.parts.now)) + 2

abbrev pub decreases-write_chain : goal.decreases-write_chain
decreases-write_chain l = 5 * weights (listed (map tree l.parts.now)) + 3

abbrev pub decreases-write_list : goal.decreases-write_list
decreases-write_list l = 5 * weights (trees l.list.now) + 4

abbrev pub invariant-write_more-loop-part : goal.invariant-write_more-loop-part
invariant-write_more-loop-part l =
    l.out.items ++ text_of (more (chains.between l.chain) (chains.place l.chain) (listed (map tree (drop l.part-index l.parts)))) ≡ l.fn.out.items ++ text_of (more (chains.between l.chain) (chains.place l.chain) (listed (map tree l.parts)))
