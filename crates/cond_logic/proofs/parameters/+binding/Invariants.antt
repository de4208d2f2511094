use Rattle.std.proofs.Common.{◌≡◌, ◌++◌, drop, map}
use Rattle.cond_logic.specs.Trees.{cond_tree}
use Rattle.cond_logic.specs.Rewriting.{with_args}
use Rattle.cond_logic.proofs.parameters.+binding.Given as goal

-- the conditions so far, and those that are left, each with its arguments
abbrev pub invariant-bind_all-loop-part : goal.invariant-bind_all-loop-part
invariant-bind_all-loop-part l = map cond_tree l.bound.items ++ map (λ c. with_args l.args (cond_tree c)) (drop l.part-index l.conds) ≡ map (λ c. with_args l.args (cond_tree c)) l.conds
