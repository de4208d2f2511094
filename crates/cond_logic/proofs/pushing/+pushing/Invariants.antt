use Rattle.std.proofs.Common.{◌≡◌, ◌++◌, length, map}
use Rattle.std.specs.Vec.Iter.{into_iter_items, into_iter_len}
use Rattle.cond_logic.specs.Trees.{cond_tree}
use Rattle.cond_logic.specs.Rewriting.{pushed_if}
use Rattle.cond_logic.proofs.pushing.+pushing.Given as goal

-- the conditions so far, and those that are left, each rewritten
abbrev pub invariant-push_list-loop-part : goal.invariant-push_list-loop-part
invariant-push_list-loop-part l = record {
  count : into_iter_len l.part-iterator ≡ length (into_iter_items l.part-iterator);
  told : map cond_tree l.pushed.items ++ map (λ c. pushed_if l.negated (cond_tree c)) (into_iter_items l.part-iterator) ≡ map (λ c. pushed_if l.negated (cond_tree c)) l.fn.list.conds.items;
}
