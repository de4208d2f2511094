use Rattle.std.proofs.Common.{◌≡◌, ◌++◌, map, drop}
use Rattle.cond_logic.specs.Rewriting.{with_args}
use Rattle.cond_logic.specs.Trees.{cond_tree}
use Rattle.sql_binder.proofs.values.put_in_each.Given as goal

-- the conditions so far, and those that are left, each with the values
abbrev pub invariant-loop-cond : goal.invariant-loop-cond
invariant-loop-cond l = map cond_tree l.put.items ++ map (with_args l.values) (map cond_tree (drop l.cond-index l.conds)) ≡ map (with_args l.values) (map cond_tree l.conds)
