use Rattle.std.proofs.Common.{◌≡◌, ◌++◌, drop, filter, map}
use Rattle.cond_logic.specs.Trees.{cond_tree}
use Rattle.plan_tree.specs.Plans.{planned_item}
use Rattle.plan_text.specs.Conditions.{several}
use Rattle.plan_text.specs.Plans.{tells, conjuncts_told}
use Rattle.plan_text.proofs.scans.texts.Given as goal

-- the texts so far, and those of the conjuncts that are left
abbrev pub invariant-loop-cond : goal.invariant-loop-cond
invariant-loop-cond l =
    l.texts.items ++ several l.items (filter (tells (planned_item l.item) l.detail) (map cond_tree (drop l.cond-index l.item.conjuncts))) ≡ several l.items (conjuncts_told (planned_item l.item) l.detail)
