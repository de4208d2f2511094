use Rattle.std.proofs.Common.{◌+◌, ◌*◌, false, map}
use Rattle.cond_logic.specs.Trees.{cond_tree, listed}
use Rattle.prune_steps.specs.Asking.{asked_by, known_in}
use Rattle.prune_steps.specs.Atoms.{given}
use Rattle.prune_steps.specs.Searches.{parts_search, choices_search}
use Rattle.prune_steps.proofs.CondTrees.{weight, weights}
use Rattle.prune_steps.proofs.KnownTrees.{rest, whole, PartsTold, ChoicesTold, Counts, Costs}
use Rattle.prune_steps.proofs.keeping.+keeping.Given as goal

abbrev pub decreases-keep_part : goal.decreases-keep_part
decreases-keep_part g l = 3 * weight (cond_tree l.cond.now)

abbrev pub decreases-keep_whole : goal.decreases-keep_whole
decreases-keep_whole g l = 3 * weight (cond_tree l.cond.now) + 1

abbrev pub decreases-keep_parts : goal.decreases-keep_parts
decreases-keep_parts g l = 3 * weights (listed (map cond_tree l.parts.now)) + 2

abbrev pub decreases-keep_choices : goal.decreases-keep_choices
decreases-keep_choices g l = 3 * weights (listed (map cond_tree l.choices.now)) + 2

-- the bits so far with what the rest keeps are what all keep; what was counted with what the rest searches is within the bounds
abbrev pub invariant-keep_parts-loop-part : goal.invariant-keep_parts-loop-part
invariant-keep_parts-loop-part g l = record {
  told : PartsTold l.asking l.set (given (asked_by l.asking) false (known_in l.asking (cond_tree l.root))) l.parts l.part-index l.kept;
  counted : Counts l.set l.initial.steps l.steps (parts_search (asked_by l.asking) (given (asked_by l.asking) false (known_in l.asking (cond_tree l.root))) (rest l.asking l.parts l.part-index))
      (parts_search (asked_by l.asking) (given (asked_by l.asking) false (known_in l.asking (cond_tree l.root))) (whole l.asking l.parts));
  cost : Costs l.set l.initial.steps l.steps (parts_search (asked_by l.asking) (given (asked_by l.asking) false (known_in l.asking (cond_tree l.root))) (rest l.asking l.parts l.part-index))
      (parts_search (asked_by l.asking) (given (asked_by l.asking) false (known_in l.asking (cond_tree l.root))) (whole l.asking l.parts));
}

abbrev pub invariant-keep_choices-loop-choice : goal.invariant-keep_choices-loop-choice
invariant-keep_choices-loop-choice g l = record {
  told : ChoicesTold l.asking l.set l.choices l.choice-index l.kept;
  counted : Counts l.set l.initial.steps l.steps (choices_search (asked_by l.asking) (rest l.asking l.choices l.choice-index)) (choices_search (asked_by l.asking) (whole l.asking l.choices));
  cost : Costs l.set l.initial.steps l.steps (choices_search (asked_by l.asking) (rest l.asking l.choices l.choice-index)) (choices_search (asked_by l.asking) (whole l.asking l.choices));
}
