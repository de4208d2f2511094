-- Pruning steps that are made once (5.11.4 Partition Pruning).
use Rattle.cond_logic.specs.Trees.{CondTree, cond_tree}
use Rattle.prune_steps.specs.declared.pruning.Pruning.{Pruning}

-- the condition whose steps they are, with NOT over IS NULL alone
abbrev pub condition_of : Pruning → CondTree
condition_of p = cond_tree p.cond
