use Rattle.std.proofs.Common.{◌∙◌}
use Rattle.cond_logic.proofs.Lists.{columns_step}
use Rattle.cond_logic.proofs.columns.+add_columns.Goals as goal

pub loop-part-preserved : goal.loop-part-preserved
loop-part-preserved t c = columns_step _ _ _ _ _ c.loop-part-test.true c.part-item.is c.in_ok-add_columns-in-And.ensures ∙ c.loop-part.invariant

pub loop-choice-preserved : goal.loop-choice-preserved
loop-choice-preserved t c = columns_step _ _ _ _ _ c.loop-choice-test.true c.choice-item.is c.in_ok-add_columns-in-Or.ensures ∙ c.loop-choice.invariant
