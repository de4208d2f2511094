use Rattle.std.proofs.Common.{arith}
use Rattle.std.proofs.lemmas.Grind.{common_steps}
use Rattle.lock_table.proofs.causes.holding.Goals as goal

pub loop-mode-preserved : goal.loop-mode-preserved
loop-mode-preserved c h ws q st y = grind (arith, common_steps, c.union-found.ensures y, c.loop-mode.invariant h ws q st y, st.held y c.args.table)

pub returns : goal.returns
returns c h ws q st y = grind (arith, common_steps, c.loop-mode.invariant h ws q st y)
