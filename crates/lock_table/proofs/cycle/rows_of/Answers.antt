use Rattle.std.proofs.Common.{◌≡◌, ◌<◌, ◌≤◌, length, arith}
use Rattle.std.proofs.lemmas.Grind.{common_steps, elements}
use Rattle.history.specs.Waits.{waits_for}
use Rattle.lock_table.proofs.Rows.{rows_more, rows_all}
use Rattle.lock_table.proofs.cycle.rows_of.Goals as goal

pub loop-x-preserved : goal.loop-x-preserved
loop-x-preserved c =
    let len = c.loop-x.invariant.len in
    let lt = c.loop-x-test.true in
    record {
      len = grind (arith, common_steps, elements);
      done = λ h st. rows_more c.loop-x.rows c.loop-x.x c.wait_causes.result (waits_for h) (omega arith) (c.loop-x.invariant.done h st) (c.wait_causes.ensures h st);
    }

pub returns-clause-is : goal.returns-clause-is
returns-clause-is c h st = rows_all c.loop-x.rows c.args.waits.now h c.loop-x.invariant.len c.requires st.wants (λ x y lt. c.loop-x.invariant.done h st x y (omega arith))
