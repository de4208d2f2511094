use Rattle.std.proofs.Common.{arith}
use Rattle.std.proofs.lemmas.Grind.{common_steps}
use Rattle.lock_table.proofs.Queues.{before_more}
use Rattle.lock_table.proofs.causes.standing.Goals as goal

pub loop-y-init : goal.loop-y-init
loop-y-init c h st y =
    let held = c.against-found.ensures h c.args.waits.now c.args.queue.now st y in
    let same = st.queue in
    cc

pub loop-y-preserved : goal.loop-y-preserved
loop-y-preserved c h st y =
    let more = before_more c.args.queue.now c.loop-y.y-index c.args.x 0 c.loop-y-test.true c.if-y-x.false in
    let one = c.joined-found.ensures h c.args.queue.now st y in
    let told = c.loop-y.invariant h st y in
    grind (arith, common_steps, more, one, told)
