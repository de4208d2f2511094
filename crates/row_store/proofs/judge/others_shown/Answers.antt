use Rattle.std.proofs.Common.{◌==◌, ◌&&◌, not, arith}
use Rattle.pg_values.specs.Sets.{has}
use Rattle.row_store.specs.Judged.{is_held_shown}
use Rattle.row_store.proofs.Judging.{next_session, all_sessions}
use Rattle.row_store.proofs.judge.others_shown.Goals as goal

pub other_shown-requires : goal.other_shown-requires
other_shown-requires c = omega (arith, c.loop-r-test.true, c.sessions-r-end.ensures.few)

pub loop-r-preserved : goal.loop-r-preserved
loop-r-preserved c k = next_session (λ s. not (s == c.args.session) && is_held_shown c.args.txs.now s c.args.stored.now) c.loop-r.r k (has c.loop-r.others k) (has c.other_shown.result k) (has c.union-others.result k) (c.union-others.ensures k) (c.loop-r.invariant k) (c.other_shown.ensures k)

pub returns : goal.returns
returns c k = all_sessions c.args.txs.now c.args.session c.sessions-r-end.result c.loop-r.r k c.args.stored.now (has c.loop-r.others k) (omega (arith, c.loop-r-test.false)) c.sessions-r-end.ensures.held (c.loop-r.invariant k)
