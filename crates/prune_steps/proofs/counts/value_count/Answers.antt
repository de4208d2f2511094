use Rattle.std.proofs.Common.{not, arith}
use Rattle.bound_forms.specs.Points.{is_null}
use Rattle.prune_steps.proofs.Tallies.{counted_more, counted_most, counted_end}
use Rattle.prune_steps.proofs.counts.value_count.Goals as goal

pub loop-i-preserved : goal.loop-i-preserved
loop-i-preserved c = record {
  told = counted_more (λ v. not (is_null v)) c.args.values.now c.loop-i.i c.loop-i.count _ _ _ c.value.ensures c.one_if_not_null-count.ensures c.loop-i.invariant.told;
  most = counted_most (not (is_null c.value.result.now)) c.loop-i.i c.loop-i.count _ c.one_if_not_null-count.ensures c.loop-i.invariant.most;
}

pub returns : goal.returns
returns c = counted_end (λ v. not (is_null v)) c.args.values.now c.loop-i.i c.loop-i.count _ (omega (arith, c.loop-i-test.false, c.len-i-end.ensures)) c.loop-i.invariant.told
