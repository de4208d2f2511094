use Rattle.std.specs.List.{slice_index_or}
use Rattle.bound_forms.specs.declared.partition_bound.Bound.TheVariants.{Default}
use Rattle.prune_steps.specs.Lists.{is_counted, count_at}
use Rattle.prune_steps.proofs.Marking.{done_more, rest_more, counted_here}
use Rattle.prune_steps.proofs.counts.add_counted.Goals as goal

pub loop-k-preserved : goal.loop-k-preserved
loop-k-preserved g c =
    let hit = counted_here c.args.inside c.args.counts.now c.args.set.now c.loop-k.k c.bound.result.now c.of.result c.is_counted-yes.result c.bound.ensures c.of.ensures c.is_counted-yes.ensures in
    record {
      done = done_more (λ j. is_counted c.args.inside (count_at c.args.counts.now j) (slice_index_or c.args.set.now j Default)) _ _ _ c.loop-k.k c.is_counted-yes.result hit c.add_if.ensures c.loop-k.invariant.done c.loop-k.invariant.rest;
      rest = rest_more _ _ _ c.loop-k.k c.is_counted-yes.result c.add_if.ensures c.loop-k.invariant.rest;
    }
