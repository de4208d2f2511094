use Rattle.std.specs.List.{slice_index_or}
use Rattle.bound_forms.specs.declared.partition_bound.Bound.TheVariants.{Default}
use Rattle.prune_steps.specs.Lists.{is_marked}
use Rattle.prune_steps.proofs.Marking.{test_at, done_more, rest_more}
use Rattle.prune_steps.proofs.marks.add_marked.Goals as goal

pub loop-k-preserved : goal.loop-k-preserved
loop-k-preserved g c =
    let hit = test_at (is_marked c.args.mark) c.args.set.now c.loop-k.k c.bound.result.now c.is_marked-yes.result c.bound.ensures c.is_marked-yes.ensures in
    record {
      done = done_more (λ j. is_marked c.args.mark (slice_index_or c.args.set.now j Default)) _ _ _ c.loop-k.k c.is_marked-yes.result hit c.add_if.ensures c.loop-k.invariant.done c.loop-k.invariant.rest;
      rest = rest_more _ _ _ c.loop-k.k c.is_marked-yes.result c.add_if.ensures c.loop-k.invariant.rest;
    }
