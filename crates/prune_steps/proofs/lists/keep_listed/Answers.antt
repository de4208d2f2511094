use Rattle.bound_forms.specs.Listed.{only}
use Rattle.part_bounds.proofs.Strategies.{lists_have_points}
use Rattle.prune_steps.proofs.ListLaws.{all_listed}
use Rattle.prune_steps.proofs.lists.keep_listed.Goals as goal

pub counts_in-counts-requires-clause-level : goal.counts_in-counts-requires-clause-level
counts_in-counts-requires-clause-level g c = lists_have_points c.args.set.now c.requires.level

pub counts_in-counts-requires-clause-run : goal.counts_in-counts-requires-clause-run
counts_in-counts-requires-clause-run g c = c.run_of-from.ensures.run.within

pub returns-clause-kept : goal.returns-clause-kept
returns-clause-kept g c = all_listed c.args.set.now c.args.op (only (g.Q.Key.values c.args.key.now)) _ _ _ _ _ _ _ _ c.requires.level c.run_of-from.ensures.run c.requires.small
    c.passes_inside.ensures c.keeps_default.ensures c.counts_in-counts.ensures c.fill.ensures c.add_counted.ensures c.add_default.ensures
