use Rattle.std.proofs.Common.{ap, ◌∙◌}
use Rattle.std.specs.List.{slice_index_or}
use Rattle.bound_forms.specs.declared.partition_bound.Bound.TheVariants.{Default}
use Rattle.cond_logic.specs.Rewriting.{pushed, with_args}
use Rattle.prune_steps.specs.Atoms.{asked}
use Rattle.prune_steps.specs.Beside.{beside}
use Rattle.prune_steps.specs.Kept.{whole_keeps}
use Rattle.prune_steps.specs.Prunings.{condition_of}
use Rattle.prune_steps.specs.Searches.{whole_searches}
use Rattle.prune_steps.proofs.KeepLaws.{cost_as, counted_as}
use Rattle.prune_steps.proofs.Knowing.{known_pushed}
use Rattle.prune_steps.proofs.Searching.{whole_most}
use Rattle.prune_steps.proofs.pruning.Pruning.run.Goals as goal

pub returns-clause-kept : goal.returns-clause-kept
returns-clause-kept g c = λ k lt.
    let p = c.args.self.now in
    let rows = c.args.binding.now.rows in
    c.keep_whole.ensures.kept k lt
    ∙ ap (λ u. whole_keeps (asked p.item c.args.level.now) c.args.set.now u (slice_index_or c.args.set.now k Default)) (known_pushed c.args.binding.now.args c.args.before rows (condition_of p) p.inwards)

pub returns-clause-counted : goal.returns-clause-counted
returns-clause-counted g c =
    let p = c.args.self.now in
    counted_as c.args.set.now _ _ _ _ (ap (whole_searches (asked p.item c.args.level.now)) (known_pushed c.args.binding.now.args c.args.before c.args.binding.now.rows (condition_of p) p.inwards)) c.keep_whole.ensures.counted

pub returns-clause-cost : goal.returns-clause-cost
returns-clause-cost g c = λ d most.
    let p = c.args.self.now in
    let u = with_args c.args.binding.now.args (beside c.args.before c.args.binding.now.rows (condition_of p)) in
    whole_most (asked p.item c.args.level.now) (pushed u) _ _ d
    (cost_as c.args.set.now _ _ _ _ (ap (whole_searches (asked p.item c.args.level.now)) (known_pushed c.args.binding.now.args c.args.before c.args.binding.now.rows (condition_of p) p.inwards)) c.keep_whole.ensures.cost d most)
