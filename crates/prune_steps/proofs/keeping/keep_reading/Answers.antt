use Rattle.std.proofs.Common.{false, ap, sym, arith, ◌∙◌}
use Rattle.std.specs.List.{slice_index_or}
use Rattle.pg_values.specs.declared.strategy.Strategy.TheVariants.{Range as ByRange, List as ByList, Hash as ByHash}
use Rattle.bound_forms.specs.declared.partition_bound.Bound.TheVariants.{Default}
use Rattle.cond_logic.specs.Trees.{cond_tree}
use Rattle.prune_steps.specs.Asking.{asked_by, known_in, reading_of}
use Rattle.prune_steps.specs.Atoms.{given}
use Rattle.prune_steps.specs.Kept.{reading_keeps}
use Rattle.prune_steps.specs.Searches.{reading_searches}
use Rattle.prune_steps.proofs.KeepLaws.{On_fits, on_kept, on_searched, cost_as, counted_as, counted_none, cost_one, counted_one}
use Rattle.prune_steps.proofs.keeping.keep_reading.Goals as goal

pub keep_compared-requires-clause-fits : goal.keep_compared-requires-clause-fits
keep_compared-requires-clause-fits g c = On_fits c.args.asking.now.level.now.columns c.args.reading c.in-On.j c.in-On.op c.in-On.value.now (ap reading_of c.in-On.is) c.requires.fits

pub keep_by_value-requires-clause-fits : goal.keep_by_value-requires-clause-fits
keep_by_value-requires-clause-fits g c = On_fits c.args.asking.now.level.now.columns c.args.reading c.in-On.j c.in-On.op c.in-On.value.now (ap reading_of c.in-On.is) c.requires.fits

pub returns-in-Range-clause-kept : goal.returns-in-Range-clause-kept
returns-in-Range-clause-kept g c =
    let k = c.args.asking.now in
    on_kept (asked_by k) c.args.set.now (given (asked_by k) false (known_in k (cond_tree c.args.root.now))) (reading_of c.args.reading) ByRange c.in-On.j c.in-On.op c.in-On.value.now c.keep_compared.new.kept
    (ap reading_of c.in-On.is) c.in-Range.is c.keep_compared.ensures.kept

pub returns-in-Range-clause-counted : goal.returns-in-Range-clause-counted
returns-in-Range-clause-counted g c =
    let k = c.args.asking.now in
    counted_as c.args.set.now _ _ _ _ (on_searched (asked_by k) (given (asked_by k) false (known_in k (cond_tree c.args.root.now))) (reading_of c.args.reading) ByRange c.in-On.j c.in-On.op c.in-On.value.now (ap reading_of c.in-On.is) c.in-Range.is)
    c.keep_compared.ensures.counted

pub returns-in-Range-clause-cost : goal.returns-in-Range-clause-cost
returns-in-Range-clause-cost g c =
    let k = c.args.asking.now in
    cost_as c.args.set.now _ _ _ _ (on_searched (asked_by k) (given (asked_by k) false (known_in k (cond_tree c.args.root.now))) (reading_of c.args.reading) ByRange c.in-On.j c.in-On.op c.in-On.value.now (ap reading_of c.in-On.is) c.in-Range.is)
    c.keep_compared.ensures.cost

pub returns-in-List-clause-kept : goal.returns-in-List-clause-kept
returns-in-List-clause-kept g c =
    let k = c.args.asking.now in
    on_kept (asked_by k) c.args.set.now (given (asked_by k) false (known_in k (cond_tree c.args.root.now))) (reading_of c.args.reading) ByList c.in-On.j c.in-On.op c.in-On.value.now c.keep_by_value.new.kept
    (ap reading_of c.in-On.is) c.in-List.is c.keep_by_value.ensures.kept

pub returns-in-List-clause-counted : goal.returns-in-List-clause-counted
returns-in-List-clause-counted g c =
    let k = c.args.asking.now in
    counted_one c.args.set.now _ _ _ (sym (on_searched (asked_by k) (given (asked_by k) false (known_in k (cond_tree c.args.root.now))) (reading_of c.args.reading) ByList c.in-On.j c.in-On.op c.in-On.value.now (ap reading_of c.in-On.is) c.in-List.is))
    c.keep_by_value.ensures.counted

pub returns-in-List-clause-cost : goal.returns-in-List-clause-cost
returns-in-List-clause-cost g c =
    let k = c.args.asking.now in
    cost_one c.args.set.now _ _ _ (sym (on_searched (asked_by k) (given (asked_by k) false (known_in k (cond_tree c.args.root.now))) (reading_of c.args.reading) ByList c.in-On.j c.in-On.op c.in-On.value.now (ap reading_of c.in-On.is) c.in-List.is))
    c.keep_by_value.ensures.cost

pub returns-in-Hash-clause-kept : goal.returns-in-Hash-clause-kept
returns-in-Hash-clause-kept g c =
    let k = c.args.asking.now in
    on_kept (asked_by k) c.args.set.now (given (asked_by k) false (known_in k (cond_tree c.args.root.now))) (reading_of c.args.reading) ByHash c.in-On.j c.in-On.op c.in-On.value.now c.fill-in-Hash.new.self
    (ap reading_of c.in-On.is) c.in-Hash.is (λ i lt. c.fill-in-Hash.ensures i (omega (arith, lt, c.requires.small)))

pub returns-in-Hash-clause-counted : goal.returns-in-Hash-clause-counted
returns-in-Hash-clause-counted g c =
    let k = c.args.asking.now in
    counted_none c.args.set.now _ _ (sym (on_searched (asked_by k) (given (asked_by k) false (known_in k (cond_tree c.args.root.now))) (reading_of c.args.reading) ByHash c.in-On.j c.in-On.op c.in-On.value.now (ap reading_of c.in-On.is) c.in-Hash.is))

pub returns-in-Never-clause-kept : goal.returns-in-Never-clause-kept
returns-in-Never-clause-kept g c = λ i lt.
    let k = c.args.asking.now in
    c.fill.ensures i (omega (arith, lt, c.requires.small))
    ∙ sym (ap (λ r. reading_keeps (asked_by k) c.args.set.now (given (asked_by k) false (known_in k (cond_tree c.args.root.now))) (reading_of r) (slice_index_or c.args.set.now i Default)) c.in-Never.is)

pub returns-in-Never-clause-counted : goal.returns-in-Never-clause-counted
returns-in-Never-clause-counted g c =
    let k = c.args.asking.now in
    counted_none c.args.set.now _ _ (ap (λ r. reading_searches (asked_by k) (given (asked_by k) false (known_in k (cond_tree c.args.root.now))) (reading_of r)) c.in-Never.is)

pub returns-in-Anything-clause-kept : goal.returns-in-Anything-clause-kept
returns-in-Anything-clause-kept g c = λ i lt.
    let k = c.args.asking.now in
    c.fill-in-Anything.ensures i (omega (arith, lt, c.requires.small))
    ∙ sym (ap (λ r. reading_keeps (asked_by k) c.args.set.now (given (asked_by k) false (known_in k (cond_tree c.args.root.now))) (reading_of r) (slice_index_or c.args.set.now i Default)) c.in-Anything.is)

pub returns-in-Anything-clause-counted : goal.returns-in-Anything-clause-counted
returns-in-Anything-clause-counted g c =
    let k = c.args.asking.now in
    counted_none c.args.set.now _ _ (ap (λ r. reading_searches (asked_by k) (given (asked_by k) false (known_in k (cond_tree c.args.root.now))) (reading_of r)) c.in-Anything.is)
