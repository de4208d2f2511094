use Rattle.std.proofs.Common.{false, length, arith, sym, ap, ◌∙◌}
use Rattle.std.specs.List.{slice_index_or}
use Rattle.bound_forms.specs.declared.partition_bound.Bound.TheVariants.{Default}
use Rattle.cond_logic.specs.Trees.{cond_tree}
use Rattle.prune_steps.specs.Asking.{asked_by, known_in, given_values, if_given}
use Rattle.prune_steps.specs.Atoms.{given, values_before}
use Rattle.prune_steps.proofs.KeepLaws.{chain_is, all_before, one_search, no_search, unsearched, cost_one, counted_two, counted_none}
use Rattle.prune_steps.proofs.Fitting.{not_a_chain}
use Rattle.prune_steps.proofs.keeping.keep_compared.Goals as goal

pub keep_behind-requires-clause-before : goal.keep_behind-requires-clause-before
keep_behind-requires-clause-before g c =
    let k = c.args.asking.now in
    let f = given (asked_by k) false (known_in k (cond_tree c.args.root.now)) in
    c.gives_first-given.ensures ∙ ap (λ b. if_given b f c.args.j) c.if-given.true

pub returns-in-None-clause-kept : goal.returns-in-None-clause-kept
returns-in-None-clause-kept g c = λ i lt.
    let k = c.args.asking.now in
    let f = given (asked_by k) false (known_in k (cond_tree c.args.root.now)) in
    c.fill.ensures i (omega (arith, lt, c.requires.small))
    ∙ not_a_chain c.args.set.now (length k.level.now.columns) (values_before f c.args.j) c.args.j c.args.op c.args.value.now (slice_index_or c.args.set.now i Default) (sym c.chain_op.ensures ∙ c.in-None.is)

pub returns-in-None-clause-counted : goal.returns-in-None-clause-counted
returns-in-None-clause-counted g c = counted_none c.args.set.now _ _ (no_search c.args.op _ (sym c.chain_op.ensures ∙ c.in-None.is))

pub returns-then-given-clause-kept : goal.returns-then-given-clause-kept
returns-then-given-clause-kept g c = λ i lt.
    let k = c.args.asking.now in
    let f = given (asked_by k) false (known_in k (cond_tree c.args.root.now)) in
    c.keep_behind.ensures.kept i lt
    ∙ chain_is f (length k.level.now.columns) c.args.j c.args.op c.in-Some.op c.args.value.now c.args.set.now (slice_index_or c.args.set.now i Default) (sym c.chain_op.ensures ∙ c.in-Some.is)
    (c.gives_first-given.ensures ∙ ap (λ b. if_given b f c.args.j) c.if-given.true)

pub returns-then-given-clause-counted : goal.returns-then-given-clause-counted
returns-then-given-clause-counted g c =
    let k = c.args.asking.now in
    let f = given (asked_by k) false (known_in k (cond_tree c.args.root.now)) in
    counted_two c.args.set.now _ _ _ (one_search c.args.op c.in-Some.op (given_values f c.args.j) _ (sym c.chain_op.ensures ∙ c.in-Some.is) (c.gives_first-given.ensures ∙ ap (λ b. if_given b f c.args.j) c.if-given.true)) c.keep_behind.ensures.counted

pub returns-then-given-clause-cost : goal.returns-then-given-clause-cost
returns-then-given-clause-cost g c =
    let k = c.args.asking.now in
    let f = given (asked_by k) false (known_in k (cond_tree c.args.root.now)) in
    cost_one c.args.set.now _ _ _ (one_search c.args.op c.in-Some.op (given_values f c.args.j) _ (sym c.chain_op.ensures ∙ c.in-Some.is) (c.gives_first-given.ensures ∙ ap (λ b. if_given b f c.args.j) c.if-given.true)) c.keep_behind.ensures.cost

pub returns-else-given-clause-kept : goal.returns-else-given-clause-kept
returns-else-given-clause-kept g c = λ i lt.
    let k = c.args.asking.now in
    let f = given (asked_by k) false (known_in k (cond_tree c.args.root.now)) in
    c.fill-else-given.ensures i (omega (arith, lt, c.requires.small))
    ∙ all_before (length k.level.now.columns) c.args.j c.args.op c.args.value.now c.args.set.now (slice_index_or c.args.set.now i Default) (values_before f c.args.j) (c.gives_first-given.ensures ∙ ap (λ b. if_given b f c.args.j) c.if-given.false)

pub returns-else-given-clause-counted : goal.returns-else-given-clause-counted
returns-else-given-clause-counted g c =
    let k = c.args.asking.now in
    let f = given (asked_by k) false (known_in k (cond_tree c.args.root.now)) in
    counted_none c.args.set.now _ _ (unsearched c.args.op _ (c.gives_first-given.ensures ∙ ap (λ b. if_given b f c.args.j) c.if-given.false))
