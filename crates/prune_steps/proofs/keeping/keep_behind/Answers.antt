use Rattle.std.proofs.Common.{◌+◌, ◌++◌, List, [], ◌∷◌, false, length, nat_lt, ap, subst, arith}
use Rattle.std.specs.List.{slice_index_or}
use Rattle.bound_forms.specs.declared.level.KeyColumn.{KeyColumn}
use Rattle.bound_forms.specs.declared.partition_bound.Bound.TheVariants.{Default}
use Rattle.cond_logic.specs.Trees.{cond_tree}
use Rattle.prune_steps.specs.Asking.{asked_by, known_in, given_values}
use Rattle.prune_steps.specs.Atoms.{given}
use Rattle.prune_steps.specs.Bits.{AreBits}
use Rattle.prune_steps.specs.Chains.{chain_keeps}
use Rattle.prune_steps.specs.Runs.{ends_of}
use Rattle.prune_steps.proofs.KeepLaws.{chain_asked, suits_within}
use Rattle.prune_steps.proofs.keeping.keep_behind.Goals as goal

pub overflow_add-short : goal.overflow_add-short
overflow_add-short g c =
    let within = suits_within c.args.asking.now.level.now.columns c.args.j c.args.value.now c.requires.fits in
    let same = ap (length {A = KeyColumn}) c.as_slice-columns.ensures in
    omega (arith, within, same)

pub invariant_of-key : goal.invariant_of-key
invariant_of-key g c =
    let within = suits_within c.args.asking.now.level.now.columns c.args.j c.args.value.now c.requires.fits in
    let same = ap (length {A = KeyColumn}) c.as_slice-columns.ensures in
    record { few = omega (arith, within, same) }

pub keep_chain-requires-clause-ranges : goal.keep_chain-requires-clause-ranges
keep_chain-requires-clause-ranges g c =
    let k = c.args.asking.now in
    (chain_asked (asked_by k) (known_in k (cond_tree c.args.root.now)) c.args.j c.args.op c.args.value.now c.args.set.now c.requires.by_range c.requires.level c.requires.fits c.requires.before).ranges

pub keep_chain-requires-clause-fit : goal.keep_chain-requires-clause-fit
keep_chain-requires-clause-fit g c =
    let k = c.args.asking.now in
    (chain_asked (asked_by k) (known_in k (cond_tree c.args.root.now)) c.args.j c.args.op c.args.value.now c.args.set.now c.requires.by_range c.requires.level c.requires.fits c.requires.before).fit

pub keep_chain-requires-clause-chain : goal.keep_chain-requires-clause-chain
keep_chain-requires-clause-chain g c =
    let k = c.args.asking.now in
    (chain_asked (asked_by k) (known_in k (cond_tree c.args.root.now)) c.args.j c.args.op c.args.value.now c.args.set.now c.requires.by_range c.requires.level c.requires.fits c.requires.before).ends

pub returns-clause-kept : goal.returns-clause-kept
returns-clause-kept g c =
    let k = c.args.asking.now in
    let n = length k.level.now.columns in
    let values = given_values (given (asked_by k) false (known_in k (cond_tree c.args.root.now))) c.args.j ++ c.args.value.now ∷ [] in
    let asks = chain_asked (asked_by k) (known_in k (cond_tree c.args.root.now)) c.args.j c.args.op c.args.value.now c.args.set.now c.requires.by_range c.requires.level c.requires.fits c.requires.before in
    subst (λ (columns : List KeyColumn). AreBits (length c.args.set.now) c.keep_chain.new.kept (λ i. chain_keeps c.args.set.now (nat_lt (c.args.j + 1) (length columns)) (ends_of (n + 1) c.args.op values) (slice_index_or c.args.set.now i Default)))
    c.as_slice-columns.ensures (c.keep_chain.ensures.kept (n + 1) asks.edges)
