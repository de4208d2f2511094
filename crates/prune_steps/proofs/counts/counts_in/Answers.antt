use Rattle.std.proofs.Common.{sym, ◌∙◌, arith}
use Rattle.part_bounds.specs.Stored.{owners}
use Rattle.prune_steps.proofs.ListLaws.{owner_within, owned_start, owned_next, owned_end}
use Rattle.prune_steps.proofs.counts.counts_in.Goals as goal

pub loop-i-init : goal.loop-i-init
loop-i-init g c = λ k h. (c.new-counts.ensures k h ∙ sym (owned_start (owners c.args.set.now) c.args.from c.args.to c.args.from k (omega arith)), omega (arith, c.new-counts.ensures k h))

pub owner_of-requires-clause-there : goal.owner_of-requires-clause-there
owner_of-requires-clause-there g c = omega (arith, c.loop-i-test.true, c.requires.run)

pub count-requires-clause-child : goal.count-requires-clause-child
count-requires-clause-child g c =
    let within = owner_within c.args.set.now c.loop-i.i (omega (arith, c.loop-i-test.true, c.requires.run)) in
    omega (arith, within, c.owner_of.ensures, c.requires.small)

pub count-requires-clause-few : goal.count-requires-clause-few
count-requires-clause-few g c =
    let within = owner_within c.args.set.now c.loop-i.i (omega (arith, c.loop-i-test.true, c.requires.run)) in
    let few = (c.loop-i.invariant c.owner_of.result (omega (arith, within, c.owner_of.ensures, c.requires.small))).1 in
    omega (arith, few, c.loop-i-test.true)

pub loop-i-preserved : goal.loop-i-preserved
loop-i-preserved g c = λ k h.
    let before = c.loop-i.invariant k h in
    owned_next (owners c.args.set.now) c.args.from c.args.to c.loop-i.i k c.owner_of.result _ _ c.owner_of.ensures (c.loop-i.auto.i) c.loop-i-test.true (c.count.ensures k h) before.0 before.1

pub returns : goal.returns
returns g c = λ k h. (c.loop-i.invariant k h).0 ∙ owned_end (owners c.args.set.now) c.args.from c.args.to c.loop-i.i k (omega (arith, c.loop-i-test.false))
