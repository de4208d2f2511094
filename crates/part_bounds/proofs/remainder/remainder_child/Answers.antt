use Rattle.std.proofs.Common.{sym, arith}
use Rattle.bound_forms.specs.Accepts.{leaves_remainder}
use Rattle.bound_forms.proofs.Choice.{position_none}
use Rattle.part_bounds.proofs.RemainderLaws.{found_is, next_later, none_up_to}
use Rattle.part_bounds.proofs.remainder.remainder_child.Goals as goal

pub returns-in-Some : goal.returns-in-Some
returns-in-Some c = found_is c.args.bounds.now c.args.hash c.modulus_at-modulus.result c.in-Some.child c.requires.ordered c.in-Some.ensures.within c.in-Some.ensures.is

pub loop-from-preserved : goal.loop-from-preserved
loop-from-preserved c =
    none_up_to c.args.bounds.now c.args.hash c.modulus_at-modulus.result c.loop-from.from c.place_of-from.result c.requires.hashes c.requires.ordered c.loop-from-test.true c.modulus_at-modulus.ensures.is
    c.in_default.ensures.none c.place_of-from.ensures c.loop-from.invariant

pub loop-from-smaller : goal.loop-from-smaller
loop-from-smaller c =
    let later = next_later c.args.bounds.now c.modulus_at-modulus.result c.loop-from.from c.place_of-from.result c.loop-from-test.true c.requires.hashes c.requires.filled c.modulus_at-modulus.ensures.is c.place_of-from.ensures in
    omega (arith, later, c.loop-from-test.true)

pub returns : goal.returns
returns c =
    let before = c.loop-from.invariant in
    sym (position_none (leaves_remainder c.args.hash) c.args.bounds.now (λ k d lt. before k d (omega (arith, lt, c.loop-from-test.false))))
