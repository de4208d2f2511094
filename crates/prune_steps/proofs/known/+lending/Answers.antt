use Rattle.std.proofs.Common.{sym, ap, ◌∙◌, arith}
use Rattle.cond_logic.specs.Tuples.{lent}
use Rattle.prune_steps.proofs.CondTrees.{part_less, and_less, or_less}
use Rattle.prune_steps.proofs.KnownTrees.{given_one, given_many, none_given, some_given}
use Rattle.prune_steps.proofs.known.+lending.Goals as goal

pub first_known-known_given-requires : goal.first_known-known_given-requires
first_known-known_given-requires t c = let w = part_less c.args.parts.now c.loop-part.part-index c.part-item.result c.loop-part-test.true c.part-item.is in (omega (arith, w), tt)

pub first_known-returns-in-Some : goal.first_known-returns-in-Some
first_known-returns-in-Some t c =
    some_given c.args.asking.now c.args.nulls c.args.j c.args.parts.now c.loop-part.part-index c.part-item.result c.in-Some.value.now c.loop-part-test.true c.part-item.is (ap lent (sym c.in-Some.is) ∙ c.known_given.ensures)
    ∙ c.loop-part.invariant

pub first_known-loop-part-preserved : goal.first_known-loop-part-preserved
first_known-loop-part-preserved t c =
    sym (none_given c.args.asking.now c.args.nulls c.args.j c.args.parts.now c.loop-part.part-index c.part-item.result c.loop-part-test.true c.part-item.is (ap lent (sym c.in_default.is) ∙ c.known_given.ensures))
    ∙ c.loop-part.invariant

pub known_given-first_known-requires : goal.known_given-first_known-requires
known_given-first_known-requires t c = let w = and_less c.args.cond.now c.in-And.list c.as_slice.result.now c.in-And.is c.as_slice.ensures in (omega (arith, w), tt)

pub known_given-first_known-requires-then-choices-eq1 : goal.known_given-first_known-requires-then-choices-eq1
known_given-first_known-requires-then-choices-eq1 t c = let w = or_less c.args.cond.now c.in-Or.list c.as_slice-choices.result.now c.in-Or.is c.as_slice-choices.ensures in (omega (arith, w), tt)

pub known_given-returns-then-choices-eq1 : goal.known_given-returns-then-choices-eq1
known_given-returns-then-choices-eq1 t c =
    c.first_known-then-choices-eq1.ensures ∙ given_one c.args.asking.now c.args.nulls c.args.j c.args.cond.now c.in-Or.list c.as_slice-choices.result.now c.in-Or.is c.as_slice-choices.ensures c.if-choices-eq1.true

pub known_given-returns-else-choices-eq1 : goal.known_given-returns-else-choices-eq1
known_given-returns-else-choices-eq1 t c = given_many c.args.asking.now c.args.nulls c.args.j c.args.cond.now c.in-Or.list c.as_slice-choices.result.now c.in-Or.is c.as_slice-choices.ensures c.if-choices-eq1.false
