use Rattle.std.proofs.Common.{◌≡◌, ◌∙◌, true, sym}
use Rattle.bound_forms.specs.Bounds.{is_filled}
use Rattle.part_ddl.proofs.First.{all_at}
use Rattle.part_ddl.proofs.Suiting.{suits_one, suits_not, bad_here, bad_later, bad_nowhere}
use Rattle.part_ddl.proofs.placing.unsuited.Goals as goal

pub modulus_fault-requires : goal.modulus_fault-requires
modulus_fault-requires c = all_at (λ e. is_filled e.bound ≡ true) (λ e. e.now) c.args.partitions.now c.loop-entry.entry-index c.entry-item.result c.requires.filled c.loop-entry-test.true c.entry-item.is

pub returns-then-is_some : goal.returns-then-is_some
returns-then-is_some c =
    let fails = suits_not c.args._bound.now c.entry-item.result.now.bound c.args.one.now c.modulus_fault.result c.requires.one c.modulus_fault.ensures.modulus (sym c.is_some.ensures ∙ c.if-is_some.true) in
    c.modulus_of.ensures ∙ sym (bad_here c.args._bound.now (λ e. e.now) c.args.partitions.now c.loop-entry.entry-index c.entry-item.result c.loop-entry-test.true c.entry-item.is fails) ∙ c.loop-entry.invariant

pub loop-entry-preserved : goal.loop-entry-preserved
loop-entry-preserved c =
    let passes = suits_one c.args._bound.now c.entry-item.result.now.bound c.args.one.now c.modulus_fault.result c.requires.one c.modulus_fault.ensures.modulus (sym c.is_some.ensures ∙ c.if-is_some.false) in
    sym (bad_later c.args._bound.now (λ e. e.now) c.args.partitions.now c.loop-entry.entry-index c.entry-item.result c.loop-entry-test.true c.entry-item.is passes) ∙ c.loop-entry.invariant

pub returns : goal.returns
returns c = sym (bad_nowhere c.args._bound.now (λ e. e.now) c.args.partitions.now c.loop-entry.entry-index c.loop-entry-test.false) ∙ c.loop-entry.invariant
