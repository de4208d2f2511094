use Rattle.std.proofs.Common.{◌≡◌, ◌∙◌, ◌+◌, ◌-◌, ◌/◌, ◌<◌, arith, ap, sym, subst, true, Bor, get_or, length, map}
use Rattle.std.proofs.lemmas.List.{get_or-map, length-map}
use Rattle.history.specs.declared.catalogue.Entry.{Entry}
use Rattle.bound_forms.specs.Bounds.{BoundsFit}
use Rattle.part_catalog.specs.Kept.{no_entry}
use Rattle.part_ddl.specs.Placing.{begins_behind}
use Rattle.part_ddl.proofs.Behind.{apart_up_to}
use Rattle.part_ddl.proofs.First.{all_at}
use Rattle.part_ddl.proofs.placing.count_before.Goals as goal

pub begins_behind-requires-clause-fit : goal.begins_behind-requires-clause-fit
begins_behind-requires-clause-fit c =
    let middle = c.loop-low.low + (c.loop-low.high - c.loop-low.low) / 2 in
    let lt : middle < length c.args.partitions.now = omega (arith, c.loop-low-test.true, c.loop-low.invariant.within) in
    subst (λ (e : Bor Entry). BoundsFit c.args.bound.now e.now.bound) c.index-partitions-middle.is
    (all_at (λ e. BoundsFit c.args.bound.now e.bound) (λ e. e.now) c.args.partitions.now middle c.index-partitions-middle.result c.requires.fit lt c.index-partitions-middle.is)

pub loop-low-preserved-then-begins_behind : goal.loop-low-preserved-then-begins_behind
loop-low-preserved-then-begins_behind c =
    let middle = c.loop-low.low + (c.loop-low.high - c.loop-low.low) / 2 in
    let i = c.loop-low.invariant in
    let es = map (λ e. e.now) c.args.partitions.now in
    let lt : middle < length c.args.partitions.now = omega (arith, c.loop-low-test.true, i.within) in
    let x = c.index-partitions-middle.result in
    let at : get_or es middle no_entry.entry ≡ (get_or c.args.partitions.now middle x).now = get_or-map (λ (e : Bor Entry). e.now) c.args.partitions.now middle x no_entry.entry lt in
    let behind : begins_behind c.args.bound.now (get_or es middle no_entry.entry).bound ≡ true = ap (λ (e : Entry). begins_behind c.args.bound.now e.bound) at ∙ sym c.begins_behind.ensures ∙ c.if-begins_behind.true in
    record {
      order = omega (arith, c.loop-low-test.true);
      within = i.within;
      apart = apart_up_to c.args.bound.now es middle _ (omega (arith, lt, length-map c.args.partitions.now (λ e. e.now))) (omega arith) c.requires.kind c.requires.filled c.requires.ordered behind;
    }
