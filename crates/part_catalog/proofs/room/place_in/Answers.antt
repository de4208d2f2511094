use Rattle.std.proofs.Common.{◌≡◌, ◌∙◌, ◌-◌, ◌<◌, ◌≤◌, true, false, ap, sym, arith, length, get_or, inl, inr}
use Rattle.std.proofs.lemmas.Bool.{cases_lt}
use Rattle.std.proofs.lemmas.Grind.{common_steps, elements}
use Rattle.bound_forms.specs.Bounds.{comes_after}
use Rattle.part_catalog.specs.declared.stored.StoredEntry.{StoredEntry}
use Rattle.part_catalog.specs.Kept.{no_entry}
use Rattle.part_catalog.specs.Ordered.{CanPlace, stands_behind}
use Rattle.part_catalog.proofs.Adding.{place_behind, place_first}
use Rattle.part_catalog.proofs.room.place_in.Goals as goal

pub returns-then-not-comes_after-clause-is : goal.returns-then-not-comes_after-clause-is
returns-then-not-comes_after-clause-is c =
    let E = c.args.entries.now in
    let N = c.args.numbers.now in
    let b = c.args.entry.now.bound in
    let i = c.loop-i.i in
    let some : 0 < i = c.loop-i-test.true in
    let within : i ≤ length N = c.loop-i.auto.i in
    let n = get_or N (i - 1) 0 in
    let can : CanPlace E c.args.entry.now n = c.requires.orders (i - 1) 0 (omega (arith, some, within)) in
    let x : StoredEntry = c.index-entries-numbers.result in
    let same : x ≡ get_or E n no_entry = grind (arith, common_steps, elements, can.0) in
    let over : stands_behind E b n ≡ false = ap (λ (y : StoredEntry). comes_after y.entry.bound b) (sym same) ∙ sym c.comes_after.ensures ∙ c.if-not-comes_after.true in
    place_behind E b N i _ some within (omega (arith, some)) c.requires.sorted over c.loop-i.invariant

pub loop-i-preserved : goal.loop-i-preserved
loop-i-preserved c = λ k d from lt.
    let E = c.args.entries.now in
    let N = c.args.numbers.now in
    let b = c.args.entry.now.bound in
    let i = c.loop-i.i in
    let some : 0 < i = c.loop-i-test.true in
    let within : i ≤ length N = c.loop-i.auto.i in
    let can : CanPlace E c.args.entry.now (get_or N (i - 1) 0) = c.requires.orders (i - 1) 0 (omega (arith, some, within)) in
    let x : StoredEntry = c.index-entries-numbers.result in
    let same : x ≡ get_or E (get_or N (i - 1) 0) no_entry = grind (arith, common_steps, elements, can.0) in
    let behind : stands_behind E b (get_or N (i - 1) 0) ≡ true = ap (λ (y : StoredEntry). comes_after y.entry.bound b) (sym same) ∙ sym c.comes_after.ensures ∙ c.if-not-comes_after.false in
    elim (cases_lt k i) [
      | inl below ↦
          let is : k ≡ i - 1 = omega (arith, below, from, some) in
          let here : get_or N k d ≡ get_or N (i - 1) 0 = grind (arith, common_steps, elements, is, lt) in
          ap (stands_behind E b) here ∙ behind
      | inr past ↦ c.loop-i.invariant k d past lt
    ]

pub returns-clause-is : goal.returns-clause-is
returns-clause-is c =
    place_first c.args.entries.now c.args.entry.now.bound c.args.numbers.now c.loop-i.i (omega (arith, c.loop-i-test.false)) c.loop-i.invariant
