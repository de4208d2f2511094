-- How many children a table has after an entry was added.
use Rattle.std.proofs.Common.{◌≡◌, ◌≢◌, ℕ, suc, ◌+◌, ◌≤◌, ◌==◌, not, arith, Bool, true, false, List, [], ◌∷◌, inl, inr, refl, ap, sym, subst, ◌∙◌, filter, length, get_or}
use Rattle.std.specs.List.{All, AllPairs}
use Rattle.std.proofs.lemmas.Bool.{cases_Bool}
use Rattle.std.proofs.lemmas.Bool.Decides.{nat_tests}
use Rattle.std.proofs.lemmas.Grind.{common_steps}
use Rattle.std.proofs.lemmas.List.Elements.{All-head, All-tail, All-filter, filter_passes}
use Rattle.std.proofs.lemmas.List.Kept.{AllPairs-filter}
use Rattle.bound_forms.proofs.PlainOrder.{pairs-head, pairs-tail}
use Rattle.history.specs.declared.catalogue.Entry.{Entry}
use Rattle.history.specs.Catalogue.{CatalogueEvents, EntryAdded}
use Rattle.history.specs.History.{History, tx_events, catalogue_events}
use Rattle.soundness.specs.Worlds.{World, IsWorld, Present, view}
use Rattle.soundness.specs.Parts.{AreChildren, InvariantOf}
use Rattle.soundness.specs.Legal.{MayAdd}
use Rattle.soundness.proofs.Added.{present_was, sibling_view}

abbrev pub is_other : ℕ → Entry → Bool
is_other k e = not (e.id.number == k)

abbrev pub AreTwo : Entry → Entry → Type 0
AreTwo e f = e.id.number ≢ f.id.number

-- what all pass stays whole
whole : (k : ℕ) (es : List Entry) → All (λ e. is_other k e ≡ true) es → length (filter (is_other k) es) ≡ length es
whole k [] all = refl
whole k (e ∷ es) all =
    let here : is_other k e ≡ true = All-head (λ (x : Entry). is_other k x ≡ true) e es all in
    let rest = whole k es (All-tail (λ (x : Entry). is_other k x ≡ true) e es all) in
    rw here (ap suc rest)

others : (k : ℕ) (e : Entry) (es : List Entry) → e.id.number ≡ k → All (AreTwo e) es → All (λ x. is_other k x ≡ true) es
others k e es at all i d lt =
    let apart : e.id.number ≢ (get_or es i d).id.number = all i d lt in
    let away : (get_or es i d).id.number ≢ k = λ same. apart (at ∙ sym same) in
    let no_same : ((get_or es i d).id.number == k) ≡ false = grind (arith, nat_tests) in
    rw no_same refl

-- at most one has that number
one_less : (k : ℕ) (es : List Entry) → AllPairs AreTwo es → length es ≤ length (filter (is_other k) es) + 1
one_less k [] two = omega arith
one_less k (e ∷ es) two = elim (cases_Bool (is_other k e)) [
  | inl y ↦ let rest = one_less k es (pairs-tail AreTwo e es two) in rw y (omega (arith, rest))
  | inr n ↦
      let same : (e.id.number == k) ≡ true = grind (arith, common_steps, n) in
      let at : e.id.number ≡ k = grind (arith, nat_tests, same) in
      let rest = whole k es (others k e es at (pairs-head AreTwo e es two)) in
      rw n (omega (arith, rest))
]

-- one that is present after the event, and is not the new entry, was present before
present_other : (e : Entry) (cats : CatalogueEvents) (w : World) (g : Entry) → is_other e.id.number g ≡ true → Present (EntryAdded e ∷ cats) w g → Present cats w g
present_other e cats w g other p = elim (present_was e cats w g p) [
  | inr old ↦ old
  | inl new ↦
      let same : (g.id.number == e.id.number) ≡ true = subst (λ (z : Entry). (z.id.number == e.id.number) ≡ true) new.0 (grind (arith, nat_tests)) in
      let out : is_other e.id.number g ≡ false = rw same refl in
      let both : true ≡ false = sym other ∙ out in
      absurd (cc)
]

-- in a world without the new entry below the table nothing changed
all_old : (e : Entry) (cats : CatalogueEvents) (w : World) (x : ℕ) (es : List Entry) → ((e.parent.number ≡ x) → w e.by.number ≡ true → ⊥) → AreChildren (EntryAdded e ∷ cats) w x es → AreChildren cats w x es
all_old e cats w x es none are = record {
  below = λ k d lt. let p = are.below k d lt in elim (present_was e cats w (get_or es k d) p.0) [
    | inr old ↦ (old, p.1)
    | inl new ↦ absurd (none (ap (λ (z : Entry). z.parent.number) new.0 ∙ p.1) new.1)
  ];
  two = are.two;
}

pub few_still : (h : History) (e : Entry) (w : World) → MayAdd h e → InvariantOf h → IsWorld (tx_events h) w → (x : ℕ) (es : List Entry) → AreChildren (EntryAdded e ∷ catalogue_events h) w x es → length es ≤ 1024
few_still h e w may i world x es are = elim (cases_Bool (w e.by.number)) [
  | inr out ↦ (i.siblings w world).few x es (all_old e (catalogue_events h) w x es (λ at own. let both : true ≡ false = sym own ∙ out in cc) are)
  | inl own ↦ elim (cases_Bool (e.parent.number == x)) [
    | inr away ↦
        let other : e.parent.number ≢ x = grind (arith, nat_tests, away) in
        (i.siblings w world).few x es (all_old e (catalogue_events h) w x es (λ at counts. other at) are)
    | inl here ↦
        let at : e.parent.number ≡ x = grind (arith, nat_tests, here) in
        let left : List Entry = filter (is_other e.id.number) es in
        let mine : AreChildren (catalogue_events h) (view (tx_events h) e.by.number) e.parent.number left = record {
          below = λ k d lt.
              let p = All-filter (is_other e.id.number) (λ (g : Entry). Present (EntryAdded e ∷ catalogue_events h) w g × (g.parent.number ≡ x)) es are.below k d lt in
              let other = filter_passes (is_other e.id.number) es k d lt in
              let same = p.1 ∙ sym at in
              (sibling_view h e w (get_or left k d) may i world own (present_other e (catalogue_events h) w (get_or left k d) other p.0) same, same);
          two = AllPairs-filter AreTwo (is_other e.id.number) es are.two;
        } in
        let room = may.place.roomy left mine in
        let less = one_less e.id.number es are.two in
        omega (arith, room, less)
  ]
]

pub fewer : (c d : CatalogueEvents) (w : World) (x : ℕ) (es : List Entry) → ((e : Entry) → Present c w e → Present d w e) → AreChildren c w x es → AreChildren d w x es
fewer c d w x es to are = record { below = λ k e lt. let p = are.below k e lt in (to (get_or es k e) p.0, p.1); two = are.two }

-- where no entry was added, none is a child
pub none_yet : (w : World) (x : ℕ) (es : List Entry) → AreChildren [] w x es → length es ≤ 1024
none_yet w x [] are = omega arith
none_yet w x (e ∷ es) are = absurd (are.below 0 e (omega arith)).0.0
