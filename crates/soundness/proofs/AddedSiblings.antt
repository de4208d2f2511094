-- Siblings after an entry was added.
use Rattle.std.proofs.Common.{◌≡◌, ℕ, zero, suc, true, false, ◌∷◌, inl, inr, refl, ap, sym, subst, ◌∙◌}
use Rattle.std.proofs.lemmas.Bool.{cases_Bool}
use Rattle.history.specs.declared.catalogue.Entry.{Entry}
use Rattle.history.specs.Catalogue.{EntryAdded, tables_made, IsEntry, IsMark}
use Rattle.history.specs.Places.{Suits}
use Rattle.bound_forms.specs.Accepts.{is_default}
use Rattle.history.specs.Transactions.{IsRunning}
use Rattle.row_router.specs.Siblings.{CanStandTogether}
use Rattle.bound_forms.proofs.OverlapLaws.{overlaps_turned, siblings_turn}
use Rattle.history.specs.History.{History, tx_events, catalogue_events}
use Rattle.soundness.specs.Worlds.{World, IsWorld, table_in, Present, IsThere, IsPending, Under, view}
use Rattle.soundness.specs.Parts.{AreEntries, Siblings, OwnsIn, GuardsIn, InvariantOf}
use Rattle.soundness.proofs.Worlds.{both_ways, split, inside, present_own}
use Rattle.soundness.proofs.Held.{clash, guarding, own_here}
use Rattle.soundness.specs.Legal.{MayAdd}
use Rattle.soundness.proofs.Under.{under_join}
use Rattle.soundness.proofs.Counted.{few_still}
use Rattle.soundness.proofs.Added.{IsFresh, parent_guarded, present_was, new_way, sibling_view, not_above, old_way_up, long_way, above_view, below_view}

child_guarded : (h : History) (e : Entry) (w : World) → MayAdd h e → IsWorld (tx_events h) w → w e.by.number ≡ true → GuardsIn h w e.by.number e.child.number
child_guarded h e w may world own = guarding h w e.by.number e.child.number (own_here h w e.by.number e.child.number world may.place.acts own (may.child_locked zero e.child.number refl))

-- nobody else has made the child a partition
child_free : (h : History) (e : Entry) (w : World) (g : Entry) → MayAdd h e → InvariantOf h → IsWorld (tx_events h) w → w e.by.number ≡ true → Present (catalogue_events h) w g → g.child.number ≡ e.child.number → ⊥
child_free h e w g may i world own p same = elim (split (tx_events h) w e.by.number g.by.number world p.1) [
  | inl mine ↦ may.no_partition g (present_own (tx_events h) (catalogue_events h) w e.by.number g world may.place.acts own p mine) same
  | inr other ↦ clash h w e.by.number g.by.number e.child.number i world may.place.acts.runs other.0 other.1 (child_guarded h e w may world own)
      (guarding h w g.by.number e.child.number (subst (λ z. OwnsIn h w g.by.number z) same (i.open_entries.below w g zero g.child.number world p.0 other.0 p.1 refl)))
]

-- a table that is there for the session, and that it guards, is there in each world of its transaction
there_up : (h : History) (t : ℕ) (w : World) (x : ℕ) → InvariantOf h → IsWorld (tx_events h) w → IsRunning (tx_events h) t → w t ≡ true → GuardsIn h w t x → IsThere (catalogue_events h) (view (tx_events h) t) x → IsThere (catalogue_events h) w x
there_up h t w x i world acts own guards (made, by, free) = (
  made,
  inside (tx_events h) w t world acts own (table_in (catalogue_events h) x).by.number by,
  λ u drop. elim (cases_Bool (w u)) [
    | inr out ↦ out
    | inl counts ↦ elim (split (tx_events h) w t u world counts) [
      | inl mine ↦ absurd (both_ways (view (tx_events h) t u) mine (free u drop))
      | inr other ↦ absurd (clash h w t u x i world acts.runs other.0 other.1 guards (guarding h w u x (i.open_entries.dropped w x u world drop other.0 counts)))
    ]
  ],
)

pending_view : (h : History) (e : Entry) (w : World) (g : Entry) → MayAdd h e → InvariantOf h → IsWorld (tx_events h) w → w e.by.number ≡ true → Present (catalogue_events h) w g → g.parent.number ≡ e.parent.number → IsPending (catalogue_events h) w g → IsPending (catalogue_events h) (view (tx_events h) e.by.number) g
pending_view h e w g may i world own p same (u, mark, counts) = elim (split (tx_events h) w e.by.number u world counts) [
  | inl mine ↦ (u, mark, mine)
  | inr other ↦ absurd (clash h w e.by.number u e.parent.number i world may.place.acts.runs other.0 other.1 (parent_guarded h e w may world own) (subst (λ z. GuardsIn h w u z) same (i.open_entries.marked w g u world p.0 mark other.0 counts)))
]

not_pending : (h : History) (e : Entry) (w : World) (g : Entry) → IsFresh h e → e ≡ g → IsPending (catalogue_events h) w g → ⊥
not_pending h e w g fresh new (u, mark, counts) = fresh.unmarked u (subst (λ (z : Entry). IsMark (catalogue_events h) z.id.number u) (sym new) mark)

number_new : (h : History) (e f g : Entry) → IsFresh h e → e ≡ f → IsEntry (catalogue_events h) g → f.id.number ≡ g.id.number → ⊥
number_new h e f g fresh new is same = fresh.numbered g is (sym (ap (λ (z : Entry). z.id.number) new ∙ same))

-- an older sibling and the new entry can stand together, in either order
together_old : (h : History) (e : Entry) (w : World) (g : Entry) → MayAdd h e → InvariantOf h → IsWorld (tx_events h) w → w e.by.number ≡ true → Present (catalogue_events h) w g → CanStandTogether g e
together_old h e w g may i world own p same = may.place.together g (sibling_view h e w g may i world own p same) same

together_new : (h : History) (e : Entry) (w : World) (g : Entry) → MayAdd h e → InvariantOf h → IsWorld (tx_events h) w → w e.by.number ≡ true → Present (catalogue_events h) w g → CanStandTogether e g
together_new h e w g may i world own p same =
    let turned = together_old h e w g may i world own p (sym same) in
    (overlaps_turned e.bound g.bound ∙ turned.0, siblings_turn e.bound g.bound ∙ turned.1)

no_cycle_new : (h : History) (e : Entry) (w : World) → MayAdd h e → InvariantOf h → IsWorld (tx_events h) w → (n x : ℕ) → Under (EntryAdded e ∷ catalogue_events h) w (suc n) x x → ⊥
no_cycle_new h e w may i world n x is = elim (new_way e (catalogue_events h) w (suc n) x x is) [
  | inl before ↦ (i.siblings w world).no_cycle n x before
  | inr through ↦
      let up = old_way_up h e w may i world through.0 through.1.0 x through.1.1 in
      let round = under_join (catalogue_events h) w e.child.number x through.2.0 through.1.0 e.parent.number through.2.1 up in
      not_above h e w may i world through.0 round.0 round.1
]

shallow_new : (h : History) (e : Entry) (w : World) → MayAdd h e → InvariantOf h → IsWorld (tx_events h) w → (top x : ℕ) → Under (EntryAdded e ∷ catalogue_events h) w 8 top x → ⊥
shallow_new h e w may i world top x is = elim (long_way e (catalogue_events h) w 8 top x is) [
  | inl before ↦ (i.siblings w world).shallow top x before
  | inr (own, m, k, up, low, long) ↦
      let old_up = old_way_up h e w may i world own m top up in
      may.shallow m k top x (above_view h e w may i world own m top old_up) (below_view h e w may i world own k x low) long
]

pub added_entries_are : (h : History) (e : Entry) → IsFresh h e → InvariantOf h → AreEntries (EntryAdded e ∷ catalogue_events h)
added_entries_are h e fresh i = record {
  numbered = λ f g isf isg same. elim isf [
    | inl new ↦ elim isg [ inl also ↦ sym new ∙ also | inr old ↦ absurd (number_new h e f g fresh new old same) ]
    | inr before ↦ elim isg [ inl new ↦ absurd (number_new h e g f fresh new before (sym same)) | inr old ↦ i.entries.numbered f g before old same ]
  ];
  suited = λ f isf. elim isf [
    | inl new ↦ subst (λ (z : Entry). Suits (tables_made (catalogue_events h)) z) new fresh.suits
    | inr old ↦ i.entries.suited f old
  ];
}

pub added_siblings : (h : History) (e : Entry) → IsFresh h e → MayAdd h e → InvariantOf h → (w : World) → IsWorld (tx_events h) w → Siblings (EntryAdded e ∷ catalogue_events h) w
added_siblings h e fresh may i w world =
    let s = i.siblings w world in
    let was = present_was e (catalogue_events h) w in
    let parent = λ (f : Entry) (new : e ≡ f). ap (λ (z : Entry). z.parent.number) new in
    record {
      one_parent = λ f g p q same. elim (was f p) [
        | inl new ↦ elim (was g q) [
          | inl also ↦ sym new.0 ∙ also.0
          | inr old ↦ absurd (child_free h e w g may i world new.1 old (sym (ap (λ (z : Entry). z.child.number) new.0 ∙ same)))
        ]
        | inr before ↦ elim (was g q) [
          | inl new ↦ absurd (child_free h e w f may i world new.1 before (same ∙ sym (ap (λ (z : Entry). z.child.number) new.0)))
          | inr old ↦ s.one_parent f g before old same
        ]
      ];
      together = λ f g p q apart. elim (was f p) [
        | inl new ↦ elim (was g q) [
          | inl also ↦ absurd (apart (ap (λ (z : Entry). z.id.number) (sym new.0 ∙ also.0)))
          | inr old ↦ subst (λ (z : Entry). CanStandTogether z g) new.0 (together_new h e w g may i world new.1 old)
        ]
        | inr before ↦ elim (was g q) [
          | inl new ↦ subst (λ (z : Entry). CanStandTogether f z) new.0 (together_old h e w f may i world new.1 before)
          | inr old ↦ s.together f g before old apart
        ]
      ];
      no_cycle = no_cycle_new h e w may i world;
      shallow = shallow_new h e w may i world;
      few = few_still h e w may i world;
      there = λ f p. elim (was f p) [
        | inl new ↦
            let both : IsThere (catalogue_events h) w e.parent.number × IsThere (catalogue_events h) w e.child.number = (
              there_up h e.by.number w e.parent.number i world may.place.acts new.1 (parent_guarded h e w may world new.1) may.place.there.0,
              there_up h e.by.number w e.child.number i world may.place.acts new.1 (child_guarded h e w may world new.1) may.place.there.1,
            ) in
            subst (λ (z : Entry). IsThere (catalogue_events h) w z.parent.number × IsThere (catalogue_events h) w z.child.number) new.0 both
        | inr old ↦ s.there f old
      ];
      one_pending = λ f g p q same pf pg. elim (was f p) [
        | inl new ↦ absurd (not_pending h e w f fresh new.0 pf)
        | inr before ↦ elim (was g q) [
          | inl new ↦ absurd (not_pending h e w g fresh new.0 pg)
          | inr old ↦ s.one_pending f g before old same pf pg
        ]
      ];
      no_default = λ f d p q same pf. elim (was f p) [
        | inl new ↦ absurd (not_pending h e w f fresh new.0 pf)
        | inr before ↦ elim (was d q) [
          | inl new ↦
              let parents = same ∙ sym (parent d new.0) in
              subst (λ (z : Entry). is_default z.bound ≡ false) new.0 (may.place.no_pending f (sibling_view h e w f may i world new.1 before parents) parents (pending_view h e w f may i world new.1 before parents pf))
          | inr old ↦ s.no_default f d before old same pf
        ]
      ];
      named = s.named;
    }
