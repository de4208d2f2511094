-- Open entries after an entry was added.
use Rattle.std.proofs.Common.{◌≡◌, ℕ, true, ◌∷◌, inl, inr, ap, sym, subst, ◌∙◌}
use Rattle.std.proofs.lemmas.Bool.{cases_Bool}
use Rattle.history.specs.declared.transaction.Fate.TheVariants.{Running}
use Rattle.history.specs.declared.catalogue.Entry.{Entry}
use Rattle.bound_forms.specs.Accepts.{is_default}
use Rattle.history.specs.Transactions.{fate}
use Rattle.history.specs.Catalogue.{EntryAdded, IsEntry, IsEntryEnd, IsMark}
use Rattle.history.specs.History.{History, tx_events, catalogue_events, lock_events}
use Rattle.soundness.specs.Worlds.{World, same_tx, IsWorld, Present, Under}
use Rattle.soundness.specs.Parts.{OpenEntries, OwnsIn, GuardsIn, InvariantOf}
use Rattle.soundness.proofs.Worlds.{same_sym, same_trans}
use Rattle.soundness.proofs.Held.{clash, guarding}
use Rattle.soundness.specs.Legal.{MayAdd}
use Rattle.soundness.proofs.Added.{IsFresh, parent_guarded, present_was, new_way, below_owned, default_owned, old_way_up}

owns_same : (h : History) (w : World) (t u x : ℕ) → same_tx (tx_events h) t u ≡ true → OwnsIn h w t x → OwnsIn h w u x
owns_same h w t u x same (q, s, c, o) = (q, same_trans (tx_events h) u t q (same_sym (tx_events h) t u same) s, c, o)

-- what a running transaction owns below a table, it owns after the event
owned_still : (h : History) (e : Entry) (w : World) (u top : ℕ) → MayAdd h e → InvariantOf h → IsWorld (tx_events h) w → fate (tx_events h) u ≡ Running
    → ((n x : ℕ) → Under (catalogue_events h) w n top x → OwnsIn h w u x)
    → (n x : ℕ) → Under (EntryAdded e ∷ catalogue_events h) w n top x → OwnsIn h w u x
owned_still h e w u top may i world runs owned n x is = elim (new_way e (catalogue_events h) w n top x is) [
  | inl before ↦ owned n x before
  | inr through ↦
      let up = old_way_up h e w may i world through.0 through.1.0 top through.1.1 in
      elim (cases_Bool (same_tx (tx_events h) e.by.number u)) [
        | inl y ↦ owns_same h w e.by.number u x y (below_owned h e w may i world through.0 through.2.0 x through.2.1)
        | inr n ↦ absurd (clash h w e.by.number u e.parent.number i world may.place.acts.runs runs n (parent_guarded h e w may world through.0) (guarding h w u e.parent.number (owned through.1.0 e.parent.number up)))
      ]
]

child_owned : (h : History) (e : Entry) (w : World) → MayAdd h e → InvariantOf h → IsWorld (tx_events h) w → w e.by.number ≡ true → (n x : ℕ) → Under (EntryAdded e ∷ catalogue_events h) w n e.child.number x → OwnsIn h w e.by.number x
child_owned h e w may i world own n x is = owned_still h e w e.by.number e.child.number may i world may.place.acts.runs (below_owned h e w may i world own) n x is

beside_new : (h : History) (e : Entry) (w : World) (d : Entry) → MayAdd h e → InvariantOf h → IsWorld (tx_events h) w → w e.by.number ≡ true
    → Present (EntryAdded e ∷ catalogue_events h) w d → d.parent.number ≡ e.parent.number → is_default d.bound ≡ true → (n x : ℕ) → Under (EntryAdded e ∷ catalogue_events h) w n d.child.number x → OwnsIn h w e.by.number x
beside_new h e w d may i world own q same by_default n x is = elim (present_was e (catalogue_events h) w d q) [
  | inl new ↦ child_owned h e w may i world own n x (subst (λ (z : Entry). Under (EntryAdded e ∷ catalogue_events h) w n z.child.number x) (sym new.0) is)
  | inr old ↦ owned_still h e w e.by.number d.child.number may i world may.place.acts.runs (default_owned h e w d may i world own old same by_default) n x is
]

beside_old : (h : History) (e : Entry) (w : World) (g d : Entry) → MayAdd h e → InvariantOf h → IsWorld (tx_events h) w → IsEntry (catalogue_events h) g → fate (tx_events h) g.by.number ≡ Running → w g.by.number ≡ true
    → Present (EntryAdded e ∷ catalogue_events h) w d → d.parent.number ≡ g.parent.number → is_default d.bound ≡ true → (n x : ℕ) → Under (EntryAdded e ∷ catalogue_events h) w n d.child.number x → OwnsIn h w g.by.number x
beside_old h e w g d may i world is runs counts q same by_default n x low = elim (present_was e (catalogue_events h) w d q) [
  | inl new ↦ elim (cases_Bool (same_tx (tx_events h) e.by.number g.by.number)) [
    | inl y ↦ owns_same h w e.by.number g.by.number x y (child_owned h e w may i world new.1 n x (subst (λ (z : Entry). Under (EntryAdded e ∷ catalogue_events h) w n z.child.number x) (sym new.0) low))
    | inr y ↦
        let parents : g.parent.number ≡ e.parent.number = sym (ap (λ (z : Entry). z.parent.number) new.0 ∙ same) in
        absurd (clash h w e.by.number g.by.number e.parent.number i world may.place.acts.runs runs y (parent_guarded h e w may world new.1) (subst (λ z. GuardsIn h w g.by.number z) parents (i.open_entries.added w g world is runs counts)))
  ]
  | inr old ↦ owned_still h e w g.by.number d.child.number may i world runs (λ m y way. i.open_entries.beside w g d m y world is runs counts old same by_default way) n x low
]

pub added_entries : (h : History) (e : Entry) → IsFresh h e → MayAdd h e → InvariantOf h → OpenEntries (tx_events h) (EntryAdded e ∷ catalogue_events h) (lock_events h)
added_entries h e fresh may i = record {
  added = λ w g world is runs own. elim is [
    | inl new ↦ subst (λ (z : Entry). GuardsIn h w z.by.number z.parent.number) new (parent_guarded h e w may world (ap (λ (z : Entry). w z.by.number) new ∙ own))
    | inr old ↦ i.open_entries.added w g world old runs own
  ];
  below = λ w g n x world is runs counts low. elim is [
    | inl new ↦ subst (λ (z : Entry). OwnsIn h w z.by.number x) new
        (child_owned h e w may i world (ap (λ (z : Entry). w z.by.number) new ∙ counts) n x (subst (λ (z : Entry). Under (EntryAdded e ∷ catalogue_events h) w n z.child.number x) (sym new) low))
    | inr old ↦ owned_still h e w g.by.number g.child.number may i world runs (λ m y way. i.open_entries.below w g m y world old runs counts way) n x low
  ];
  beside = λ w g d n x world is runs counts q same by_default low. elim is [
    | inl new ↦ subst (λ (z : Entry). OwnsIn h w z.by.number x) new
        (beside_new h e w d may i world (ap (λ (z : Entry). w z.by.number) new ∙ counts) q (same ∙ sym (ap (λ (z : Entry). z.parent.number) new)) by_default n x low)
    | inr old ↦ beside_old h e w g d may i world old runs counts q same by_default n x low
  ];
  ended = λ w g u world is end runs own. elim is [
    | inl new ↦ absurd (fresh.unended u (subst (λ (z : Entry). IsEntryEnd (catalogue_events h) z.id.number u) (sym new) end))
    | inr old ↦ i.open_entries.ended w g u world old end runs own
  ];
  marked = λ w g u world is mark runs own. elim is [
    | inl new ↦ absurd (fresh.unmarked u (subst (λ (z : Entry). IsMark (catalogue_events h) z.id.number u) (sym new) mark))
    | inr old ↦ i.open_entries.marked w g u world old mark runs own
  ];
  dropped = i.open_entries.dropped;
}
