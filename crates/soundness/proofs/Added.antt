-- An entry that is added: in each world of its transaction the tables below it and above it are those that the session has.
use Rattle.std.proofs.Common.{◌≡◌, ◌≢◌, ℕ, zero, suc, ◌+◌, arith, true, ◌∷◌, ◌⊎◌, inl, inr, refl, ap, sym, subst, ◌∙◌}
use Rattle.history.specs.declared.catalogue.Entry.{Entry}
use Rattle.bound_forms.specs.Accepts.{is_default}
use Rattle.history.specs.Catalogue.{CatalogueEvents, EntryAdded, tables_made, IsEntry, IsEntryEnd, IsMark}
use Rattle.history.specs.Places.{Suits}
use Rattle.history.specs.History.{History, tx_events, catalogue_events}
use Rattle.soundness.specs.Worlds.{World, IsWorld, Present, Under, view}
use Rattle.soundness.specs.Parts.{OwnsIn, GuardsIn, InvariantOf}
use Rattle.soundness.proofs.Worlds.{split, present_own}
use Rattle.soundness.proofs.Held.{clash, guarding, own_here, guard_here}
use Rattle.soundness.specs.Legal.{MayAdd}
use Rattle.soundness.proofs.Under.{under_below, under_above}

-- the number of the entry is a new one, and it suits its tables
pub record IsFresh (h : History) (e : Entry) : Type 0 where
  pub numbered : (g : Entry) → IsEntry (catalogue_events h) g → g.id.number ≢ e.id.number
  pub unended : (u : ℕ) → IsEntryEnd (catalogue_events h) e.id.number u → ⊥
  pub unmarked : (u : ℕ) → IsMark (catalogue_events h) e.id.number u → ⊥
  pub suits : Suits (tables_made (catalogue_events h)) e

-- what is present after the event is the new entry, in a world of its transaction, or was present before
pub present_was : (e : Entry) (cats : CatalogueEvents) (w : World) (g : Entry) → Present (EntryAdded e ∷ cats) w g → ((e ≡ g) × (w e.by.number ≡ true)) ⊎ Present cats w g
present_was e cats w g (inl new, counts, ends) = inl (new, ap (λ (z : Entry). w z.by.number) new ∙ counts)
present_was e cats w g (inr old, counts, ends) = inr (old, counts, ends)

-- a way after the event is one from before it, or leads through the new entry, which it leaves for good at last;
-- its length is that of its two halves and one step
pub long_way : (e : Entry) (cats : CatalogueEvents) (w : World) (n top x : ℕ) → Under (EntryAdded e ∷ cats) w n top x
    → Under cats w n top x
    ⊎ ((w e.by.number ≡ true) × (m : ℕ) × (k : ℕ) × Under (EntryAdded e ∷ cats) w m top e.parent.number × Under cats w k e.child.number x × (m + k + 1 ≡ n))
long_way e cats w zero top x is = inl is
long_way e cats w (suc n) top x (g, p, child, rest) = elim (present_was e cats w g p) [
  | inl new ↦ inr (
    new.1,
    n,
    zero,
    subst (λ (z : Entry). Under (EntryAdded e ∷ cats) w n top z.parent.number) (sym new.0) rest,
    ap (λ (z : Entry). z.child.number) new.0 ∙ child,
    omega arith,
  )
  | inr old ↦ elim (long_way e cats w n top g.parent.number rest) [
    | inl before ↦ inl (g, old, child, before)
    | inr (own, m, k, up, low, long) ↦ inr (own, m, suc k, up, (g, old, child, low), omega (arith, long))
  ]
]

pub new_way : (e : Entry) (cats : CatalogueEvents) (w : World) (n top x : ℕ) → Under (EntryAdded e ∷ cats) w n top x
    → Under cats w n top x
    ⊎ ((w e.by.number ≡ true) × ((m : ℕ) × Under (EntryAdded e ∷ cats) w m top e.parent.number) × ((k : ℕ) × Under cats w k e.child.number x))
new_way e cats w n top x is = elim (long_way e cats w n top x is) [
  | inl old ↦ inl old
  | inr (own, m, k, up, low, long) ↦ inr (own, (m, up), (k, low))
]

pub parent_guarded : (h : History) (e : Entry) (w : World) → MayAdd h e → IsWorld (tx_events h) w → w e.by.number ≡ true → GuardsIn h w e.by.number e.parent.number
parent_guarded h e w may world own = guard_here h w e.by.number e.parent.number world may.place.acts own may.place.parent_locked

-- below the new entry: the session owns all, so nobody else changed anything there
pub below_view : (h : History) (e : Entry) (w : World) → MayAdd h e → InvariantOf h → IsWorld (tx_events h) w → w e.by.number ≡ true
    → (n x : ℕ) → Under (catalogue_events h) w n e.child.number x → Under (catalogue_events h) (view (tx_events h) e.by.number) n e.child.number x
below_view h e w may i world own n x is = under_below (catalogue_events h) (catalogue_events h) w (view (tx_events h) e.by.number) e.child.number
    (λ g m p up. elim (split (tx_events h) w e.by.number g.by.number world p.1) [
      | inl mine ↦ present_own (tx_events h) (catalogue_events h) w e.by.number g world may.place.acts own p mine
      | inr other ↦ absurd (clash h w e.by.number g.by.number g.parent.number i world may.place.acts.runs other.0 other.1 (guarding h w e.by.number g.parent.number (own_here h w e.by.number g.parent.number world may.place.acts own (may.child_locked m g.parent.number up))) (i.open_entries.added w g world p.0 other.0 p.1))
    ]) n x is

pub below_owned : (h : History) (e : Entry) (w : World) → MayAdd h e → InvariantOf h → IsWorld (tx_events h) w → w e.by.number ≡ true
    → (n x : ℕ) → Under (catalogue_events h) w n e.child.number x → OwnsIn h w e.by.number x
below_owned h e w may i world own n x is = own_here h w e.by.number x world may.place.acts own (may.child_locked n x (below_view h e w may i world own n x is))

-- a sibling
pub sibling_view : (h : History) (e : Entry) (w : World) (g : Entry) → MayAdd h e → InvariantOf h → IsWorld (tx_events h) w → w e.by.number ≡ true
    → Present (catalogue_events h) w g → g.parent.number ≡ e.parent.number → Present (catalogue_events h) (view (tx_events h) e.by.number) g
sibling_view h e w g may i world own p same = elim (split (tx_events h) w e.by.number g.by.number world p.1) [
  | inl mine ↦ present_own (tx_events h) (catalogue_events h) w e.by.number g world may.place.acts own p mine
  | inr other ↦ absurd (clash h w e.by.number g.by.number e.parent.number i world may.place.acts.runs other.0 other.1 (parent_guarded h e w may world own) (subst (λ z. GuardsIn h w g.by.number z) same (i.open_entries.added w g world p.0 other.0 p.1)))
]

-- below a default sibling
pub default_view : (h : History) (e : Entry) (w : World) (d : Entry) → MayAdd h e → InvariantOf h → IsWorld (tx_events h) w → w e.by.number ≡ true
    → Present (catalogue_events h) w d → d.parent.number ≡ e.parent.number → is_default d.bound ≡ true → (n x : ℕ) → Under (catalogue_events h) w n d.child.number x → Under (catalogue_events h) (view (tx_events h) e.by.number) n d.child.number x
default_view h e w d may i world own q same by_default n x is =
    let mine_d = sibling_view h e w d may i world own q same in
    under_below (catalogue_events h) (catalogue_events h) w (view (tx_events h) e.by.number) d.child.number
    (λ g m p up. elim (split (tx_events h) w e.by.number g.by.number world p.1) [
      | inl mine ↦ present_own (tx_events h) (catalogue_events h) w e.by.number g world may.place.acts own p mine
      | inr other ↦ absurd (clash h w e.by.number g.by.number g.parent.number i world may.place.acts.runs other.0 other.1 (guarding h w e.by.number g.parent.number (own_here h w e.by.number g.parent.number world may.place.acts own (may.place.default_locked d m g.parent.number mine_d same by_default up))) (i.open_entries.added w g world p.0 other.0 p.1))
    ]) n x is

pub default_owned : (h : History) (e : Entry) (w : World) (d : Entry) → MayAdd h e → InvariantOf h → IsWorld (tx_events h) w → w e.by.number ≡ true
    → Present (catalogue_events h) w d → d.parent.number ≡ e.parent.number → is_default d.bound ≡ true → (n x : ℕ) → Under (catalogue_events h) w n d.child.number x → OwnsIn h w e.by.number x
default_owned h e w d may i world own q same by_default n x is =
    own_here h w e.by.number x world may.place.acts own (may.place.default_locked d n x (sibling_view h e w d may i world own q same) same by_default (default_view h e w d may i world own q same by_default n x is))

-- above the new entry: whoever added an entry there would own its parent
pub above_mine : (h : History) (e : Entry) (w : World) (g : Entry) (m : ℕ) → MayAdd h e → InvariantOf h → IsWorld (tx_events h) w → w e.by.number ≡ true
    → Present (catalogue_events h) w g → Under (catalogue_events h) w m g.child.number e.parent.number → Present (catalogue_events h) (view (tx_events h) e.by.number) g
above_mine h e w g m may i world own p low = elim (split (tx_events h) w e.by.number g.by.number world p.1) [
  | inl mine ↦ present_own (tx_events h) (catalogue_events h) w e.by.number g world may.place.acts own p mine
  | inr other ↦ absurd (clash h w e.by.number g.by.number e.parent.number i world may.place.acts.runs other.0 other.1 (parent_guarded h e w may world own) (guarding h w g.by.number e.parent.number (i.open_entries.below w g m e.parent.number world p.0 other.0 p.1 low)))
]

pub above_view : (h : History) (e : Entry) (w : World) → MayAdd h e → InvariantOf h → IsWorld (tx_events h) w → w e.by.number ≡ true
    → (n top : ℕ) → Under (catalogue_events h) w n top e.parent.number → Under (catalogue_events h) (view (tx_events h) e.by.number) n top e.parent.number
above_view h e w may i world own n top is = under_above (catalogue_events h) (catalogue_events h) w (view (tx_events h) e.by.number) e.parent.number
    (λ g m p low. above_mine h e w g m may i world own p low) n zero top e.parent.number refl is

-- a sibling of a default above it
pub above_sibling : (h : History) (e : Entry) (w : World) (d f : Entry) (m : ℕ) → MayAdd h e → InvariantOf h → IsWorld (tx_events h) w → w e.by.number ≡ true
    → Present (catalogue_events h) w d → is_default d.bound ≡ true → Under (catalogue_events h) w m d.child.number e.parent.number → Present (catalogue_events h) w f → f.parent.number ≡ d.parent.number → Present (catalogue_events h) (view (tx_events h) e.by.number) f
above_sibling h e w d f m may i world own q by_default low p same = elim (split (tx_events h) w e.by.number f.by.number world p.1) [
  | inl mine ↦ present_own (tx_events h) (catalogue_events h) w e.by.number f world may.place.acts own p mine
  | inr other ↦ absurd (clash h w e.by.number f.by.number e.parent.number i world may.place.acts.runs other.0 other.1 (parent_guarded h e w may world own) (guarding h w f.by.number e.parent.number (i.open_entries.beside w f d m e.parent.number world p.0 other.0 p.1 q (sym same) by_default low)))
]

-- the parent is not below the child, in any world of the transaction
pub not_above : (h : History) (e : Entry) (w : World) → MayAdd h e → InvariantOf h → IsWorld (tx_events h) w → w e.by.number ≡ true → (n : ℕ) → Under (catalogue_events h) w n e.child.number e.parent.number → ⊥
not_above h e w may i world own n is = may.not_above n (below_view h e w may i world own n e.parent.number is)

-- so a way down to the parent is one from before the event
pub old_way_up : (h : History) (e : Entry) (w : World) → MayAdd h e → InvariantOf h → IsWorld (tx_events h) w → w e.by.number ≡ true
    → (n top : ℕ) → Under (EntryAdded e ∷ catalogue_events h) w n top e.parent.number → Under (catalogue_events h) w n top e.parent.number
old_way_up h e w may i world own n top is = elim (new_way e (catalogue_events h) w n top e.parent.number is) [
  | inl before ↦ before
  | inr through ↦ absurd (not_above h e w may i world own through.2.0 through.2.1)
]

-- and a way down from the child
pub old_way_down : (h : History) (e : Entry) (w : World) (n x : ℕ) → Under (EntryAdded e ∷ catalogue_events h) w n e.child.number x → (k : ℕ) × Under (catalogue_events h) w k e.child.number x
old_way_down h e w n x is = elim (new_way e (catalogue_events h) w n e.child.number x is) [
  | inl before ↦ (n, before)
  | inr through ↦ through.2
]
