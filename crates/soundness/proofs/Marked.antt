-- An entry that is marked pending stays present.
use Rattle.std.proofs.Common.{◌≡◌, ℕ, suc, true, ◌∷◌, ◌⊎◌, inl, inr, ap, sym, subst, ◌∙◌}
use Rattle.history.specs.declared.catalogue.Entry.{Entry}
use Rattle.history.specs.declared.catalogue.Stamp.{Stamp}
use Rattle.history.specs.Catalogue.{CatalogueEvents, EntryMarked, IsEntry}
use Rattle.history.specs.History.{History, tx_events, snapshot_events, row_events, catalogue_events, lock_events}
use Rattle.soundness.specs.Worlds.{World, IsWorld, Present, IsPending, Under, key_at, view}
use Rattle.soundness.specs.Parts.{GuardsIn, Invariant, InvariantOf}
use Rattle.soundness.proofs.Worlds.{split, present_own}
use Rattle.soundness.proofs.Held.{clash, guard_here}
use Rattle.soundness.proofs.Under.{under_map, accepts_map}
use Rattle.soundness.proofs.Counted.{fewer}
use Rattle.soundness.specs.Legal.{MayMark}

-- no sibling of an entry that is marked is pending or the default, in any world of the transaction
sibling_mine : (h : History) (k : ℕ) (s : Stamp) (w : World) (e g : Entry) → MayMark h k s → InvariantOf h → IsWorld (tx_events h) w → w s.by.number ≡ true → IsEntry (catalogue_events h) e → e.id.number ≡ k → Present (catalogue_events h) w g → g.parent.number ≡ e.parent.number → Present (catalogue_events h) (view (tx_events h) s.by.number) g
sibling_mine h k s w e g may i world own is id p same = elim (split (tx_events h) w s.by.number g.by.number world p.1) [
  | inl mine ↦ present_own (tx_events h) (catalogue_events h) w s.by.number g world may.acts own p mine
  | inr other ↦ absurd (clash h w s.by.number g.by.number e.parent.number i world may.acts.runs other.0 other.1 (guard_here h w s.by.number e.parent.number world may.acts own (may.locked e is id)) (subst (λ z. GuardsIn h w g.by.number z) same (i.open_entries.added w g world p.0 other.0 p.1)))
]

pending_mine : (h : History) (k : ℕ) (s : Stamp) (w : World) (e g : Entry) → MayMark h k s → InvariantOf h → IsWorld (tx_events h) w → w s.by.number ≡ true → IsEntry (catalogue_events h) e → e.id.number ≡ k → Present (catalogue_events h) w g → g.parent.number ≡ e.parent.number → IsPending (catalogue_events h) w g → IsPending (catalogue_events h) (view (tx_events h) s.by.number) g
pending_mine h k s w e g may i world own is id p same (u, mark, counts) = elim (split (tx_events h) w s.by.number u world counts) [
  | inl mine ↦ (u, mark, mine)
  | inr other ↦ absurd (clash h w s.by.number u e.parent.number i world may.acts.runs other.0 other.1 (guard_here h w s.by.number e.parent.number world may.acts own (may.locked e is id)) (subst (λ z. GuardsIn h w u z) same (i.open_entries.marked w g u world p.0 mark other.0 counts)))
]

not_pending : (h : History) (k : ℕ) (s : Stamp) (w : World) (e g : Entry) → MayMark h k s → InvariantOf h → IsWorld (tx_events h) w → w s.by.number ≡ true → IsEntry (catalogue_events h) e → e.id.number ≡ k → Present (catalogue_events h) w g → g.parent.number ≡ e.parent.number → IsPending (catalogue_events h) w g → ⊥
not_pending h k s w e g may i world own is id p same pending =
    (may.none_beside e g is id (sibling_mine h k s w e g may i world own is id p same) same).0 (pending_mine h k s w e g may i world own is id p same pending)

-- the mark is new, and its transaction is in the world, or it is an older one
pending_was : (k : ℕ) (s : Stamp) (cats : CatalogueEvents) (w : World) (e : Entry) → IsPending (EntryMarked k s ∷ cats) w e → ((e.id.number ≡ k) × (w s.by.number ≡ true)) ⊎ IsPending cats w e
pending_was k s cats w e (u, inl new, counts) = inl (sym new.0, ap w new.1 ∙ counts)
pending_was k s cats w e (u, inr old, counts) = inr (u, old, counts)

pub marked_keeps : (h : History) (k : ℕ) (s : Stamp) → MayMark h k s → InvariantOf h → Invariant (tx_events h) (snapshot_events h) (row_events h) (EntryMarked k s ∷ catalogue_events h) (lock_events h)
marked_keeps h k s may i =
    let under = λ (w : World) (n top y : ℕ) (is : Under (EntryMarked k s ∷ catalogue_events h) w n top y). under_map (EntryMarked k s ∷ catalogue_events h) (catalogue_events h) w w (λ e p. p) n top y is in
    record {
      begun = record { versions = i.begun.versions; snapshots = i.begun.snapshots };
      locks_apart = record { apart = i.locks_apart.apart; known = i.locks_apart.known; awaited = i.locks_apart.awaited };
      open_versions = record { born = i.open_versions.born; ended = i.open_versions.ended; in_order = i.open_versions.in_order };
      open_entries = record {
        added = i.open_entries.added;
        below = λ w e n y world is runs own low. i.open_entries.below w e n y world is runs own (under w n e.child.number y low);
        beside = λ w e d n y world is runs own p same by_default low. i.open_entries.beside w e d n y world is runs own p same by_default (under w n d.child.number y low);
        ended = i.open_entries.ended;
        marked = λ w e u world is mark runs own. elim mark [
          | inl new ↦ subst (λ z. GuardsIn h w z e.parent.number) new.1 (guard_here h w s.by.number e.parent.number world may.acts (subst (λ z. w z ≡ true) (sym new.1) own) (may.locked e is (sym new.0)))
          | inr old ↦ i.open_entries.marked w e u world is old runs own
        ];
        dropped = i.open_entries.dropped;
      };
      tables = record { one_home = i.tables.one_home };
      entries = record { numbered = i.entries.numbered; suited = i.entries.suited };
      siblings = λ w world. let b = i.siblings w world in record {
        one_parent = b.one_parent;
        together = b.together;
        no_cycle = λ n y is. b.no_cycle n y (under w (suc n) y y is);
        shallow = λ top y is. b.shallow top y (under w 8 top y is);
        few = λ y es are. b.few y es (fewer (EntryMarked k s ∷ catalogue_events h) (catalogue_events h) w y es (λ e p. p) are);
        there = b.there;
        one_pending = λ e f p q same pe pf. elim (pending_was k s (catalogue_events h) w e pe) [
          | inl new ↦ elim (pending_was k s (catalogue_events h) w f pf) [
            | inl also ↦ i.entries.numbered e f p.0 q.0 (new.0 ∙ sym also.0)
            | inr old ↦ absurd (not_pending h k s w e f may i world new.1 p.0 new.0 q (sym same) old)
          ]
          | inr before ↦ elim (pending_was k s (catalogue_events h) w f pf) [
            | inl new ↦ absurd (not_pending h k s w f e may i world new.1 q.0 new.0 p same before)
            | inr old ↦ b.one_pending e f p q same before old
          ]
        ];
        no_default = λ e d p q same pe. elim (pending_was k s (catalogue_events h) w e pe) [
          | inl new ↦ (may.none_beside e d p.0 new.0 (sibling_mine h k s w e d may i world new.1 p.0 new.0 q (sym same)) (sym same)).1
          | inr old ↦ b.no_default e d p q same old
        ];
        named = b.named;
      };
      fit = λ w v world is shows y at e n p low. accepts_map (EntryMarked k s ∷ catalogue_events h) (catalogue_events h) w w e.parent.number e.bound (key_at (catalogue_events h) e.parent.number v.row) (λ d f q same. inl q) (i.fit w v world is shows y at e n p (under w n e.child.number y low));
    }
