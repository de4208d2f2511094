-- An entry that is ended leaves fewer entries present.
use Rattle.std.proofs.Common.{◌≡◌, ℕ, suc, true, ◌∷◌, inl, inr, sym, subst}
use Rattle.history.specs.declared.catalogue.Entry.{Entry}
use Rattle.history.specs.declared.catalogue.Stamp.{Stamp}
use Rattle.history.specs.Catalogue.{CatalogueEvents, EntryEnded}
use Rattle.history.specs.History.{History, tx_events, snapshot_events, row_events, catalogue_events, lock_events}
use Rattle.soundness.specs.Worlds.{World, Present, Under, key_at}
use Rattle.soundness.specs.Parts.{GuardsIn, Invariant, InvariantOf}
use Rattle.soundness.proofs.Held.{guard_here}
use Rattle.soundness.proofs.Under.{under_map, accepts_map}
use Rattle.soundness.proofs.Counted.{fewer}
use Rattle.soundness.specs.Legal.{MayEndEntry}

pub was_present : (k : ℕ) (s : Stamp) (cats : CatalogueEvents) (w : World) (e : Entry) → Present (EntryEnded k s ∷ cats) w e → Present cats w e
was_present k s cats w e p = (p.0, p.1, λ u is. p.2 u (inr is))

pub ended_keeps : (h : History) (k : ℕ) (s : Stamp) → MayEndEntry h k s → InvariantOf h → Invariant (tx_events h) (snapshot_events h) (row_events h) (EntryEnded k s ∷ catalogue_events h) (lock_events h)
ended_keeps h k s may i =
    let was = was_present k s (catalogue_events h) in
    let under = λ (w : World) (n top y : ℕ) (is : Under (EntryEnded k s ∷ catalogue_events h) w n top y). under_map (EntryEnded k s ∷ catalogue_events h) (catalogue_events h) w w (was w) n top y is in
    record {
      begun = record { versions = i.begun.versions; snapshots = i.begun.snapshots };
      locks_apart = record { apart = i.locks_apart.apart; known = i.locks_apart.known; awaited = i.locks_apart.awaited };
      open_versions = record { born = i.open_versions.born; ended = i.open_versions.ended; in_order = i.open_versions.in_order };
      open_entries = record {
        added = i.open_entries.added;
        below = λ w e n y world is runs own low. i.open_entries.below w e n y world is runs own (under w n e.child.number y low);
        beside = λ w e d n y world is runs own p same by_default low. i.open_entries.beside w e d n y world is runs own (was w d p) same by_default (under w n d.child.number y low);
        ended = λ w e u world is end runs own. elim end [
          | inl new ↦ subst (λ z. GuardsIn h w z e.parent.number) new.1 (guard_here h w s.by.number e.parent.number world may.acts (subst (λ z. w z ≡ true) (sym new.1) own) (may.locked e is (sym new.0)))
          | inr old ↦ i.open_entries.ended w e u world is old runs own
        ];
        marked = i.open_entries.marked;
        dropped = i.open_entries.dropped;
      };
      tables = record { one_home = i.tables.one_home };
      entries = record { numbered = i.entries.numbered; suited = i.entries.suited };
      siblings = λ w world. let b = i.siblings w world in record {
        one_parent = λ e f p q. b.one_parent e f (was w e p) (was w f q);
        together = λ e f p q. b.together e f (was w e p) (was w f q);
        no_cycle = λ n y is. b.no_cycle n y (under w (suc n) y y is);
        shallow = λ top y is. b.shallow top y (under w 8 top y is);
        few = λ y es are. b.few y es (fewer (EntryEnded k s ∷ catalogue_events h) (catalogue_events h) w y es (was w) are);
        there = λ e p. b.there e (was w e p);
        one_pending = λ e f p q. b.one_pending e f (was w e p) (was w f q);
        no_default = λ e d p q. b.no_default e d (was w e p) (was w d q);
        named = b.named;
      };
      fit = λ w v world is shows y at e n p low. accepts_map (EntryEnded k s ∷ catalogue_events h) (catalogue_events h) w w e.parent.number e.bound (key_at (catalogue_events h) e.parent.number v.row) (λ d f q same. inl (was w f q)) (i.fit w v world is shows y at e n (was w e p) (under w n e.child.number y low));
    }
