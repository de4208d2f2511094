-- A CHECK that is kept changes no table and no entry.
use Rattle.std.proofs.Common.{ℕ, suc, ◌∷◌, inl}
use Rattle.history.specs.declared.catalogue.Check.{Check}
use Rattle.history.specs.Catalogue.{CheckKept}
use Rattle.history.specs.History.{History, tx_events, snapshot_events, row_events, catalogue_events, lock_events}
use Rattle.soundness.specs.Worlds.{World, Under, key_at}
use Rattle.soundness.specs.Parts.{Invariant, InvariantOf}
use Rattle.soundness.proofs.Under.{under_map, accepts_map}
use Rattle.soundness.proofs.Counted.{fewer}

pub check_keeps : (h : History) (c : Check) → InvariantOf h → Invariant (tx_events h) (snapshot_events h) (row_events h) (CheckKept c ∷ catalogue_events h) (lock_events h)
check_keeps h c i =
    let under = λ (w : World) (n top y : ℕ) (is : Under (CheckKept c ∷ catalogue_events h) w n top y). under_map (CheckKept c ∷ catalogue_events h) (catalogue_events h) w w (λ e p. p) n top y is in
    record {
      begun = record { versions = i.begun.versions; snapshots = i.begun.snapshots };
      locks_apart = record { apart = i.locks_apart.apart; known = i.locks_apart.known; awaited = i.locks_apart.awaited };
      open_versions = record { born = i.open_versions.born; ended = i.open_versions.ended; in_order = i.open_versions.in_order };
      open_entries = record {
        added = i.open_entries.added;
        below = λ w e n y world is runs own low. i.open_entries.below w e n y world is runs own (under w n e.child.number y low);
        beside = λ w e d n y world is runs own p same by_default low. i.open_entries.beside w e d n y world is runs own p same by_default (under w n d.child.number y low);
        ended = i.open_entries.ended;
        marked = i.open_entries.marked;
        dropped = i.open_entries.dropped;
      };
      tables = record { one_home = i.tables.one_home };
      entries = record { numbered = i.entries.numbered; suited = i.entries.suited };
      siblings = λ w world. let b = i.siblings w world in record {
        one_parent = b.one_parent;
        together = b.together;
        no_cycle = λ n y is. b.no_cycle n y (under w (suc n) y y is);
        shallow = λ top y is. b.shallow top y (under w 8 top y is);
        few = λ y es are. b.few y es (fewer (CheckKept c ∷ catalogue_events h) (catalogue_events h) w y es (λ e p. p) are);
        there = b.there;
        one_pending = b.one_pending;
        no_default = b.no_default;
        named = b.named;
      };
      fit = λ w v world is shows y at e n p low. accepts_map (CheckKept c ∷ catalogue_events h) (catalogue_events h) w w e.parent.number e.bound (key_at (catalogue_events h) e.parent.number v.row) (λ d f q same. inl q) (i.fit w v world is shows y at e n p (under w n e.child.number y low));
    }
