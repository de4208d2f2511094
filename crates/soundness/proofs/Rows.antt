-- A version that is born is fit in each world of its transaction; ends take versions away.
use Rattle.std.proofs.Common.{◌≡◌, ◌<◌, ℕ, zero, true, ◌∷◌, inl, inr, refl, sym, subst, List}
use Rattle.pg_values.specs.declared.value.Value.{Value}
use Rattle.bound_forms.specs.Accepts.{is_default}
use Rattle.history.specs.declared.version.Version.{Version}
use Rattle.history.specs.declared.version.End.{End}
use Rattle.history.specs.declared.catalogue.Entry.{Entry}
use Rattle.history.specs.Transactions.{TxEvents, next_tx, IsRunning}
use Rattle.history.specs.Snapshots.{SnapshotEvents}
use Rattle.history.specs.Rows.{RowEvents, LeafAdded, RowBorn, RowEnded}
use Rattle.history.specs.History.{History, tx_events, snapshot_events, row_events, catalogue_events, lock_events}
use Rattle.soundness.specs.Versions.{IsVersion, IsEnd}
use Rattle.soundness.specs.Worlds.{World, IsWorld, HasLeaf, Present, Under, AcceptAbove, key_at, view}
use Rattle.soundness.specs.Shown.{MayShow}
use Rattle.soundness.specs.Legal.{MayBear, MayEndRow}
use Rattle.soundness.specs.Parts.{WritesIn, IsFit, Invariant, InvariantOf}
use Rattle.soundness.proofs.Worlds.{split, inside, present_own, other_sym}
use Rattle.soundness.proofs.Held.{clash_write, write_here}
use Rattle.soundness.proofs.Under.{under_above, accepts_map}

-- above a leaf that a transaction writes, each entry of a world of it is present for it
pub above_written : (h : History) (w : World) (t leaf : ℕ) → InvariantOf h → IsWorld (tx_events h) w → IsRunning (tx_events h) t → w t ≡ true → WritesIn h w t leaf
    → (g : Entry) (m : ℕ) → Present (catalogue_events h) w g → Under (catalogue_events h) w m g.child.number leaf → Present (catalogue_events h) (view (tx_events h) t) g
above_written h w t leaf i world acts own writes g m p low = elim (split (tx_events h) w t g.by.number world p.1) [
  | inl mine ↦ present_own (tx_events h) (catalogue_events h) w t g world acts own p mine
  | inr other ↦ absurd (clash_write h w g.by.number t leaf i world other.0 acts.runs (other_sym (tx_events h) t g.by.number other.1) (i.open_entries.below w g m leaf world p.0 other.0 p.1 low) writes)
]

-- and so is each sibling of a default above it
pub beside_written : (h : History) (w : World) (t leaf : ℕ) → InvariantOf h → IsWorld (tx_events h) w → IsRunning (tx_events h) t → w t ≡ true → WritesIn h w t leaf
    → (d : Entry) (m : ℕ) → Present (catalogue_events h) w d → is_default d.bound ≡ true → Under (catalogue_events h) w m d.child.number leaf
    → (f : Entry) → Present (catalogue_events h) w f → f.parent.number ≡ d.parent.number → Present (catalogue_events h) (view (tx_events h) t) f
beside_written h w t leaf i world acts own writes d m q by_default low f p same = elim (split (tx_events h) w t f.by.number world p.1) [
  | inl mine ↦ present_own (tx_events h) (catalogue_events h) w t f world acts own p mine
  | inr other ↦ absurd (clash_write h w f.by.number t leaf i world other.0 acts.runs (other_sym (tx_events h) t f.by.number other.1) (i.open_entries.beside w f d m leaf world p.0 other.0 p.1 q (sym same) by_default low) writes)
]

-- so what each entry above the leaf accepts for the transaction, each accepts in each world of it
pub accept_up : (h : History) (w : World) (t x : ℕ) (row : List Value) → InvariantOf h → IsWorld (tx_events h) w → IsRunning (tx_events h) t → w t ≡ true → WritesIn h (view (tx_events h) t) t x
    → AcceptAbove (catalogue_events h) (view (tx_events h) t) x row → AcceptAbove (catalogue_events h) w x row
accept_up h w t x row i world acts own locked accept e n p low =
    let writes = write_here h w t x world acts own locked in
    let to = above_written h w t x i world acts own writes in
    let way = under_above (catalogue_events h) (catalogue_events h) w (view (tx_events h) t) x to n zero e.child.number x refl low in
    accepts_map (catalogue_events h) (catalogue_events h) w (view (tx_events h) t) e.parent.number e.bound (key_at (catalogue_events h) e.parent.number row)
    (λ by_default f q same. inl (beside_written h w t x i world acts own writes e n p by_default low f q same))
    (accept e n (to e n p low) way)

born_fit : (h : History) (v : Version) (w : World) → IsRunning (tx_events h) v.by.number → MayBear h v → InvariantOf h → IsWorld (tx_events h) w → w v.by.number ≡ true → IsFit (catalogue_events h) w v
born_fit h v w acts may i world own x at = accept_up h w v.by.number x v.row i world acts own (may.locked x at) (may.routed x at)

born_writes : (h : History) (v : Version) (w : World) (x : ℕ) → IsRunning (tx_events h) v.by.number → MayBear h v → IsWorld (tx_events h) w → w v.by.number ≡ true → HasLeaf (catalogue_events h) x v.leaf → WritesIn h w v.by.number x
born_writes h v w x acts may world own at = write_here h w v.by.number x world acts own (may.locked x at)

pub born_keeps : (h : History) (v : Version) → IsRunning (tx_events h) v.by.number → MayBear h v → ((x : End) → IsEnd (row_events h) v.id.number x → ⊥) → InvariantOf h
    → Invariant (tx_events h) (snapshot_events h) (RowBorn v ∷ row_events h) (catalogue_events h) (lock_events h)
born_keeps h v acts may unended i = record {
  begun = record {
    versions = λ x is. elim is [
      | inl new ↦ subst (λ (y : Version). y.by.number < next_tx (tx_events h)) new acts.begun
      | inr old ↦ i.begun.versions x old
    ];
    snapshots = i.begun.snapshots;
  };
  locks_apart = i.locks_apart;
  open_versions = record {
    born = λ w x place world is at runs own. elim is [
      | inl new ↦ subst (λ (y : Version). WritesIn h w y.by.number place) new
          (born_writes h v w place acts may world (subst (λ (y : Version). w y.by.number ≡ true) (sym new) own) (subst (λ (y : Version). HasLeaf (catalogue_events h) place y.leaf) (sym new) at))
      | inr old ↦ i.open_versions.born w x place world old at runs own
    ];
    ended = λ w x y place world is at end runs own. elim is [
      | inl new ↦ absurd (unended y (subst (λ (z : Version). IsEnd (row_events h) z.id.number y) (sym new) end))
      | inr old ↦ i.open_versions.ended w x y place world old at end runs own
    ];
    in_order = λ w x y world is end counts. elim is [
      | inl new ↦ absurd (unended y (subst (λ (z : Version). IsEnd (row_events h) z.id.number y) (sym new) end))
      | inr old ↦ i.open_versions.in_order w x y world old end counts
    ];
  };
  open_entries = i.open_entries;
  tables = i.tables;
  entries = i.entries;
  siblings = i.siblings;
  fit = λ w x world is shows. elim is [
    | inl new ↦ subst (λ (y : Version). IsFit (catalogue_events h) w y) new (born_fit h v w acts may i world (subst (λ (y : Version). w y.by.number ≡ true) (sym new) shows.0))
    | inr old ↦ i.fit w x world old shows
  ];
}

pub ended_shows : (txs : TxEvents) (snaps : SnapshotEvents) (rows : RowEvents) (k : ℕ) (x : End) (w : World) (v : Version) → MayShow txs snaps (RowEnded k x ∷ rows) w v → MayShow txs snaps rows w v
ended_shows txs snaps rows k x w v (counts, inl fresh) = (counts, inl (fresh.0, fresh.1, fresh.2, (fresh.3.0, λ y is. fresh.3.1 y (inr is))))
ended_shows txs snaps rows k x w v (counts, inr one) = (counts, inr (one.0, one.1, one.2, (one.3.0, λ y is. one.3.1 y (inr is))))

pub ended_keeps : (h : History) (k : ℕ) (x : End) → IsRunning (tx_events h) x.by.number → ((v : Version) → IsVersion (row_events h) v → v.id.number ≡ k → view (tx_events h) x.by.number v.by.number ≡ true) → MayEndRow h k x → InvariantOf h
    → Invariant (tx_events h) (snapshot_events h) (RowEnded k x ∷ row_events h) (catalogue_events h) (lock_events h)
ended_keeps h k x acts known may i = record {
  begun = record { versions = i.begun.versions; snapshots = i.begun.snapshots };
  locks_apart = i.locks_apart;
  open_versions = record {
    born = i.open_versions.born;
    ended = λ w v y place world is at end runs own. elim end [
      | inl new ↦ subst (λ (z : End). WritesIn h w z.by.number place) new.1
          (write_here h w x.by.number place world acts (subst (λ (z : End). w z.by.number ≡ true) (sym new.1) own) (may.locked v place is (sym new.0) at))
      | inr old ↦ i.open_versions.ended w v y place world is at old runs own
    ];
    in_order = λ w v y world is end counts. elim end [
      | inl new ↦ inside (tx_events h) w x.by.number world acts (subst (λ (z : End). w z.by.number ≡ true) (sym new.1) counts) v.by.number (known v is (sym new.0))
      | inr old ↦ i.open_versions.in_order w v y world is old counts
    ];
  };
  open_entries = i.open_entries;
  tables = i.tables;
  entries = i.entries;
  siblings = i.siblings;
  fit = λ w v world is shows. i.fit w v world is (ended_shows (tx_events h) (snapshot_events h) (row_events h) k x w v shows);
}

pub leaf_keeps : (h : History) (l : ℕ) → InvariantOf h → Invariant (tx_events h) (snapshot_events h) (LeafAdded l ∷ row_events h) (catalogue_events h) (lock_events h)
leaf_keeps h l i = record {
  begun = record { versions = i.begun.versions; snapshots = i.begun.snapshots };
  locks_apart = i.locks_apart;
  open_versions = record { born = i.open_versions.born; ended = i.open_versions.ended; in_order = i.open_versions.in_order };
  open_entries = i.open_entries;
  tables = i.tables;
  entries = i.entries;
  siblings = i.siblings;
  fit = i.fit;
}
