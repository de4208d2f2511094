-- Events of tables, and entries that are ended or marked.
use Rattle.std.proofs.Common.{◌≡◌, ℕ, ◌∷◌, true, false, inl, inr, refl, ap, sym, subst, ◌∙◌}
use Rattle.std.proofs.lemmas.Bool.{cases_Bool}
use Rattle.history.specs.declared.transaction.Fate.TheVariants.{Running}
use Rattle.history.specs.declared.catalogue.Table.{Table}
use Rattle.history.specs.declared.catalogue.Entry.{Entry}
use Rattle.history.specs.declared.catalogue.Check.{Check}
use Rattle.history.specs.declared.catalogue.Stamp.{Stamp}
use Rattle.history.specs.Transactions.{TxEvents, fate}
use Rattle.history.specs.Catalogue.{TableMade, TableDropped, EntryEnded, EntryMarked}
use Rattle.history.specs.History.{History, tx_events, snapshot_events, row_events, catalogue_events, lock_events}
use Rattle.soundness.specs.Worlds.{World, IsWorld, same_tx}
use Rattle.soundness.specs.Parts.{InvariantOf}
use Rattle.soundness.specs.Legal.{MayMake, MayEndEntry}
use Rattle.soundness.proofs.Worlds.{both_ways, own_inside, alive, alive_world}
use Rattle.soundness.proofs.Held.{clash, guard_here}
use Rattle.soundness.proofs.Under.{under_map}
use Rattle.soundness.proofs.Ended.{was_present}
use Rattle.soundness.proofs.Made.{same_table, leaf_was}
use Rattle.soundness.proofs.Tables.{guards_still, owns_still}
use Rattle.soundness.specs.Kept.{Repeats, IsRepeated, Checks, ChecksOf}

repeats_more : (t : Table) (h : History) (c : Check) (e : Entry) → InvariantOf h → IsRepeated (tx_events h) (catalogue_events h) (lock_events h) c e → Repeats (TableMade t ∷ catalogue_events h) c e
repeats_more t h c e i r = record {
  child = r.repeats.child;
  level = ap (λ (y : Table). y.shape) (sym (same_table t (catalogue_events h) e.parent.number (i.entries.suited e r.entry).parent)) ∙ r.repeats.level;
  bound = r.repeats.bound;
  named = r.repeats.named;
}

pub made_checks : (h : History) (t : Table) → MayMake h t → InvariantOf h → ChecksOf h → Checks (tx_events h) (snapshot_events h) (row_events h) (TableMade t ∷ catalogue_events h) (lock_events h)
made_checks h t may i k = record {
  opened = record {
    repeated = λ c is runs.
        let r = k.opened.repeated c is runs in (
          r.0,
          record {
            entry = r.1.entry;
            repeats = repeats_more t h c r.0 i r.1;
            born = r.1.born;
            guarded = λ w world counts. guards_still h t w c.by.number r.0.parent.number (r.1.guarded w world counts);
            unended = r.1.unended;
          },
        );
    owned = λ w c world is runs counts. owns_still h t w c.by.number c.table.number (k.opened.owned w c world is runs counts);
  };
  two = λ w world c d a b. k.two w world c d a b;
  checked = λ w v x world is shows at c n counts low. elim (leaf_was t (catalogue_events h) x v.leaf at) [
    | inl new ↦ absurd (may.empty v is new)
    | inr old ↦ k.checked w v x world is shows old c n counts (under_map (TableMade t ∷ catalogue_events h) (catalogue_events h) w w (λ e p. p) n c.table.number x low)
  ];
}

pub dropped_checks : (h : History) (x : ℕ) (s : Stamp) → ChecksOf h → Checks (tx_events h) (snapshot_events h) (row_events h) (TableDropped x s ∷ catalogue_events h) (lock_events h)
dropped_checks h x s k = record {
  opened = record {
    repeated = λ c is runs.
        let r = k.opened.repeated c is runs in (
          r.0,
          record {
            entry = r.1.entry;
            repeats = record { child = r.1.repeats.child; level = r.1.repeats.level; bound = r.1.repeats.bound; named = r.1.repeats.named };
            born = r.1.born;
            guarded = r.1.guarded;
            unended = r.1.unended;
          },
        );
    owned = k.opened.owned;
  };
  two = λ w world c d a b. k.two w world c d a b;
  checked = λ w v y world is shows at c n counts low. k.checked w v y world is shows at c n counts (under_map (TableDropped x s ∷ catalogue_events h) (catalogue_events h) w w (λ e p. p) n c.table.number y low);
}

pub marked_checks : (h : History) (x : ℕ) (s : Stamp) → ChecksOf h → Checks (tx_events h) (snapshot_events h) (row_events h) (EntryMarked x s ∷ catalogue_events h) (lock_events h)
marked_checks h x s k = record {
  opened = record {
    repeated = λ c is runs.
        let r = k.opened.repeated c is runs in (
          r.0,
          record {
            entry = r.1.entry;
            repeats = record { child = r.1.repeats.child; level = r.1.repeats.level; bound = r.1.repeats.bound; named = r.1.repeats.named };
            born = r.1.born;
            guarded = r.1.guarded;
            unended = r.1.unended;
          },
        );
    owned = k.opened.owned;
  };
  two = λ w world c d a b. k.two w world c d a b;
  checked = λ w v y world is shows at c n counts low. k.checked w v y world is shows at c n counts (under_map (EntryMarked x s ∷ catalogue_events h) (catalogue_events h) w w (λ e p. p) n c.table.number y low);
}

pub alive_of : (txs : TxEvents) (t : ℕ) → fate txs t ≡ Running → alive txs t ≡ true
alive_of txs t runs = rw runs refl

-- whoever ends the entry that a CHECK of an open transaction repeats is of that transaction
its_end : (h : History) (n : ℕ) (s : Stamp) (c : Check) (e : Entry) (w : World) → MayEndEntry h n s → InvariantOf h → IsRepeated (tx_events h) (catalogue_events h) (lock_events h) c e → fate (tx_events h) c.by.number ≡ Running
    → e.id.number ≡ n → IsWorld (tx_events h) w → w c.by.number ≡ false → w s.by.number ≡ true → ⊥
its_end h n s c e w may i r runs at world out counts = elim (cases_Bool (same_tx (tx_events h) s.by.number c.by.number)) [
  | inl own ↦ both_ways (w c.by.number) (own_inside (tx_events h) w s.by.number c.by.number world may.acts counts own runs) out
  | inr other ↦
      let all = alive_world (tx_events h) in
      let mine = guard_here h (alive (tx_events h)) s.by.number e.parent.number all may.acts (alive_of (tx_events h) s.by.number may.acts.runs) (may.locked e r.entry at) in
      clash h (alive (tx_events h)) s.by.number c.by.number e.parent.number i all may.acts.runs runs other mine (r.guarded (alive (tx_events h)) all (alive_of (tx_events h) c.by.number runs))
]

pub ended_checks : (h : History) (n : ℕ) (s : Stamp) → MayEndEntry h n s → InvariantOf h → ChecksOf h → Checks (tx_events h) (snapshot_events h) (row_events h) (EntryEnded n s ∷ catalogue_events h) (lock_events h)
ended_checks h n s may i k = record {
  opened = record {
    repeated = λ c is runs.
        let r = k.opened.repeated c is runs in (
          r.0,
          record {
            entry = r.1.entry;
            repeats = record { child = r.1.repeats.child; level = r.1.repeats.level; bound = r.1.repeats.bound; named = r.1.repeats.named };
            born = r.1.born;
            guarded = r.1.guarded;
            unended = λ w u world out end. elim end [
              | inl new ↦ elim (cases_Bool (w u)) [
                | inr no_more ↦ no_more
                | inl counts ↦ absurd (its_end h n s c r.0 w may i r.1 runs (sym new.0) world out (subst (λ z. w z ≡ true) (sym new.1) counts))
              ]
              | inr old ↦ r.1.unended w u world out old
            ];
          },
        );
    owned = k.opened.owned;
  };
  two = λ w world c d a b. k.two w world c d a b;
  checked = λ w v y world is shows at c m counts low. k.checked w v y world is shows at c m counts (under_map (EntryEnded n s ∷ catalogue_events h) (catalogue_events h) w w (was_present n s (catalogue_events h) w) m c.table.number y low);
}
