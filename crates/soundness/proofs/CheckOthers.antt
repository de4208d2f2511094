-- Events of transactions, of snapshots and of locks.
use Rattle.std.proofs.Common.{ℕ, ◌∷◌}
use Rattle.history.specs.Transactions.{TxEvents}
use Rattle.history.specs.Snapshots.{SnapshotEvents, TakenSnapshot, SnapshotHeld, SnapshotDropped}
use Rattle.history.specs.Rows.{RowEvents}
use Rattle.history.specs.Catalogue.{CatalogueEvents}
use Rattle.history.specs.Locks.{LockEvent, LockEvents}
use Rattle.history.specs.History.{History, LockChange, tx_events, snapshot_events, row_events, catalogue_events, lock_events}
use Rattle.soundness.specs.Parts.{AreBegun, InvariantOf}
use Rattle.soundness.specs.Legal.{IsPermitted}
use Rattle.soundness.proofs.Txs.{Shrinks, guards_after, owns_after, shows_before}
use Rattle.soundness.proofs.Snaps.{IsTaken, held_shows, dropped_shows}
use Rattle.soundness.proofs.Locking.{guards_still, owns_still, event_keeps_held}
use Rattle.soundness.specs.Kept.{Checks, ChecksOf}

pub tx_checks : (old new : TxEvents) (snaps : SnapshotEvents) (rows : RowEvents) (cats : CatalogueEvents) (locks : LockEvents) → Shrinks old new → AreBegun old snaps rows → Checks old snaps rows cats locks → Checks new snaps rows cats locks
tx_checks old new snaps rows cats locks less begun k = record {
  opened = record {
    repeated = λ c is runs.
        let r = k.opened.repeated c is (less.runs c.by.number runs) in (
          r.0,
          record {
            entry = r.1.entry;
            repeats = r.1.repeats;
            born = λ w world. r.1.born w (less.worlds w world);
            guarded = λ w world counts. guards_after old new cats locks w c.by.number r.0.parent.number less world runs (r.1.guarded w (less.worlds w world) counts);
            unended = λ w u world. r.1.unended w u (less.worlds w world);
          },
        );
    owned = λ w c world is runs counts. owns_after old new cats locks w c.by.number c.table.number less world runs (k.opened.owned w c (less.worlds w world) is (less.runs c.by.number runs) counts);
  };
  two = λ w world. k.two w (less.worlds w world);
  checked = λ w v x world is shows at. k.checked w v x (less.worlds w world) is (shows_before old new snaps rows w v less begun is shows) at;
}

pub held_checks : (h : History) (r : ℕ) (s : TakenSnapshot) → IsTaken h r s → InvariantOf h → ChecksOf h → Checks (tx_events h) (SnapshotHeld r s ∷ snapshot_events h) (row_events h) (catalogue_events h) (lock_events h)
held_checks h r s may i k = record {
  opened = k.opened;
  two = k.two;
  checked = λ w v x world is shows at. k.checked w v x world is (held_shows h r s w v may i world is shows) at;
}

pub dropped_checks : (h : History) (r : ℕ) → ChecksOf h → Checks (tx_events h) (SnapshotDropped r ∷ snapshot_events h) (row_events h) (catalogue_events h) (lock_events h)
dropped_checks h r k = record {
  opened = k.opened;
  two = k.two;
  checked = λ w v x world is shows at. k.checked w v x world is (dropped_shows h r w v shows) at;
}

pub lock_checks : (e : LockEvent) (h : History) → IsPermitted (LockChange e) h → ChecksOf h → Checks (tx_events h) (snapshot_events h) (row_events h) (catalogue_events h) (e ∷ lock_events h)
lock_checks e h may k =
    let keep = event_keeps_held e h may in
    record {
      opened = record {
        repeated = λ c is runs.
            let r = k.opened.repeated c is runs in (
              r.0,
              record {
                entry = r.1.entry;
                repeats = r.1.repeats;
                born = r.1.born;
                guarded = λ w world counts. guards_still h (e ∷ lock_events h) w c.by.number r.0.parent.number keep (r.1.guarded w world counts);
                unended = r.1.unended;
              },
            );
        owned = λ w c world is runs counts. owns_still h (e ∷ lock_events h) w c.by.number c.table.number keep (k.opened.owned w c world is runs counts);
      };
      two = k.two;
      checked = k.checked;
    }
