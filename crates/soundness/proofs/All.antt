-- Each kind of event keeps the invariant, so each legal history has it.
use Rattle.std.proofs.Common.{◌≡◌, ◌≢◌, ℕ, ◌<◌, arith, [], ◌∷◌, inl, inr, length}
use Rattle.history.specs.declared.catalogue.Entry.{Entry}
use Rattle.history.specs.Snapshots.{SnapshotHeld, SnapshotDropped}
use Rattle.history.specs.Rows.{LeafAdded, RowBorn, RowEnded}
use Rattle.history.specs.Catalogue.{TableMade, TableDropped, EntryAdded, EntryEnded, EntryMarked, CheckKept, entries_added}
use Rattle.history.specs.History.{Event, History, TxChange, SnapshotChange, RowChange, CatalogueChange, LockChange, tx_events, snapshot_events, row_events, catalogue_events, lock_events}
use Rattle.history.specs.Places.{IsCatalogueSound, AreCatalogueSound}
use Rattle.history.specs.Legal.{May, IsLegal}
use Rattle.soundness.specs.Kept.{Checks, ChecksOf}
use Rattle.soundness.specs.Legal.{MayAdd, IsPermitted, ArePermitted}
use Rattle.soundness.specs.Parts.{Invariant, InvariantOf}
use Rattle.soundness.specs.Laws.{LegalKeepsAll, LegalKeepsChecks, AttachMaySkip}
use Rattle.soundness.proofs.Txs.{shrinks, tx_keeps}
use Rattle.soundness.proofs.Sound.{catalogue_sound_of, locks_sound_of, unended, sees_birth, taken_of, entry_below, end_below, mark_below}
use Rattle.soundness.proofs.Snaps.{held_keeps, dropped_keeps}
use Rattle.soundness.proofs.Rows.{born_keeps, ended_keeps, leaf_keeps}
use Rattle.soundness.proofs.Locking.{lock_keeps}
use Rattle.soundness.proofs.Tables as tables
use Rattle.soundness.proofs.Ended as entry_end
use Rattle.soundness.proofs.Marked.{marked_keeps}
use Rattle.soundness.proofs.Checks.{check_keeps}
use Rattle.soundness.proofs.Added.{IsFresh}
use Rattle.soundness.proofs.Counted.{none_yet}
use Rattle.soundness.proofs.AddedEntries.{added_entries}
use Rattle.soundness.proofs.AddedSiblings.{added_entries_are, added_siblings}
use Rattle.soundness.proofs.AddedFit.{added_fit}
use Rattle.soundness.proofs.CheckBorn.{born_checks, ended_checks, leaf_checks}
use Rattle.soundness.proofs.CheckOthers.{tx_checks, held_checks, dropped_checks, lock_checks}
use Rattle.soundness.proofs.CheckTables as check_tables
use Rattle.soundness.proofs.CheckKept.{kept_checks}
use Rattle.soundness.proofs.CheckAdded.{added_checks}
use Rattle.soundness.proofs.CheckSkip.{skip_is_add}

not_past : (k n : ℕ) → k < n → k ≢ n
not_past k n lt e = omega (arith, lt, e)

not_this : (k l n : ℕ) → l ≡ n → k < n → k ≢ l
not_this k l n is lt e = omega (arith, is, lt, e)

-- a number that comes next is a new one
fresh_of : (h : History) (e : Entry) → AreCatalogueSound h → IsCatalogueSound (EntryAdded e) h → IsFresh h e
fresh_of h e sound its = record {
  numbered = λ g is. not_this g.id.number e.id.number (length (entries_added (catalogue_events h))) its.0 (entry_below h g sound is);
  unended = λ u is. not_past e.id.number (length (entries_added (catalogue_events h))) (end_below h e.id.number u sound is) its.0;
  unmarked = λ u is. not_past e.id.number (length (entries_added (catalogue_events h))) (mark_below h e.id.number u sound is) its.0;
  suits = its.1;
}

pub added_keeps : (h : History) (e : Entry) → IsFresh h e → MayAdd h e → InvariantOf h → Invariant (tx_events h) (snapshot_events h) (row_events h) (EntryAdded e ∷ catalogue_events h) (lock_events h)
added_keeps h e fresh may i = record {
  begun = record { versions = i.begun.versions; snapshots = i.begun.snapshots };
  locks_apart = record { apart = i.locks_apart.apart; known = i.locks_apart.known; awaited = i.locks_apart.awaited };
  open_versions = record { born = i.open_versions.born; ended = i.open_versions.ended; in_order = i.open_versions.in_order };
  open_entries = added_entries h e fresh may i;
  tables = record { one_home = i.tables.one_home };
  entries = added_entries_are h e fresh i;
  siblings = added_siblings h e fresh may i;
  fit = added_fit h e may i;
}

pub nothing_yet : Invariant [] [] [] [] []
nothing_yet = record {
  begun = record { versions = λ v is. absurd is; snapshots = λ r s held. absurd (cc) };
  locks_apart = record { apart = λ a b x m n other ha hb. absurd (cc); known = λ s x m held. absurd (cc); awaited = λ s x m waits. absurd (cc) };
  open_versions = record { born = λ w v x world is. absurd is; ended = λ w v y x world is. absurd is; in_order = λ w v y world is. absurd is };
  open_entries = record {
    added = λ w e world is. absurd is;
    below = λ w e n x world is. absurd is;
    beside = λ w e d n x world is. absurd is;
    ended = λ w e u world is. absurd is;
    marked = λ w e u world is. absurd is;
    dropped = λ w x u world is. absurd is;
  };
  tables = record { one_home = λ x y leaf at. absurd (omega (arith, at.0)) };
  entries = record { numbered = λ e f is. absurd is; suited = λ e is. absurd is };
  siblings = λ w world. record {
    one_parent = λ e f p. absurd p.0;
    together = λ e f p. absurd p.0;
    no_cycle = λ n x is. absurd is.1.0;
    shallow = λ top x is. absurd is.1.0;
    few = none_yet w;
    there = λ e p. absurd p.0;
    one_pending = λ e f p. absurd p.0;
    no_default = λ e d p. absurd p.0;
    named = λ x y tx ty same. absurd (omega (arith, tx.0));
  };
  fit = λ w v world is. absurd is;
}

-- with a scan or without one, it is an ATTACH with a scan
pub added : (h : History) (e : Entry) → IsLegal h → InvariantOf h → ChecksOf h → IsPermitted (CatalogueChange (EntryAdded e)) h → MayAdd h e
added h e legal i k (inl may) = may
added h e legal i k (inr may) = skip_is_add h e legal i k may

pub event_keeps : (e : Event) (h : History) → May e h → IsPermitted e h → IsLegal h → InvariantOf h → ChecksOf h → InvariantOf (e ∷ h)
event_keeps (TxChange e) h may permitted legal i checks = tx_keeps (tx_events h) (e ∷ tx_events h) (snapshot_events h) (row_events h) (catalogue_events h) (lock_events h) (shrinks e (tx_events h) may) i
event_keeps (SnapshotChange (SnapshotHeld r s)) h may permitted legal i checks = held_keeps h r s (taken_of h r s legal may) i
event_keeps (SnapshotChange (SnapshotDropped r)) h may permitted legal i checks = dropped_keeps h r i
event_keeps (RowChange (LeafAdded l)) h may permitted legal i checks = leaf_keeps h l i
event_keeps (RowChange (RowBorn v)) h may permitted legal i checks = born_keeps h v may.by permitted (λ x is. unended h v.id.number x legal may.number is) i
event_keeps (RowChange (RowEnded k x)) h may permitted legal i checks = ended_keeps h k x may.by (λ v is at. sees_birth h k x v legal may is at) permitted i
event_keeps (CatalogueChange (TableMade t)) h may permitted legal i checks = tables.made_keeps h t permitted i
event_keeps (CatalogueChange (TableDropped x s)) h may permitted legal i checks = tables.dropped_keeps h x s permitted i
event_keeps (CatalogueChange (EntryAdded e)) h may permitted legal i checks = added_keeps h e (fresh_of h e (catalogue_sound_of h legal) may) (added h e legal i checks permitted) i
event_keeps (CatalogueChange (EntryEnded k s)) h may permitted legal i checks = entry_end.ended_keeps h k s permitted i
event_keeps (CatalogueChange (EntryMarked k s)) h may permitted legal i checks = marked_keeps h k s permitted i
event_keeps (CatalogueChange (CheckKept c)) h may permitted legal i checks = check_keeps h c i
event_keeps (LockChange e) h may permitted legal i checks = lock_keeps e h may (locks_sound_of h legal) permitted i

keeps_checks : (e : Event) (h : History) → May e h → IsPermitted e h → IsLegal h → InvariantOf h → ChecksOf h → ChecksOf (e ∷ h)
keeps_checks (TxChange e) h may permitted legal i k = tx_checks (tx_events h) (e ∷ tx_events h) (snapshot_events h) (row_events h) (catalogue_events h) (lock_events h) (shrinks e (tx_events h) may) i.begun k
keeps_checks (SnapshotChange (SnapshotHeld r s)) h may permitted legal i k = held_checks h r s (taken_of h r s legal may) i k
keeps_checks (SnapshotChange (SnapshotDropped r)) h may permitted legal i k = dropped_checks h r k
keeps_checks (RowChange (LeafAdded l)) h may permitted legal i k = leaf_checks h l k
keeps_checks (RowChange (RowBorn v)) h may permitted legal i k = born_checks h v may.by permitted i k
keeps_checks (RowChange (RowEnded n y)) h may permitted legal i k = ended_checks h n y k
keeps_checks (CatalogueChange (TableMade t)) h may permitted legal i k = check_tables.made_checks h t permitted i k
keeps_checks (CatalogueChange (TableDropped x s)) h may permitted legal i k = check_tables.dropped_checks h x s k
keeps_checks (CatalogueChange (EntryAdded e)) h may permitted legal i k = added_checks h e (added h e legal i k permitted) i k
keeps_checks (CatalogueChange (EntryEnded n s)) h may permitted legal i k = check_tables.ended_checks h n s permitted i k
keeps_checks (CatalogueChange (EntryMarked n s)) h may permitted legal i k = check_tables.marked_checks h n s k
keeps_checks (CatalogueChange (CheckKept c)) h may permitted legal i k = kept_checks h c permitted i k
keeps_checks (LockChange e) h may permitted legal i k = lock_checks e h permitted k

no_checks_yet : Checks [] [] [] [] []
no_checks_yet = record {
  opened = record { repeated = λ c is. absurd is; owned = λ w c world is. absurd is };
  two = λ w world c d a. absurd a.0;
  checked = λ w v x world is. absurd is;
}

pub legal_keeps_both : (h : History) → IsLegal h → ArePermitted h → InvariantOf h × ChecksOf h
legal_keeps_both [] legal permitted = (nothing_yet, no_checks_yet)
legal_keeps_both (e ∷ h) legal permitted =
    let before = legal_keeps_both h legal.2 permitted.1 in
    (event_keeps e h legal.0 permitted.0 legal.2 before.0 before.1, keeps_checks e h legal.0 permitted.0 legal.2 before.0 before.1)

pub legal_keeps_all : LegalKeepsAll
legal_keeps_all h legal permitted = (legal_keeps_both h legal permitted).0

pub legal_keeps_checks : LegalKeepsChecks
legal_keeps_checks h legal permitted = (legal_keeps_both h legal permitted).1

pub attach_may_skip : AttachMaySkip
attach_may_skip h e legal permitted may = let now = legal_keeps_both h legal permitted in skip_is_add h e legal now.0 now.1 may
