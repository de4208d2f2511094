-- Of legal histories: each kind of event was legal; an end that can count is the one that counts; numbers are places; and
-- pasts are pasts.
use Rattle.std.proofs.Common.{◌≡◌, ◌≢◌, ℕ, zero, suc, ◌+◌, ◌<◌, ◌==◌, nat_lt, arith, true, false, List, [], ◌∷◌, ◌++◌, inl, inr, refl, ap, sym, subst, ◌∙◌, Option, Some, None, is_none, length, slice_get}
use Rattle.std.proofs.lemmas.Grind.{common_steps}
use Rattle.std.proofs.lemmas.Bool.{and_parts, cases_Bool}
use Rattle.std.proofs.lemmas.Bool.Decides.{nat_tests}
use Rattle.std.proofs.lemmas.List.{length-append}
use Rattle.history.specs.declared.transaction.Fate.TheVariants.{Running}
use Rattle.history.specs.declared.version.Version.{Version}
use Rattle.history.specs.declared.version.End.{End}
use Rattle.history.specs.declared.catalogue.Entry.{Entry}
use Rattle.history.specs.Transactions.{TxEvents, fate, is_committed, was_aborted, sees_now, IsSound}
use Rattle.history.specs.Snapshots.{TakenSnapshot, SnapshotHeld, SnapshotDropped, held_by}
use Rattle.history.specs.Rows.{RowEvents, LeafAdded, RowBorn, RowEnded, end_in, births}
use Rattle.history.specs.RowsSound.{IsEndSound}
use Rattle.history.specs.Catalogue.{TableMade, TableDropped, EntryAdded, EntryEnded, EntryMarked, CheckKept, entries_added, IsEntry, IsEntryEnd, IsMark}
use Rattle.history.specs.History.{History, TxChange, SnapshotChange, RowChange, CatalogueChange, LockChange, tx_events, snapshot_events, row_events, catalogue_events, lock_events, end_of, versions, next_version}
use Rattle.history.specs.LocksSound.{AreLocksSound}
use Rattle.history.specs.Places.{AreCatalogueSound}
use Rattle.history.specs.Legal.{IsTimely, ChangedBefore, MayHold, IsLegal}
use Rattle.history.proofs.Settled.{AbortsStay, aborts_before, none_stays, stands_free}
use Rattle.history.proofs.Open.{open_runs}
use Rattle.soundness.specs.Versions.{IsVersion, IsEnd}
use Rattle.soundness.specs.Worlds.{same_tx, view}
use Rattle.soundness.proofs.Sees.{IsOlder}
use Rattle.soundness.proofs.Txs.{committed_stays}
use Rattle.soundness.proofs.Snaps.{ComesBefore, IsTaken, either, other_left}

pub sound_of : (h : History) → IsLegal h → IsSound (tx_events h)
sound_of [] legal = tt
sound_of (TxChange e ∷ h) legal = legal.0
sound_of (_ ∷ h) legal = sound_of h legal.2

pub locks_sound_of : (h : History) → IsLegal h → AreLocksSound (lock_events h)
locks_sound_of [] legal = tt
locks_sound_of (LockChange e ∷ h) legal = (legal.0, locks_sound_of h legal.2)
locks_sound_of (_ ∷ h) legal = locks_sound_of h legal.2

pub catalogue_sound_of : (h : History) → IsLegal h → AreCatalogueSound h
catalogue_sound_of [] legal = tt
catalogue_sound_of (CatalogueChange e ∷ h) legal = (legal.0, catalogue_sound_of h legal.2)
catalogue_sound_of (_ ∷ h) legal = catalogue_sound_of h legal.2

-- ---- ends

none_or_some : (o : Option End) (x : End) → o ≡ None → o ≡ Some x → ⊥
none_or_some o x none some = cc

end_in_new : (txs : TxEvents) (rows : RowEvents) (id : ℕ) (y : End) (k : ℕ) (x : End) → id ≡ k → y ≡ x → was_aborted txs x.by.number ≡ false → end_in txs (RowEnded id y ∷ rows) k ≡ Some x
end_in_new txs rows id y k x same new alive =
    let here : (id == k) ≡ true = grind (arith, nat_tests) in
    let live : was_aborted txs y.by.number ≡ false = ap (λ (z : End). was_aborted txs z.by.number) new ∙ alive in
    rw (here, live) (ap (λ z. Some z) new)

end_in_old : (txs : TxEvents) (rows : RowEvents) (id : ℕ) (y : End) (k : ℕ) (x : End) → id ≢ k → end_in txs rows k ≡ Some x → end_in txs (RowEnded id y ∷ rows) k ≡ Some x
end_in_old txs rows id y k x other old =
    let away : (id == k) ≡ false = grind (arith, nat_tests) in
    rw away old

-- an end whose transaction is not aborted is the one that counts
end_counts_in : (h : History) (txs : TxEvents) (k : ℕ) (x : End) → AbortsStay (tx_events h) txs → IsLegal h → IsEnd (row_events h) k x → was_aborted txs x.by.number ≡ false → end_in txs (row_events h) k ≡ Some x
end_counts_in [] txs k x stay legal is alive = absurd is
end_counts_in (TxChange e ∷ h) txs k x stay legal is alive = end_counts_in h txs k x (aborts_before e (tx_events h) txs stay) legal.2 is alive
end_counts_in (SnapshotChange e ∷ h) txs k x stay legal is alive = end_counts_in h txs k x stay legal.2 is alive
end_counts_in (CatalogueChange e ∷ h) txs k x stay legal is alive = end_counts_in h txs k x stay legal.2 is alive
end_counts_in (LockChange e ∷ h) txs k x stay legal is alive = end_counts_in h txs k x stay legal.2 is alive
end_counts_in (RowChange (LeafAdded l) ∷ h) txs k x stay legal is alive = end_counts_in h txs k x stay legal.2 is alive
end_counts_in (RowChange (RowBorn v) ∷ h) txs k x stay legal is alive = end_counts_in h txs k x stay legal.2 is alive
end_counts_in (RowChange (RowEnded id y) ∷ h) txs k x stay legal (inl new) alive = end_in_new txs (row_events h) id y k x new.0 new.1 alive
end_counts_in (RowChange (RowEnded id y) ∷ h) txs k x stay legal (inr old) alive =
    let before = end_counts_in h txs k x stay legal.2 old alive in
    let none = none_stays (tx_events h) txs (row_events h) id stay (stands_free h id legal.0.standing) in
    end_in_old txs (row_events h) id y k x (λ same. none_or_some (end_in txs (row_events h) k) x (subst (λ z. end_in txs (row_events h) z ≡ None) same none) before) before

pub end_counts : (h : History) (k : ℕ) (x : End) → IsLegal h → IsEnd (row_events h) k x → was_aborted (tx_events h) x.by.number ≡ false → end_of h k ≡ Some x
end_counts h k x legal is alive = end_counts_in h (tx_events h) k x (λ t a. a) legal is alive

-- only versions that are there are ended
pub ends_known : (h : History) (k : ℕ) (x : End) → IsLegal h → IsEnd (row_events h) k x → k < next_version h
ends_known [] k x legal is = absurd is
ends_known (TxChange e ∷ h) k x legal is = ends_known h k x legal.2 is
ends_known (SnapshotChange e ∷ h) k x legal is = ends_known h k x legal.2 is
ends_known (CatalogueChange e ∷ h) k x legal is = ends_known h k x legal.2 is
ends_known (LockChange e ∷ h) k x legal is = ends_known h k x legal.2 is
ends_known (RowChange (LeafAdded l) ∷ h) k x legal is = ends_known h k x legal.2 is
ends_known (RowChange (RowBorn v) ∷ h) k x legal is =
    let old = ends_known h k x legal.2 is in
    let more : length (births (row_events h) ++ v ∷ []) ≡ length (births (row_events h)) + 1 = length-append (births (row_events h)) (v ∷ []) in
    omega (arith, old, more)
ends_known (RowChange (RowEnded id y) ∷ h) k x legal (inr old) = ends_known h k x legal.2 old
ends_known (RowChange (RowEnded id y) ∷ h) k x legal (inl new) =
    let lt : nat_lt id (next_version h) ≡ true = (and_parts (nat_lt id (next_version h)) (is_none (end_of h id)) legal.0.standing).0 in
    let below : id < next_version h = grind (arith, nat_tests, lt) in
    subst (λ z. z < next_version h) new.0 below

pub unended : (h : History) (k : ℕ) (x : End) → IsLegal h → k ≡ next_version h → IsEnd (row_events h) k x → ⊥
unended h k x legal same is = let lt = ends_known h k x legal is in omega (arith, lt, same)

-- what was committed at an open snapshot's place is so now
pub older_timely : (h : History) (r : ℕ) (s : TakenSnapshot) (o : Option TakenSnapshot) → held_by (snapshot_events h) r ≡ o → ((old : TakenSnapshot) → held_by (snapshot_events h) r ≡ Some old → IsOlder (tx_events h) old) → IsTimely o (tx_events h) s → IsOlder (tx_events h) s
older_timely h r s None at olds now t is = ap (λ p. fate p t) (sym now) ∙ is
older_timely h r s (Some old) at olds (inl now) t is = ap (λ p. fate p t) (sym now) ∙ is
older_timely h r s (Some old) at olds (inr same) t is = olds old at t (ap (λ p. fate p t) (sym same.0) ∙ is)

pub older : (h : History) (r : ℕ) (s : TakenSnapshot) → IsLegal h → held_by (snapshot_events h) r ≡ Some s → IsOlder (tx_events h) s
older [] r s legal at t is = absurd (cc)
older (TxChange e ∷ h) r s legal at t is = committed_stays e (tx_events h) t legal.0 (older h r s legal.2 at t is)
older (RowChange e ∷ h) r s legal at t is = older h r s legal.2 at t is
older (CatalogueChange e ∷ h) r s legal at t is = older h r s legal.2 at t is
older (LockChange e ∷ h) r s legal at t is = older h r s legal.2 at t is
older (SnapshotChange (SnapshotHeld q new) ∷ h) r s legal at t is = elim (either (q == r) new (held_by (snapshot_events h) r) s at) [
  | inl same ↦
      let now = older_timely h q new (held_by (snapshot_events h) q) refl (λ old at_old. older h q old legal.2 at_old) legal.0.0.timely in
      now t (ap (λ (z : TakenSnapshot). fate z.past t) same ∙ is)
  | inr old ↦ older h r s legal.2 old t is
]
older (SnapshotChange (SnapshotDropped q) ∷ h) r s legal at t is = older h r s legal.2 (other_left (q == r) (held_by (snapshot_events h) r) s at) t is

-- ---- the number of a version is its place

got_before : (vs : List Version) (w : Version) (k : ℕ) (v : Version) → slice_get vs k ≡ Some v → slice_get (vs ++ w ∷ []) k ≡ Some v
got_before [] w k v is = absurd (cc)
got_before (x ∷ vs) w zero v is = is
got_before (x ∷ vs) w (suc k) v is = got_before vs w k v is

got_last : (vs : List Version) (w : Version) (k : ℕ) → k ≡ length vs → slice_get (vs ++ w ∷ []) k ≡ Some w
got_last [] w zero is = refl
got_last [] w (suc k) is = absurd (omega (arith, is))
got_last (x ∷ vs) w zero is = absurd (omega (arith, is))
got_last (x ∷ vs) w (suc k) is = got_last vs w k (omega (arith, is))

pub version_at : (h : History) (v : Version) → IsLegal h → IsVersion (row_events h) v → slice_get (versions h) v.id.number ≡ Some v
version_at [] v legal is = absurd is
version_at (TxChange e ∷ h) v legal is = version_at h v legal.2 is
version_at (SnapshotChange e ∷ h) v legal is = version_at h v legal.2 is
version_at (CatalogueChange e ∷ h) v legal is = version_at h v legal.2 is
version_at (LockChange e ∷ h) v legal is = version_at h v legal.2 is
version_at (RowChange (LeafAdded l) ∷ h) v legal is = version_at h v legal.2 is
version_at (RowChange (RowEnded k e) ∷ h) v legal is = version_at h v legal.2 is
version_at (RowChange (RowBorn w) ∷ h) v legal (inr old) = got_before (versions h) w v.id.number v (version_at h v legal.2 old)
version_at (RowChange (RowBorn w) ∷ h) v legal (inl new) = subst (λ (x : Version). slice_get (versions h ++ w ∷ []) x.id.number ≡ Some x) new (got_last (versions h) w w.id.number legal.0.number)

view_by : (txs : TxEvents) (me tx : ℕ) → fate txs me ≡ Running → sees_now txs me tx ≡ true → view txs me tx ≡ true
unfolding same_tx
view_by txs me tx runs is = elim (cases_Bool (is_committed (fate txs tx))) [
  | inl y ↦ rw y refl
  | inr n ↦
      let own : (tx == me) ≡ true = grind (arith, common_steps, is, n) in
      let e : tx ≡ me = grind (arith, nat_tests, own) in
      let r : fate txs tx ≡ Running = ap (fate txs) e ∙ runs in
      rw (n, own, r) refl
]

-- whoever ends a version sees its birth
pub sees_birth : (h : History) (k : ℕ) (e : End) (v : Version) → IsLegal h → IsEndSound k e h → IsVersion (row_events h) v → v.id.number ≡ k → view (tx_events h) e.by.number v.by.number ≡ true
sees_birth h k e v legal sound is at =
    let there : slice_get (versions h) k ≡ Some v = ap (slice_get (versions h)) (sym at) ∙ version_at h v legal is in
    let both : Some sound.version ≡ Some v = sym sound.there ∙ there in
    let same : sound.version ≡ v = cc in
    view_by (tx_events h) e.by.number v.by.number sound.by.runs (subst (λ (x : Version). sees_now (tx_events h) e.by.number x.by.number ≡ true) same sound.seen)

-- ---- snapshots

changed_before : (rows : RowEvents) (t cmd : ℕ) → ChangedBefore rows t cmd → (k : ℕ) (x : End) → IsEnd rows k x → x.by.number ≡ t → x.cmd < cmd
changed_before [] t cmd before k x is by = absurd is
changed_before (LeafAdded l ∷ rows) t cmd before k x is by = changed_before rows t cmd before k x is by
changed_before (RowBorn v ∷ rows) t cmd before k x is by = changed_before rows t cmd before.1 k x is by
changed_before (RowEnded id e ∷ rows) t cmd before k x (inl new) by = subst (λ (z : End). z.cmd < cmd) new.1 (before.0 (ap (λ (z : End). z.by.number) new.1 ∙ by))
changed_before (RowEnded id e ∷ rows) t cmd before k x (inr old) by = changed_before rows t cmd before.1 k x old by

comes_before : (txs : TxEvents) (rows : RowEvents) (s : TakenSnapshot) → ChangedBefore rows s.tx s.cmd → ComesBefore txs rows s
unfolding same_tx
comes_before txs rows s before k x is own =
    let by : x.by.number ≡ s.tx = grind (arith, nat_tests, own) in
    let lt : x.cmd < s.cmd = changed_before rows s.tx s.cmd before k x is by in
    grind (arith, nat_tests, lt)

pub taken_of : (h : History) (r : ℕ) (s : TakenSnapshot) → IsLegal h → MayHold (SnapshotHeld r s) h → IsTaken h r s
taken_of h r s legal may = record {
  own = open_runs (tx_events h) r s.tx (sound_of h legal) may.0.own;
  timely = may.0.timely;
  before_changes = comes_before (tx_events h) (row_events h) s may.1;
}

-- ---- the number of an entry is its place

grows : (es : List Entry) (e : Entry) (k : ℕ) → k < length es → k < length (es ++ e ∷ [])
grows es e k lt = let n : length (es ++ e ∷ []) ≡ length es + 1 = length-append es (e ∷ []) in omega (arith, n, lt)

pub entry_below : (h : History) (e : Entry) → AreCatalogueSound h → IsEntry (catalogue_events h) e → e.id.number < length (entries_added (catalogue_events h))
entry_below [] e sound is = absurd is
entry_below (CatalogueChange (EntryAdded x) ∷ h) e sound (inl new) =
    let n : length (entries_added (catalogue_events h) ++ x ∷ []) ≡ length (entries_added (catalogue_events h)) + 1 = length-append (entries_added (catalogue_events h)) (x ∷ []) in
    let at : e.id.number ≡ length (entries_added (catalogue_events h)) = ap (λ (z : Entry). z.id.number) (sym new) ∙ sound.0.0 in
    omega (arith, n, at)
entry_below (CatalogueChange (EntryAdded x) ∷ h) e sound (inr old) = grows (entries_added (catalogue_events h)) x e.id.number (entry_below h e sound.1 old)
entry_below (CatalogueChange (TableMade t) ∷ h) e sound is = entry_below h e sound.1 is
entry_below (CatalogueChange (TableDropped k s) ∷ h) e sound is = entry_below h e sound.1 is
entry_below (CatalogueChange (EntryEnded k s) ∷ h) e sound is = entry_below h e sound.1 is
entry_below (CatalogueChange (EntryMarked k s) ∷ h) e sound is = entry_below h e sound.1 is
entry_below (CatalogueChange (CheckKept c) ∷ h) e sound is = entry_below h e sound.1 is
entry_below (TxChange x ∷ h) e sound is = entry_below h e sound is
entry_below (SnapshotChange x ∷ h) e sound is = entry_below h e sound is
entry_below (RowChange x ∷ h) e sound is = entry_below h e sound is
entry_below (LockChange x ∷ h) e sound is = entry_below h e sound is

pub end_below : (h : History) (k u : ℕ) → AreCatalogueSound h → IsEntryEnd (catalogue_events h) k u → k < length (entries_added (catalogue_events h))
end_below [] k u sound is = absurd is
end_below (CatalogueChange (EntryEnded n s) ∷ h) k u sound (inl new) = subst (λ z. z < length (entries_added (catalogue_events h))) new.0 sound.0.0
end_below (CatalogueChange (EntryEnded n s) ∷ h) k u sound (inr old) = end_below h k u sound.1 old
end_below (CatalogueChange (EntryAdded x) ∷ h) k u sound is = grows (entries_added (catalogue_events h)) x k (end_below h k u sound.1 is)
end_below (CatalogueChange (TableMade t) ∷ h) k u sound is = end_below h k u sound.1 is
end_below (CatalogueChange (TableDropped n s) ∷ h) k u sound is = end_below h k u sound.1 is
end_below (CatalogueChange (EntryMarked n s) ∷ h) k u sound is = end_below h k u sound.1 is
end_below (CatalogueChange (CheckKept c) ∷ h) k u sound is = end_below h k u sound.1 is
end_below (TxChange x ∷ h) k u sound is = end_below h k u sound is
end_below (SnapshotChange x ∷ h) k u sound is = end_below h k u sound is
end_below (RowChange x ∷ h) k u sound is = end_below h k u sound is
end_below (LockChange x ∷ h) k u sound is = end_below h k u sound is

pub mark_below : (h : History) (k u : ℕ) → AreCatalogueSound h → IsMark (catalogue_events h) k u → k < length (entries_added (catalogue_events h))
mark_below [] k u sound is = absurd is
mark_below (CatalogueChange (EntryMarked n s) ∷ h) k u sound (inl new) = subst (λ z. z < length (entries_added (catalogue_events h))) new.0 sound.0.0
mark_below (CatalogueChange (EntryMarked n s) ∷ h) k u sound (inr old) = mark_below h k u sound.1 old
mark_below (CatalogueChange (EntryAdded x) ∷ h) k u sound is = grows (entries_added (catalogue_events h)) x k (mark_below h k u sound.1 is)
mark_below (CatalogueChange (TableMade t) ∷ h) k u sound is = mark_below h k u sound.1 is
mark_below (CatalogueChange (TableDropped n s) ∷ h) k u sound is = mark_below h k u sound.1 is
mark_below (CatalogueChange (EntryEnded n s) ∷ h) k u sound is = mark_below h k u sound.1 is
mark_below (CatalogueChange (CheckKept c) ∷ h) k u sound is = mark_below h k u sound.1 is
mark_below (TxChange x ∷ h) k u sound is = mark_below h k u sound is
mark_below (SnapshotChange x ∷ h) k u sound is = mark_below h k u sound is
mark_below (RowChange x ∷ h) k u sound is = mark_below h k u sound is
mark_below (LockChange x ∷ h) k u sound is = mark_below h k u sound is
