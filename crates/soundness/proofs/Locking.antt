-- Locks that are got stay apart from those of others; locks that are given up are of no open transaction.
use Rattle.std.proofs.Common.{◌≡◌, ℕ, ◌==◌, ◌&&◌, ◌||◌, not, arith, Bool, true, false, if◌then◌else◌, ◌∷◌, ◌⊎◌, inl, inr, refl, ap, sym, subst, ◌∙◌, Option, Some, None}
use Rattle.std.proofs.lemmas.Grind.{common_steps}
use Rattle.std.proofs.lemmas.Bool.{cases_Bool, and_parts}
use Rattle.std.proofs.lemmas.Bool.Decides.{nat_tests}
use Rattle.pg_values.specs.declared.ids.TableNo.{TableNo}
use Rattle.pg_values.specs.declared.lock_mode.LockMode.{LockMode}
use Rattle.pg_values.specs.declared.lock_mode.LockMode.TheVariants.{RowExclusive, ShareUpdateExclusive, AccessExclusive}
use Rattle.pg_values.specs.Modes.{same_mode}
use Rattle.history.specs.declared.wait.WaitOn.TheVariants.{Ends, Snapshots}
use Rattle.history.specs.declared.wait.Wanted.{Wanted}
use Rattle.history.specs.declared.wait.Wanted.TheVariants.{Lock, Others}
use Rattle.history.specs.Transactions.{TxEvents, open_of}
use Rattle.history.specs.Catalogue.{CatalogueEvents}
use Rattle.history.specs.Locks.{LockEvent, LockEvents, LockGot, LocksGivenUp, SnapshotGone, WaitBegan, WaitResumed, WaitWithdrawn, holds, wanted, is_lock, after_end, after_snapshot}
use Rattle.history.specs.LocksSound.{IsLockSound, AreLocksSound}
use Rattle.history.specs.History.{History, LockChange, tx_events, snapshot_events, row_events, catalogue_events, lock_events}
use Rattle.history.proofs.Holders.{none_conflict}
use Rattle.soundness.specs.Worlds.{World}
use Rattle.soundness.specs.Parts.{HoldsBy, IsKnown, LocksApart, OwnsBy, WritesBy, GuardsBy, Owns, Writes, Guards, OwnsIn, WritesIn, GuardsIn, Invariant, InvariantOf}
use Rattle.soundness.specs.Legal.{IsPermitted}
use Rattle.soundness.proofs.Snaps.{or_cases}

-- what an open transaction holds, it holds in the other list
abbrev pub Keeps : TxEvents → LockEvents → LockEvents → Type 0
Keeps txs old new = (s q x : ℕ) (m : LockMode) → open_of txs s ≡ Some q → holds old s x m ≡ true → holds new s x m ≡ true

still_held : (txs : TxEvents) (old new : LockEvents) (q x : ℕ) (m : LockMode) → Keeps txs old new → HoldsBy txs old q x m → HoldsBy txs new q x m
still_held txs old new q x m keep (s, opened, held) = (s, opened, keep s q x m opened held)

still_owned : (txs : TxEvents) (cats : CatalogueEvents) (old new : LockEvents) (q x : ℕ) → Keeps txs old new → OwnsBy txs cats old q x → OwnsBy txs cats new q x
still_owned txs cats old new q x keep (inl l) = inl (still_held txs old new q x AccessExclusive keep l)
still_owned txs cats old new q x keep (inr made) = inr made

still_written : (txs : TxEvents) (cats : CatalogueEvents) (old new : LockEvents) (q x : ℕ) → Keeps txs old new → WritesBy txs cats old q x → WritesBy txs cats new q x
still_written txs cats old new q x keep (inl l) = inl (still_held txs old new q x RowExclusive keep l)
still_written txs cats old new q x keep (inr o) = inr (still_owned txs cats old new q x keep o)

still_guarded : (txs : TxEvents) (cats : CatalogueEvents) (old new : LockEvents) (q x : ℕ) → Keeps txs old new → GuardsBy txs cats old q x → GuardsBy txs cats new q x
still_guarded txs cats old new q x keep (inl l) = inl (still_held txs old new q x ShareUpdateExclusive keep l)
still_guarded txs cats old new q x keep (inr o) = inr (still_owned txs cats old new q x keep o)

pub owns_still : (h : History) (new : LockEvents) (w : World) (u y : ℕ) → Keeps (tx_events h) (lock_events h) new → OwnsIn h w u y → Owns (tx_events h) (catalogue_events h) new w u y
owns_still h new w u y keep (q, s, c, o) = (q, s, c, still_owned (tx_events h) (catalogue_events h) (lock_events h) new q y keep o)

writes_still : (h : History) (new : LockEvents) (w : World) (u y : ℕ) → Keeps (tx_events h) (lock_events h) new → WritesIn h w u y → Writes (tx_events h) (catalogue_events h) new w u y
writes_still h new w u y keep (q, s, c, o) = (q, s, c, still_written (tx_events h) (catalogue_events h) (lock_events h) new q y keep o)

pub guards_still : (h : History) (new : LockEvents) (w : World) (u y : ℕ) → Keeps (tx_events h) (lock_events h) new → GuardsIn h w u y → Guards (tx_events h) (catalogue_events h) new w u y
guards_still h new w u y keep (q, s, c, o) = (q, s, c, still_guarded (tx_events h) (catalogue_events h) (lock_events h) new q y keep o)

locks_keep : (h : History) (new : LockEvents) → Keeps (tx_events h) (lock_events h) new → LocksApart (tx_events h) (catalogue_events h) new → InvariantOf h → Invariant (tx_events h) (snapshot_events h) (row_events h) (catalogue_events h) new
locks_keep h new keep apart i =
    let owns = λ (w : World) (u y : ℕ) (o : OwnsIn h w u y). owns_still h new w u y keep o in
    let writes = λ (w : World) (u y : ℕ) (o : WritesIn h w u y). writes_still h new w u y keep o in
    let guards = λ (w : World) (u y : ℕ) (o : GuardsIn h w u y). guards_still h new w u y keep o in
    record {
      begun = i.begun;
      locks_apart = apart;
      open_versions = record {
        born = λ w v x world is at runs own. writes w v.by.number x (i.open_versions.born w v x world is at runs own);
        ended = λ w v y x world is at end runs own. writes w y.by.number x (i.open_versions.ended w v y x world is at end runs own);
        in_order = i.open_versions.in_order;
      };
      open_entries = record {
        added = λ w e world is runs own. guards w e.by.number e.parent.number (i.open_entries.added w e world is runs own);
        below = λ w e n y world is runs own low. owns w e.by.number y (i.open_entries.below w e n y world is runs own low);
        beside = λ w e d n y world is runs own p same by_default low. owns w e.by.number y (i.open_entries.beside w e d n y world is runs own p same by_default low);
        ended = λ w e u world is end runs own. guards w u e.parent.number (i.open_entries.ended w e u world is end runs own);
        marked = λ w e u world is mark runs own. guards w u e.parent.number (i.open_entries.marked w e u world is mark runs own);
        dropped = λ w y u world is runs own. owns w u y (i.open_entries.dropped w y u world is runs own);
      };
      tables = i.tables;
      entries = i.entries;
      siblings = i.siblings;
      fit = i.fit;
    }

-- ---- what is held and awaited after each event

or_right : (a b : Bool) → b ≡ true → (a || b) ≡ true
or_right a b is = rw is (grind (arith, common_steps))

-- a lock that is awaited is one of the given table
lock_is : (x : ℕ) (m : LockMode) (o : Option Wanted) → is_lock x m o ≡ true → (t : TableNo) × (n : LockMode) × (o ≡ Some (Lock t n)) × (t.number ≡ x)
lock_is x m None is = absurd (cc)
lock_is x m (Some (Others what)) is = absurd (cc)
lock_is x m (Some (Lock t n)) is =
    let first = (and_parts (t.number == x) (same_mode n m) is).0 in
    (t, n, refl, grind (arith, nat_tests, first))

end_lock : (s : ℕ) (o : Option Wanted) (x : TableNo) (m : LockMode) → after_end s o ≡ Some (Lock x m) → o ≡ Some (Lock x m)
end_lock s None x m is = is
end_lock s (Some (Lock t n)) x m is = is
end_lock s (Some (Others (Ends of))) x m is = absurd (cc)
end_lock s (Some (Others (Snapshots of))) x m is = absurd (cc)

snapshot_lock : (s : ℕ) (o : Option Wanted) (x : TableNo) (m : LockMode) → after_snapshot s o ≡ Some (Lock x m) → o ≡ Some (Lock x m)
snapshot_lock s None x m is = is
snapshot_lock s (Some (Lock t n)) x m is = is
snapshot_lock s (Some (Others (Ends of))) x m is = absurd (cc)
snapshot_lock s (Some (Others (Snapshots of))) x m is = absurd (cc)

none_left : (b : Bool) (o : Option Wanted) (w : Wanted) → (if b then None else o) ≡ Some w → o ≡ Some w
none_left true o w is = absurd (cc)
none_left false o w is = is

new_or_old : (b : Bool) (v : Wanted) (o : Option Wanted) (w : Wanted) → (if b then Some v else o) ≡ Some w → ((b ≡ true) × (v ≡ w)) ⊎ (o ≡ Some w)
new_or_old true v o w is = inl (refl, cc)
new_or_old false v o w is = inr is

known_at : (h : History) (s a x y : ℕ) → (s == a) ≡ true → y ≡ x → IsKnown (tx_events h) (catalogue_events h) s y → IsKnown (tx_events h) (catalogue_events h) a x
known_at h s a x y same at known =
    let e : s ≡ a = grind (arith, nat_tests, same) in
    subst (λ z. IsKnown (tx_events h) (catalogue_events h) z x) e (subst (λ z. IsKnown (tx_events h) (catalogue_events h) s z) at known)

-- what is held after the event is known, where what was held and awaited before it was
held_known : (e : LockEvent) (h : History) → IsPermitted (LockChange e) h → LocksApart (tx_events h) (catalogue_events h) (lock_events h) → (a x : ℕ) (m : LockMode) → holds (e ∷ lock_events h) a x m ≡ true → IsKnown (tx_events h) (catalogue_events h) a x
held_known (LockGot s t n) h may apart a x m is = elim (or_cases ((s == a) && ((t == x) && same_mode n m)) (holds (lock_events h) a x m) is) [
  | inr old ↦ apart.known a x m old
  | inl new ↦
      let parts = and_parts (s == a) ((t == x) && same_mode n m) new in
      let table = (and_parts (t == x) (same_mode n m) parts.1).0 in
      known_at h s a x t parts.0 (grind (arith, nat_tests, table)) may
]
held_known (LocksGivenUp s) h may apart a x m is = apart.known a x m (and_parts (not (s == a)) (holds (lock_events h) a x m) is).1
held_known (SnapshotGone s) h may apart a x m is = apart.known a x m is
held_known (WaitBegan s w) h may apart a x m is = apart.known a x m is
held_known (WaitResumed s) h may apart a x m is = elim (or_cases ((s == a) && is_lock x m (wanted (lock_events h) s)) (holds (lock_events h) a x m) is) [
  | inr old ↦ apart.known a x m old
  | inl new ↦
      let parts = and_parts (s == a) (is_lock x m (wanted (lock_events h) s)) new in
      let its = lock_is x m (wanted (lock_events h) s) parts.1 in
      known_at h s a x its.0.number parts.0 its.3 (apart.awaited s its.0 its.1 its.2)
]
held_known (WaitWithdrawn s) h may apart a x m is = apart.known a x m is

began_known : (h : History) (s : ℕ) (w : Wanted) (x : TableNo) (m : LockMode) → IsPermitted (LockChange (WaitBegan s w)) h → w ≡ Lock x m → IsKnown (tx_events h) (catalogue_events h) s x.number
began_known h s (Lock t n) x m may is =
    let e : t ≡ x = cc in
    subst (λ (z : TableNo). IsKnown (tx_events h) (catalogue_events h) s z.number) e may
began_known h s (Others what) x m may is = absurd (cc)

awaited_known : (e : LockEvent) (h : History) → IsPermitted (LockChange e) h → LocksApart (tx_events h) (catalogue_events h) (lock_events h) → (a : ℕ) (x : TableNo) (m : LockMode) → wanted (e ∷ lock_events h) a ≡ Some (Lock x m) → IsKnown (tx_events h) (catalogue_events h) a x.number
awaited_known (LockGot s t n) h may apart a x m is = apart.awaited a x m is
awaited_known (LocksGivenUp s) h may apart a x m is = apart.awaited a x m (end_lock s (wanted (lock_events h) a) x m is)
awaited_known (SnapshotGone s) h may apart a x m is = apart.awaited a x m (snapshot_lock s (wanted (lock_events h) a) x m is)
awaited_known (WaitBegan s w) h may apart a x m is = elim (new_or_old (s == a) w (wanted (lock_events h) a) (Lock x m) is) [
  | inl new ↦ known_at h s a x.number x.number new.0 refl (began_known h s w x m may new.1)
  | inr old ↦ apart.awaited a x m old
]
awaited_known (WaitResumed s) h may apart a x m is = apart.awaited a x m (none_left (s == a) (wanted (lock_events h) a) (Lock x m) is)
awaited_known (WaitWithdrawn s) h may apart a x m is = apart.awaited a x m (none_left (s == a) (wanted (lock_events h) a) (Lock x m) is)

not_given_up : (txs : TxEvents) (s a q : ℕ) → open_of txs s ≡ None → open_of txs a ≡ Some q → not (s == a) ≡ true
not_given_up txs s a q closed opened = elim (cases_Bool (s == a)) [
  | inl same ↦
      let e : s ≡ a = grind (arith, nat_tests, same) in
      let both : None ≡ Some q = sym closed ∙ (ap (open_of txs) e ∙ opened) in
      absurd (cc)
  | inr other ↦ rw other refl
]

pub event_keeps_held : (e : LockEvent) (h : History) → IsPermitted (LockChange e) h → Keeps (tx_events h) (lock_events h) (e ∷ lock_events h)
event_keeps_held (LockGot s t n) h may a q x m opened held = or_right ((s == a) && ((t == x) && same_mode n m)) (holds (lock_events h) a x m) held
event_keeps_held (LocksGivenUp s) h may a q x m opened held = let stays = not_given_up (tx_events h) s a q may opened in rw (stays, held) refl
event_keeps_held (SnapshotGone s) h may a q x m opened held = held
event_keeps_held (WaitBegan s w) h may a q x m opened held = held
event_keeps_held (WaitResumed s) h may a q x m opened held = or_right ((s == a) && is_lock x m (wanted (lock_events h) s)) (holds (lock_events h) a x m) held
event_keeps_held (WaitWithdrawn s) h may a q x m opened held = held

pub lock_keeps : (e : LockEvent) (h : History) → IsLockSound e (lock_events h) → AreLocksSound (lock_events h) → IsPermitted (LockChange e) h → InvariantOf h
    → Invariant (tx_events h) (snapshot_events h) (row_events h) (catalogue_events h) (e ∷ lock_events h)
lock_keeps e h sound before may i = locks_keep h (e ∷ lock_events h) (event_keeps_held e h may) (record {
  apart = none_conflict (e ∷ lock_events h) (sound, before);
  known = held_known e h may i.locks_apart;
  awaited = awaited_known e h may i.locks_apart;
}) i
