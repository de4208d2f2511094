-- Events of transactions only take worlds away.
use Rattle.std.proofs.Common.{◌≡◌, ℕ, ◌<◌, ◌||◌, ◌&&◌, nat_lt, arith, Bool, true, false, ◌∷◌, inl, inr, refl, ap, sym, subst, ◌∙◌, ◌==◌, if◌then◌else◌, Option, Some, None}
use Rattle.std.proofs.lemmas.Grind.{common_steps}
use Rattle.std.proofs.lemmas.Bool.Decides.{nat_tests}
use Rattle.history.specs.declared.transaction.Fate.TheVariants.{Running, Committed, Aborted}
use Rattle.history.specs.declared.version.Version.{Version}
use Rattle.history.specs.Transactions.{TxEvents, TxEvent, TxBegan, TxCommitted, TxAborted, next_tx, open_of, fate, is_committed, IsSound}
use Rattle.history.specs.Snapshots.{SnapshotEvents}
use Rattle.history.specs.Rows.{RowEvents}
use Rattle.soundness.specs.Versions.{IsVersion}
use Rattle.history.specs.Catalogue.{CatalogueEvents}
use Rattle.history.specs.Locks.{LockEvents}
use Rattle.pg_values.specs.declared.lock_mode.LockMode.{LockMode}
use Rattle.pg_values.specs.declared.lock_mode.LockMode.TheVariants.{RowExclusive, ShareUpdateExclusive, AccessExclusive}
use Rattle.soundness.specs.Worlds.{World, same_tx, IsWorld, IsPart, table_in}
use Rattle.soundness.specs.Shown.{MayShow}
use Rattle.soundness.proofs.Worlds.{runs_too}
use Rattle.soundness.specs.Parts.{AreBegun, HoldsBy, IsKnown, OwnsBy, WritesBy, GuardsBy, Owns, Writes, Guards, Invariant}

-- all that the invariant needs of an event of transactions: no world is new, and no transaction runs anew
pub record Shrinks (old new : TxEvents) : Type 0 where
  pub worlds : (w : World) → IsWorld new w → IsWorld old w
  pub runs : (t : ℕ) → fate new t ≡ Running → fate old t ≡ Running
  pub opens : (s t : ℕ) → fate new t ≡ Running → open_of old s ≡ Some t → open_of new s ≡ Some t
  pub begun : (t : ℕ) → t < next_tx old → t < next_tx new
  pub same : (t k : ℕ) → same_tx old t k ≡ true → same_tx new t k ≡ true
  pub same_old : (t k : ℕ) → t < next_tx old → k < next_tx old → same_tx new t k ≡ true → same_tx old t k ≡ true

pub committed_stays : (e : TxEvent) (h : TxEvents) (t : ℕ) → IsSound (e ∷ h) → fate h t ≡ Committed → fate (e ∷ h) t ≡ Committed
committed_stays (TxBegan s u) h t sound is = is
committed_stays (TxCommitted s u) h t sound is = grind (arith, common_steps, nat_tests, sound.0)
committed_stays (TxAborted s u) h t sound is = grind (arith, common_steps, nat_tests, sound.0)

aborted_stays : (e : TxEvent) (h : TxEvents) (t : ℕ) → fate h t ≡ Aborted → fate (e ∷ h) t ≡ Aborted
aborted_stays (TxBegan s u) h t is = is
aborted_stays (TxCommitted s u) h t is = grind (arith, common_steps)
aborted_stays (TxAborted s u) h t is = grind (arith, common_steps)

ran_before : (e : TxEvent) (h : TxEvents) (t : ℕ) → fate (e ∷ h) t ≡ Running → fate h t ≡ Running
ran_before (TxBegan s u) h t is = is
ran_before (TxCommitted s u) h t is = grind (arith, common_steps)
ran_before (TxAborted s u) h t is = grind (arith, common_steps)

begun_stays : (e : TxEvent) (h : TxEvents) (t : ℕ) → t < next_tx h → t < next_tx (e ∷ h)
begun_stays (TxBegan s u) h t lt = omega (arith, lt)
begun_stays (TxCommitted s u) h t lt = lt
begun_stays (TxAborted s u) h t lt = lt

-- what is open and runs on stays open
opens_by : (b : Bool) (o : Option ℕ) (n t : ℕ) → (b ≡ true → ⊥) → o ≡ Some t → (if b then Some n else o) ≡ Some t
opens_by true o n t never is = absurd (never refl)
opens_by false o n t never is = is

closes_by : (b : Bool) (o : Option ℕ) (t : ℕ) → (b ≡ true → ⊥) → o ≡ Some t → (if b then None else o) ≡ Some t
closes_by true o t never is = absurd (never refl)
closes_by false o t never is = is

none_open : (h : TxEvents) (r s t : ℕ) → open_of h r ≡ None → open_of h s ≡ Some t → (r == s) ≡ true → ⊥
none_open h r s t none is same =
    let e : r ≡ s = grind (arith, nat_tests) in
    let both : None ≡ Some t = sym none ∙ (ap (open_of h) e ∙ is) in
    cc

its_own : (h : TxEvents) (r s n t : ℕ) → open_of h r ≡ Some n → open_of h s ≡ Some t → (r == s) ≡ true → n ≡ t
its_own h r s n t own is same =
    let e : r ≡ s = grind (arith, nat_tests) in
    let both : Some n ≡ Some t = sym own ∙ (ap (open_of h) e ∙ is) in
    cc

not_committed : (h : TxEvents) (r n : ℕ) → fate h n ≡ Running → fate (TxCommitted r n ∷ h) n ≡ Running → ⊥
not_committed h r n was is =
    let now : fate (TxCommitted r n ∷ h) n ≡ Committed = grind (arith, common_steps, nat_tests, was) in
    let both : Committed ≡ Running = sym now ∙ is in
    cc

not_aborted : (h : TxEvents) (r n : ℕ) → fate (TxAborted r n ∷ h) n ≡ Running → ⊥
not_aborted h r n is =
    let now : fate (TxAborted r n ∷ h) n ≡ Aborted = grind (arith, common_steps, nat_tests) in
    let both : Aborted ≡ Running = sym now ∙ is in
    cc

opens_stay : (e : TxEvent) (h : TxEvents) → IsSound (e ∷ h) → (s t : ℕ) → fate (e ∷ h) t ≡ Running → open_of h s ≡ Some t → open_of (e ∷ h) s ≡ Some t
opens_stay (TxBegan r n) h sound s t runs is = opens_by (r == s) (open_of h s) n t (none_open h r s t sound.1 is) is
opens_stay (TxCommitted r n) h sound s t runs is =
    closes_by (r == s) (open_of h s) t (λ same. let own = its_own h r s n t sound.1 is same in not_committed h r n sound.0 (ap (fate (TxCommitted r n ∷ h)) own ∙ runs)) is
opens_stay (TxAborted r n) h sound s t runs is =
    closes_by (r == s) (open_of h s) t (λ same. let own = its_own h r s n t sound.1 is same in not_aborted h r n (ap (fate (TxAborted r n ∷ h)) own ∙ runs)) is

same_stays : (e : TxEvent) (h : TxEvents) (t k : ℕ) → same_tx h t k ≡ same_tx (e ∷ h) t k
unfolding same_tx
same_stays e h t k = refl

pub shrinks : (e : TxEvent) (h : TxEvents) → IsSound (e ∷ h) → Shrinks h (e ∷ h)
shrinks e h sound = record {
  worlds = λ w world. record {
    committed = λ t is. world.committed t (committed_stays e h t sound is);
    aborted = λ t is. world.aborted t (aborted_stays e h t is);
  };
  runs = ran_before e h;
  opens = opens_stay e h sound;
  begun = begun_stays e h;
  same = λ t k is. sym (same_stays e h t k) ∙ is;
  same_old = λ t k bt bk is. same_stays e h t k ∙ is;
}

holds_after : (old new : TxEvents) (locks : LockEvents) (q x : ℕ) (m : LockMode) → Shrinks old new → fate new q ≡ Running → HoldsBy old locks q x m → HoldsBy new locks q x m
holds_after old new locks q x m less runs (s, opened, held) = (s, less.opens s q runs opened, held)

own_after : (old new : TxEvents) (cats : CatalogueEvents) (locks : LockEvents) (q x : ℕ) → Shrinks old new → fate new q ≡ Running → OwnsBy old cats locks q x → OwnsBy new cats locks q x
own_after old new cats locks q x less runs (inl l) = inl (holds_after old new locks q x AccessExclusive less runs l)
own_after old new cats locks q x less runs (inr made) = inr made

write_after : (old new : TxEvents) (cats : CatalogueEvents) (locks : LockEvents) (q x : ℕ) → Shrinks old new → fate new q ≡ Running → WritesBy old cats locks q x → WritesBy new cats locks q x
write_after old new cats locks q x less runs (inl l) = inl (holds_after old new locks q x RowExclusive less runs l)
write_after old new cats locks q x less runs (inr o) = inr (own_after old new cats locks q x less runs o)

guard_after : (old new : TxEvents) (cats : CatalogueEvents) (locks : LockEvents) (q x : ℕ) → Shrinks old new → fate new q ≡ Running → GuardsBy old cats locks q x → GuardsBy new cats locks q x
guard_after old new cats locks q x less runs (inl l) = inl (holds_after old new locks q x ShareUpdateExclusive less runs l)
guard_after old new cats locks q x less runs (inr o) = inr (own_after old new cats locks q x less runs o)

pub owns_after : (old new : TxEvents) (cats : CatalogueEvents) (locks : LockEvents) (w : World) (t x : ℕ) → Shrinks old new → IsWorld new w → fate new t ≡ Running → Owns old cats locks w t x → Owns new cats locks w t x
owns_after old new cats locks w t x less world runs (q, s, c, o) =
    let same = less.same t q s in (q, same, c, own_after old new cats locks q x less (runs_too new w t q world runs same c) o)

writes_after : (old new : TxEvents) (cats : CatalogueEvents) (locks : LockEvents) (w : World) (t x : ℕ) → Shrinks old new → IsWorld new w → fate new t ≡ Running → Writes old cats locks w t x → Writes new cats locks w t x
writes_after old new cats locks w t x less world runs (q, s, c, o) =
    let same = less.same t q s in (q, same, c, write_after old new cats locks q x less (runs_too new w t q world runs same c) o)

pub guards_after : (old new : TxEvents) (cats : CatalogueEvents) (locks : LockEvents) (w : World) (t x : ℕ) → Shrinks old new → IsWorld new w → fate new t ≡ Running → Guards old cats locks w t x → Guards new cats locks w t x
guards_after old new cats locks w t x less world runs (q, s, c, o) =
    let same = less.same t q s in (q, same, c, guard_after old new cats locks q x less (runs_too new w t q world runs same c) o)

known_after : (old new : TxEvents) (cats : CatalogueEvents) (s x : ℕ) → Shrinks old new → IsKnown old cats s x → IsKnown new cats s x
known_after old new cats s x less (made, own) = (made, λ runs. less.opens s (table_in cats x).by.number runs (own (less.runs (table_in cats x).by.number runs)))

part_before : (old new : TxEvents) (k w : World) → Shrinks old new → IsPart new k w → IsPart old k w
part_before old new k w less part = record { within = part.within; whole = λ t u same. part.whole t u (less.same t u same) }

sees_birth : (a b c d e : Bool) → (b ≡ true → e ≡ true) → (a || (b && (c && d))) ≡ true → (a || (e && (c && d))) ≡ true
sees_birth a true c d e to is = rw (to refl) is
sees_birth a false c d e to is = grind (arith, common_steps)

sees_end : (a b c d e : Bool) → (e ≡ true → b ≡ true) → (a || (b && (c && d))) ≡ false → (a || (e && (c && d))) ≡ false
sees_end a b c d true to is = subst (λ z. (a || (z && (c && d))) ≡ false) (to refl) is
sees_end a b c d false to is = grind (arith, common_steps)

-- what may be shown after the event could be before
pub shows_before : (old new : TxEvents) (snaps : SnapshotEvents) (rows : RowEvents) (w : World) (v : Version) → Shrinks old new → AreBegun old snaps rows → IsVersion rows v → MayShow new snaps rows w v → MayShow old snaps rows w v
shows_before old new snaps rows w v less begun is (counts, inl (k, world, part, shows)) = (counts, inl (k, less.worlds k world, part_before old new k w less part, shows))
shows_before old new snaps rows w v less begun is (counts, inr (r, s, held, shows)) = (
  counts,
  inr (
    r,
    s,
    held,
    (
      sees_birth (is_committed (fate s.past v.by.number)) (same_tx new s.tx v.by.number) (w v.by.number) (nat_lt v.cmd s.cmd) (same_tx old s.tx v.by.number)
          (less.same_old s.tx v.by.number (begun.snapshots r s held) (begun.versions v is)) shows.0,
      λ x end. sees_end (is_committed (fate s.past x.by.number)) (same_tx new s.tx x.by.number) (w x.by.number) (nat_lt x.cmd s.cmd) (same_tx old s.tx x.by.number) (less.same s.tx x.by.number) (shows.1 x end),
    ),
  ),
)

-- so each part stays
pub tx_keeps : (old new : TxEvents) (snaps : SnapshotEvents) (rows : RowEvents) (cats : CatalogueEvents) (locks : LockEvents) → Shrinks old new → Invariant old snaps rows cats locks → Invariant new snaps rows cats locks
tx_keeps old new snaps rows cats locks less i =
    let owns = λ (w : World) (t x : ℕ) (world : IsWorld new w) (runs : fate new t ≡ Running) (o : Owns old cats locks w t x). owns_after old new cats locks w t x less world runs o in
    let writes = λ (w : World) (t x : ℕ) (world : IsWorld new w) (runs : fate new t ≡ Running) (o : Writes old cats locks w t x). writes_after old new cats locks w t x less world runs o in
    let guards = λ (w : World) (t x : ℕ) (world : IsWorld new w) (runs : fate new t ≡ Running) (o : Guards old cats locks w t x). guards_after old new cats locks w t x less world runs o in
    record {
      begun = record { versions = λ v is. less.begun v.by.number (i.begun.versions v is); snapshots = λ r s held. less.begun s.tx (i.begun.snapshots r s held) };
      locks_apart = record {
        apart = i.locks_apart.apart;
        known = λ s x m held. known_after old new cats s x less (i.locks_apart.known s x m held);
        awaited = λ s x m waits. known_after old new cats s x.number less (i.locks_apart.awaited s x m waits);
      };
      open_versions = record {
        born = λ w v x world is at runs own. writes w v.by.number x world runs (i.open_versions.born w v x (less.worlds w world) is at (less.runs v.by.number runs) own);
        ended = λ w v y x world is at end runs own. writes w y.by.number x world runs (i.open_versions.ended w v y x (less.worlds w world) is at end (less.runs y.by.number runs) own);
        in_order = λ w v y world. i.open_versions.in_order w v y (less.worlds w world);
      };
      open_entries = record {
        added = λ w e world is runs own. guards w e.by.number e.parent.number world runs (i.open_entries.added w e (less.worlds w world) is (less.runs e.by.number runs) own);
        below = λ w e n x world is runs own low. owns w e.by.number x world runs (i.open_entries.below w e n x (less.worlds w world) is (less.runs e.by.number runs) own low);
        beside = λ w e d n x world is runs own p same by_default low. owns w e.by.number x world runs (i.open_entries.beside w e d n x (less.worlds w world) is (less.runs e.by.number runs) own p same by_default low);
        ended = λ w e u world is end runs own. guards w u e.parent.number world runs (i.open_entries.ended w e u (less.worlds w world) is end (less.runs u runs) own);
        marked = λ w e u world is mark runs own. guards w u e.parent.number world runs (i.open_entries.marked w e u (less.worlds w world) is mark (less.runs u runs) own);
        dropped = λ w x u world is runs own. owns w u x world runs (i.open_entries.dropped w x u (less.worlds w world) is (less.runs u runs) own);
      };
      tables = i.tables;
      entries = i.entries;
      siblings = λ w world. i.siblings w (less.worlds w world);
      fit = λ w v world is shows. i.fit w v (less.worlds w world) is (shows_before old new snaps rows w v less i.begun is shows);
    }
