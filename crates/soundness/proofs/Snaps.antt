-- A snapshot that is taken shows what was fit already; so does one that is renewed.
use Rattle.std.proofs.Common.{◌≡◌, ◌<◌, ℕ, ◌==◌, ◌||◌, ◌&&◌, nat_lt, arith, Bool, true, false, if◌then◌else◌, ◌∷◌, ◌⊎◌, inl, inr, refl, sym, subst, Option, Some, None}
use Rattle.std.proofs.lemmas.Grind.{common_steps}
use Rattle.std.proofs.lemmas.Bool.{cases_Bool}
use Rattle.history.specs.declared.transaction.Fate.TheVariants.{Running}
use Rattle.history.specs.declared.version.Version.{Version}
use Rattle.history.specs.declared.version.End.{End}
use Rattle.history.specs.Transactions.{TxEvents, next_tx, fate, is_committed, IsRunning}
use Rattle.history.specs.Snapshots.{SnapshotEvents, TakenSnapshot, SnapshotHeld, SnapshotDropped, held_by}
use Rattle.history.specs.Rows.{RowEvents}
use Rattle.history.specs.Legal.{IsTimely}
use Rattle.soundness.specs.Versions.{IsVersion, IsEnd}
use Rattle.history.specs.History.{History, tx_events, snapshot_events, row_events, catalogue_events, lock_events}
use Rattle.soundness.specs.Worlds.{World, same_tx, IsWorld}
use Rattle.soundness.specs.Shown.{MayShow, ShowsTo}
use Rattle.soundness.specs.Parts.{Invariant, InvariantOf}
use Rattle.soundness.proofs.Worlds.{together, committed_of, committed_only, committed_world, snapshot_world, own_world, own_part}

birth_in : (a b c d : Bool) → (a || (b && (c && d))) ≡ true → (a || (b && c)) ≡ true
birth_in a b c d is = grind (arith, common_steps)

end_out : (a b c d : Bool) → (b ≡ true → d ≡ true) → (a || (b && (c && d))) ≡ false → (a || (b && c)) ≡ false
end_out a true c d before is = grind (arith, common_steps, before refl)
end_out a false c d before is = grind (arith, common_steps)

end_own_out : (a b c d : Bool) → (b ≡ true → d ≡ true) → (a || (b && (c && d))) ≡ false → (b && c) ≡ false
end_own_out a true c d before is = grind (arith, common_steps, before refl)
end_own_out a false c d before is = refl

first_out : (a b : Bool) → (a || b) ≡ false → a ≡ false
first_out a b is = grind (arith, common_steps)

-- its own ends come before its command
abbrev pub ComesBefore : TxEvents → RowEvents → TakenSnapshot → Type 0
ComesBefore txs rows s = (k : ℕ) (x : End) → IsEnd rows k x → same_tx txs s.tx x.by.number ≡ true → nat_lt x.cmd s.cmd ≡ true

taken_now : (txs : TxEvents) (snaps : SnapshotEvents) (rows : RowEvents) (w : World) (s : TakenSnapshot) (v : Version) → IsWorld txs w → ComesBefore txs rows s → s.past ≡ txs → w v.by.number ≡ true → ShowsTo txs rows w s v → MayShow txs snaps rows w v
taken_now txs snaps rows w s v world before now counts shows =
    let born : (is_committed (fate txs v.by.number) || (same_tx txs s.tx v.by.number && (w v.by.number && nat_lt v.cmd s.cmd))) ≡ true = subst (λ p. (is_committed (fate p v.by.number) || (same_tx txs s.tx v.by.number && (w v.by.number && nat_lt v.cmd s.cmd))) ≡ true) now shows.0 in (
      counts,
      inl (
        snapshot_world txs s.tx w,
        own_world txs s.tx w world,
        own_part txs s.tx w world,
        (
          birth_in (is_committed (fate txs v.by.number)) (same_tx txs s.tx v.by.number) (w v.by.number) (nat_lt v.cmd s.cmd) born,
          λ x is.
              let late : (is_committed (fate txs x.by.number) || (same_tx txs s.tx x.by.number && (w x.by.number && nat_lt x.cmd s.cmd))) ≡ false = subst (λ p. (is_committed (fate p x.by.number) || (same_tx txs s.tx x.by.number && (w x.by.number && nat_lt x.cmd s.cmd))) ≡ false) now (shows.1 x is) in
              end_out (is_committed (fate txs x.by.number)) (same_tx txs s.tx x.by.number) (w x.by.number) (nat_lt x.cmd s.cmd) (before v.id.number x is) late,
        ),
      ),
    )

-- of a version that the own transaction made no end is committed
own_unended : (txs : TxEvents) (rows : RowEvents) (s : TakenSnapshot) (v : Version) (x : End)
    → ((w : World) (v : Version) (x : End) → IsWorld txs w → IsVersion rows v → IsEnd rows v.id.number x → w x.by.number ≡ true → w v.by.number ≡ true)
    → fate txs s.tx ≡ Running → IsVersion rows v → IsEnd rows v.id.number x → same_tx txs s.tx v.by.number ≡ true → is_committed (fate txs x.by.number) ≡ false
own_unended txs rows s v x in_order runs is end own = elim (cases_Bool (is_committed (fate txs x.by.number))) [
  | inl y ↦ absurd (together txs s.tx v.by.number runs own (committed_of (fate txs v.by.number) (in_order (committed_only txs) v x (committed_world txs) is end y)))
  | inr n ↦ n
]

pub or_cases : (a b : Bool) → (a || b) ≡ true → (a ≡ true) ⊎ (b ≡ true)
or_cases true b is = inl refl
or_cases false b is = inr is

renewed : (txs : TxEvents) (snaps : SnapshotEvents) (rows : RowEvents) (w : World) (r : ℕ) (old s : TakenSnapshot) (v : Version)
    → ((w : World) (v : Version) (x : End) → IsWorld txs w → IsVersion rows v → IsEnd rows v.id.number x → w x.by.number ≡ true → w v.by.number ≡ true)
    → IsWorld txs w → ComesBefore txs rows s → fate txs s.tx ≡ Running → held_by snaps r ≡ Some old → s.past ≡ old.past → s.tx ≡ old.tx → IsVersion rows v → w v.by.number ≡ true → ShowsTo txs rows w s v → MayShow txs snaps rows w v
renewed txs snaps rows w r old s v in_order world before runs holds past own is counts shows =
    elim (or_cases (is_committed (fate s.past v.by.number)) (same_tx txs s.tx v.by.number && (w v.by.number && nat_lt v.cmd s.cmd)) shows.0) [
      | inl born ↦
          let at_old : is_committed (fate old.past v.by.number) ≡ true = subst (λ p. is_committed (fate p v.by.number) ≡ true) past born in (
            counts,
            inr (
              r,
              old,
              holds,
              (
                rw at_old refl,
                λ x end.
                    let a : is_committed (fate s.past x.by.number) ≡ false = first_out (is_committed (fate s.past x.by.number)) _ (shows.1 x end) in
                    let b : is_committed (fate old.past x.by.number) ≡ false = subst (λ p. is_committed (fate p x.by.number) ≡ false) past a in
                    let c : (same_tx txs s.tx x.by.number && w x.by.number) ≡ false = end_own_out (is_committed (fate s.past x.by.number)) (same_tx txs s.tx x.by.number) (w x.by.number) (nat_lt x.cmd s.cmd) (before v.id.number x end) (shows.1 x end) in
                    let d : (same_tx txs old.tx x.by.number && w x.by.number) ≡ false = subst (λ t. (same_tx txs t x.by.number && w x.by.number) ≡ false) own c in
                    grind (arith, common_steps, b, d),
              ),
            ),
          )
      | inr mine ↦
          let me : same_tx txs s.tx v.by.number ≡ true = grind (arith, common_steps, mine) in (
            counts,
            inl (
              snapshot_world txs s.tx w,
              own_world txs s.tx w world,
              own_part txs s.tx w world,
              (
                grind (arith, common_steps, me, counts),
                λ x end.
                    let c : (same_tx txs s.tx x.by.number && w x.by.number) ≡ false = end_own_out (is_committed (fate s.past x.by.number)) (same_tx txs s.tx x.by.number) (w x.by.number) (nat_lt x.cmd s.cmd) (before v.id.number x end) (shows.1 x end) in
                    rw (own_unended txs rows s v x in_order runs is end me) c,
              ),
            ),
          )
    ]

pub either : (b : Bool) (new : TakenSnapshot) (old : Option TakenSnapshot) (x : TakenSnapshot) → (if b then Some new else old) ≡ Some x → (new ≡ x) ⊎ (old ≡ Some x)
either true new old x e = inl (cc)
either false new old x e = inr e

pub other_left : (b : Bool) (old : Option TakenSnapshot) (x : TakenSnapshot) → (if b then None else old) ≡ Some x → old ≡ Some x
other_left true old x e = absurd (cc)
other_left false old x e = e

-- what is asked of a snapshot that is held
pub record IsTaken (h : History) (r : ℕ) (s : TakenSnapshot) : Type 0 where
  pub own : IsRunning (tx_events h) s.tx
  pub timely : IsTimely (held_by (snapshot_events h) r) (tx_events h) s
  pub before_changes : ComesBefore (tx_events h) (row_events h) s

pub held_new : (h : History) (r : ℕ) (s : TakenSnapshot) (w : World) (v : Version) (o : Option TakenSnapshot) → held_by (snapshot_events h) r ≡ o → IsTimely o (tx_events h) s → IsTaken h r s → InvariantOf h → IsWorld (tx_events h) w → IsVersion (row_events h) v → w v.by.number ≡ true → ShowsTo (tx_events h) (row_events h) w s v → MayShow (tx_events h) (snapshot_events h) (row_events h) w v
held_new h r s w v None at now may i world is counts shows = taken_now (tx_events h) (snapshot_events h) (row_events h) w s v world may.before_changes now counts shows
held_new h r s w v (Some old) at (inl now) may i world is counts shows = taken_now (tx_events h) (snapshot_events h) (row_events h) w s v world may.before_changes now counts shows
held_new h r s w v (Some old) at (inr same) may i world is counts shows = renewed (tx_events h) (snapshot_events h) (row_events h) w r old s v i.open_versions.in_order world may.before_changes may.own.runs at same.0 same.1 is counts shows

pub held_shows : (h : History) (r : ℕ) (s : TakenSnapshot) (w : World) (v : Version) → IsTaken h r s → InvariantOf h → IsWorld (tx_events h) w → IsVersion (row_events h) v
    → MayShow (tx_events h) (SnapshotHeld r s ∷ snapshot_events h) (row_events h) w v → MayShow (tx_events h) (snapshot_events h) (row_events h) w v
held_shows h r s w v may i world is (counts, inl fresh) = (counts, inl fresh)
held_shows h r s w v may i world is (counts, inr one) = elim (either (r == one.0) s (held_by (snapshot_events h) one.0) one.1 one.2) [
  | inl same ↦ held_new h r s w v _ refl may.timely may i world is counts (subst (λ (y : TakenSnapshot). ShowsTo (tx_events h) (row_events h) w y v) (sym same) one.3)
  | inr old ↦ (counts, inr (one.0, one.1, old, one.3))
]

pub dropped_shows : (h : History) (r : ℕ) (w : World) (v : Version) → MayShow (tx_events h) (SnapshotDropped r ∷ snapshot_events h) (row_events h) w v → MayShow (tx_events h) (snapshot_events h) (row_events h) w v
dropped_shows h r w v (counts, inl fresh) = (counts, inl fresh)
dropped_shows h r w v (counts, inr one) = (counts, inr (one.0, one.1, other_left (r == one.0) (held_by (snapshot_events h) one.0) one.1 one.2, one.3))

pub held_keeps : (h : History) (r : ℕ) (s : TakenSnapshot) → IsTaken h r s → InvariantOf h → Invariant (tx_events h) (SnapshotHeld r s ∷ snapshot_events h) (row_events h) (catalogue_events h) (lock_events h)
held_keeps h r s may i = record {
  begun = record {
    versions = i.begun.versions;
    snapshots = λ q x held. elim (either (r == q) s (held_by (snapshot_events h) q) x held) [
      | inl same ↦ subst (λ (y : TakenSnapshot). y.tx < next_tx (tx_events h)) same may.own.begun
      | inr old ↦ i.begun.snapshots q x old
    ];
  };
  locks_apart = i.locks_apart;
  open_versions = i.open_versions;
  open_entries = i.open_entries;
  tables = i.tables;
  entries = i.entries;
  siblings = i.siblings;
  fit = λ w v world is shows. i.fit w v world is (held_shows h r s w v may i world is shows);
}

pub dropped_keeps : (h : History) (r : ℕ) → InvariantOf h → Invariant (tx_events h) (SnapshotDropped r ∷ snapshot_events h) (row_events h) (catalogue_events h) (lock_events h)
dropped_keeps h r i = record {
  begun = record { versions = i.begun.versions; snapshots = λ q x held. i.begun.snapshots q x (other_left (r == q) (held_by (snapshot_events h) q) x held) };
  locks_apart = i.locks_apart;
  open_versions = i.open_versions;
  open_entries = i.open_entries;
  tables = i.tables;
  entries = i.entries;
  siblings = i.siblings;
  fit = λ w v world is shows. i.fit w v world is (dropped_shows h r w v shows);
}
