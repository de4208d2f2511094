-- What a snapshot shows of a version is what it sees, and so of one that is held.
use Rattle.std.proofs.Common.{◌≡◌, ◌&&◌, not, ap, ◌∙◌, refl, Option, Some, None, true, false, Bool, if◌then◌else◌, inl, inr, slice_index_or}
use Rattle.std.proofs.lemmas.Bool.{cases_Bool}
use Rattle.history.specs.declared.transaction.Fate.TheVariants.{Running, Committed, Aborted}
use Rattle.history.specs.declared.version.End.{End}
use Rattle.history.specs.Transactions.{was_aborted, IsPast}
use Rattle.history.specs.Snapshots.{TakenSnapshot, sees}
use Rattle.history.specs.Rows.{counted}
use Rattle.history.specs.History.{History, tx_events, snapshot_events, end_of, sees_end}
use Rattle.history.specs.Dead.{sees_if_held}
use Rattle.tx_table.specs.Kept.{KeptTable, KeptSnapshot}
use Rattle.tx_table.specs.Stands.{TableStands, HeldStands, SnapshotStands}
use Rattle.tx_table.proofs.Tables.{sees_is}
use Rattle.row_store.specs.declared.stored.Stored.{Stored}
use Rattle.row_store.specs.Stands.{counts, sees_end_by, shows_by}
use Rattle.row_store.specs.Judged.{shows_if_held}

pub counts_running_or_committed : (b : Bool) → counts (if b then Committed else Running) ≡ true
counts_running_or_committed true = refl
counts_running_or_committed false = refl

sees_end_is : (table : KeptTable) (ks : KeptSnapshot) (h : History) (s : TakenSnapshot) (o : Option End) → TableStands table h → IsPast s.past (tx_events h) → SnapshotStands ks s → sees_end_by table ks o ≡ sees_end (tx_events h) s (counted (tx_events h) o)
sees_end_is table ks h s None st past snap = refl
sees_end_is table ks h s (Some e) st past snap =
    let b = sees_is table ks (tx_events h) (snapshot_events h) s e.by.number e.cmd st past snap in
    elim (cases_Bool (was_aborted (tx_events h) e.by.number)) [
      | inl was ↦ let f : slice_index_or table.fates e.by.number Running ≡ Aborted = st.fates e.by.number ∙ rw was refl in rw (f, was) refl
      | inr lives ↦
          let c : counts (slice_index_or table.fates e.by.number Running) ≡ true = ap counts (st.fates e.by.number) ∙ rw lives (counts_running_or_committed _) in
          rw (c, lives) b
    ]

pub shows_is : (table : KeptTable) (ks : KeptSnapshot) (h : History) (s : TakenSnapshot) (x : Stored) → TableStands table h → IsPast s.past (tx_events h) → SnapshotStands ks s → shows_by table ks x ≡ (sees (tx_events h) s x.version.by.number x.version.cmd && not (sees_end (tx_events h) s (counted (tx_events h) x.ended)))
shows_is table ks h s x st past snap =
    let a = sees_is table ks (tx_events h) (snapshot_events h) s x.version.by.number x.version.cmd st past snap in
    let b = sees_end_is table ks h s x.ended st past snap in
    ap (λ y. y && not (sees_end_by table ks x.ended)) a ∙ ap (λ y. sees (tx_events h) s x.version.by.number x.version.cmd && not y) b

pub held_is : (table : KeptTable) (h : History) (x : Stored) (o : Option KeptSnapshot) (p : Option TakenSnapshot) → TableStands table h → HeldStands o p (tx_events h) → counted (tx_events h) x.ended ≡ end_of h x.version.id.number → shows_if_held table o x ≡ sees_if_held h p x.version
held_is table h x None None st held e = refl
held_is table h x None (Some s) st held e = absurd held
held_is table h x (Some k) None st held e = absurd held
held_is table h x (Some k) (Some s) st held e = shows_is table k h s x st held.1 held.0 ∙ ap (λ o. sees (tx_events h) s x.version.by.number x.version.cmd && not (sees_end (tx_events h) s o)) e
