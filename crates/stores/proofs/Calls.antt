-- After a call all four stores stand for the history with the call's events, and it stays a good one.
use Rattle.std.proofs.Common.{◌≡◌, ◌≤◌, ℕ, false, true, [], ◌∷◌, ◌++◌, refl, sym, ap, subst, ◌∙◌, Option, Some, None, unwrap_or, Result, Ok, Err, IfOk, OnOk, IsSome, length, slice_index_or, slice_set}
use Rattle.history.specs.declared.wait.Wanted.{Wanted}
use Rattle.history.specs.declared.wait.Wanted.TheVariants.{Lock, Others}
use Rattle.history.specs.declared.transaction.Fate.{Fate}
use Rattle.history.specs.declared.transaction.TxId.{TxId}
use Rattle.history.specs.Transactions.{TxEvents, TxEvent, TxBegan, next_tx, open_of, session_of, IsPast}
use Rattle.history.specs.Snapshots.{SnapshotEvent, TakenSnapshot, SnapshotHeld, SnapshotDropped, held_by}
use Rattle.history.specs.Locks.{LockEvent, LockGot, LocksGivenUp, SnapshotGone, WaitBegan}
use Rattle.history.specs.History.{History, TxChange, SnapshotChange, LockChange, tx_events, snapshot_events, held_or_fresh}
use Rattle.history.specs.declared.version.Version.{Version}
use Rattle.history.specs.Legal.{IsHoldSound}
use Rattle.history.specs.Dead.{IsDead, MayRead}
use Rattle.history.proofs.Dead.{dead_after_tx, dead_after_hold, dead_after_drop}
use Rattle.history.proofs.Open.{open_own}
use Rattle.tx_table.specs.Kept.{KeptTable, KeptSnapshot, after_hold}
use Rattle.tx_table.specs.Stands.{TableStands, SnapshotStands, HeldStands, after_end}
use Rattle.lock_table.specs.declared.asked.Asked.{Asked}
use Rattle.lock_table.specs.declared.asked.Asked.TheVariants.{Granted, Waits, Deadlock}
use Rattle.lock_table.specs.Answers.{after}
use Rattle.lock_table.specs.Kept.{KeptLocks}
use Rattle.lock_table.specs.Stands.{TableStands as LocksStand}
use Rattle.stores.specs.declared.stores.Stores.{Stores}
use Rattle.stores.specs.Events.{tx_in, begun, let_go, withdrawn, ended, with_command, look_of, held_first, held}
use Rattle.stores.specs.Good.{IsGood}
use Rattle.stores.specs.Numbers.{IsAt}
use Rattle.stores.specs.Stand.{AllStand, Stands, Adds, AddsGood}
use Rattle.stores.proofs.Commands.{timely, look_is_read}
use Rattle.stores.proofs.Events.{tx_good, held_good}
use Rattle.stores.proofs.Standing.{rows_stand, catalogue_stands, catalogue_stays}

-- ---- an event of one store leaves the others as they are

after_tx : (old : Stores) (txs : KeptTable) (e : TxEvent) (h : History) → TableStands txs (TxChange e ∷ h) → AllStand old h → AllStand (record old { txs = txs }) (TxChange e ∷ h)
after_tx old txs e h new st = record {
  txs = new;
  rows = rows_stand old.rows h (TxChange e ∷ h) refl st.rows.sound (λ v dead. dead_after_tx e h v new.sound dead) st.rows;
  catalog = catalogue_stays old.catalog e h new.sound st.catalog;
  locks = st.locks;
}

after_snapshots : (old : Stores) (txs : KeptTable) (e : SnapshotEvent) (h : History) → ((v : Version) → IsDead h v → IsDead (SnapshotChange e ∷ h) v) → TableStands txs (SnapshotChange e ∷ h) → AllStand old h → AllStand (record old { txs = txs }) (SnapshotChange e ∷ h)
after_snapshots old txs e h dead new st = record {
  txs = new;
  rows = rows_stand old.rows h (SnapshotChange e ∷ h) refl st.rows.sound dead st.rows;
  catalog = catalogue_stands old.catalog h (SnapshotChange e ∷ h) refl refl st.catalog.sound st.catalog;
  locks = st.locks;
}

after_locks : (old : Stores) (locks : KeptLocks) (e : LockEvent) (h : History) → LocksStand locks (LockChange e ∷ h) → AllStand old h → AllStand (record old { locks = locks }) (LockChange e ∷ h)
after_locks old locks e h new st = record {
  txs = st.txs;
  rows = rows_stand old.rows h (LockChange e ∷ h) refl st.rows.sound (λ v dead. dead) st.rows;
  catalog = catalogue_stands old.catalog h (LockChange e ∷ h) refl refl st.catalog.sound st.catalog;
  locks = new;
}

-- ---- a transaction begins

pub begun_stand : (old : Stores) (txs : KeptTable) (s n : ℕ) → ((h : History) → TableStands old.txs h → TableStands txs (TxChange (TxBegan s n) ∷ h)) → ((h : History) → TableStands old.txs h → n ≡ next_tx (tx_events h))
    → (h : History) → AllStand old h → AllStand (record old { txs = txs }) (begun h s ++ h)
begun_stand old txs s n added number h st =
    after_tx old txs (TxBegan s (next_tx (tx_events h))) h (subst (λ (m : ℕ). TableStands txs (TxChange (TxBegan s m) ∷ h)) (number h st.txs) (added h st.txs)) st

begun_good : (new : Stores) (s : ℕ) (h : History) → AllStand new (begun h s ++ h) → IsGood h → new.rows.leaves ≤ length new.catalog.tables → Stands new (begun h s ++ h)
begun_good new s h st good leaves = record { all = st; good = tx_good (TxBegan s (next_tx (tx_events h))) h st.txs.sound tt good; leaves = leaves }

pub begun_adds : {E : Type 0} (old : Stores) (txs : KeptTable) (s : ℕ) (r : Result TxId E) → IfOk r (λ tx. (h : History) → TableStands old.txs h → TableStands txs (TxChange (TxBegan s tx.number) ∷ h)) → IfOk r (λ tx. (h : History) → TableStands old.txs h → tx.number ≡ next_tx (tx_events h))
    → OnOk r (Adds old (record old { txs = txs }) (λ h. begun h s))
begun_adds old txs s (Ok tx) added number = begun_stand old txs s tx.number added number
begun_adds old txs s (Err e) added number = tt

pub begun_adds_good : {E : Type 0} (old : Stores) (txs : KeptTable) (s : ℕ) (r : Result TxId E) → IfOk r (λ tx. (h : History) → TableStands old.txs h → TableStands txs (TxChange (TxBegan s tx.number) ∷ h)) → IfOk r (λ tx. (h : History) → TableStands old.txs h → tx.number ≡ next_tx (tx_events h))
    → OnOk r (AddsGood old (record old { txs = txs }) (λ h. begun h s))
begun_adds_good old txs s (Ok tx) added number = λ (h : History) (st : Stands old h). begun_good (record old { txs = txs }) s h (begun_stand old txs s tx.number added number h st.all) st.good st.leaves
begun_adds_good old txs s (Err e) added number = tt

-- ---- snapshots

pub let_go_stand : (old : Stores) (txs : KeptTable) (locks : KeptLocks) (s : ℕ) → ((h : History) → TableStands old.txs h → TableStands txs (SnapshotChange (SnapshotDropped s) ∷ h)) → ((h : History) → LocksStand old.locks h → LocksStand locks (LockChange (SnapshotGone s) ∷ h))
    → (h : History) → AllStand old h → AllStand (record old { txs = txs; locks = locks }) (let_go s ++ h)
let_go_stand old txs locks s dropped gone h st =
    after_locks (record old { txs = txs }) locks (SnapshotGone s) (SnapshotChange (SnapshotDropped s) ∷ h) (gone h st.locks) (after_snapshots old txs (SnapshotDropped s) h (λ v dead. dead_after_drop s h v dead) (dropped h st.txs) st)

-- the snapshot of a look was taken at some place
look_past : (k : Option KeptSnapshot) (o : Option TakenSnapshot) (txs : TxEvents) (s cmd : ℕ) → HeldStands k o txs → IsPast (with_command cmd (held_or_fresh o txs s)).past txs
look_past k None txs s cmd st = ([], refl)
look_past None (Some old) txs s cmd st = absurd st
look_past (Some k) (Some old) txs s cmd st = st.1

pub look_is_past : (k : KeptTable) (h : History) (s cmd : ℕ) → TableStands k h → IsPast (look_of h s cmd).past (tx_events h)
look_is_past k h s cmd st = look_past (slice_index_or k.held s None) (held_by (snapshot_events h) s) (tx_events h) s cmd (st.held s)

-- the session has a transaction
open_told : (o p : Option ℕ) → IsSome o → o ≡ p → (t : ℕ) × (p ≡ Some t)
open_told None p some same = let wrong : false ≡ true = some in absurd (cc)
open_told (Some t) p some same = (t, sym same)

-- the session may read under it
pub look_read : (txs : KeptTable) (h : History) (s cmd : ℕ) → IsSome (slice_index_or txs.current s None) → TableStands txs h → IsGood h → MayRead (look_of h s cmd) h
look_read txs h s cmd some st good =
    let its = open_told (slice_index_or txs.current s None) (open_of (tx_events h) s) some (st.current s) in
    look_is_read h s its.0 cmd good its.1

-- where none is held, the look is of the session's transaction
look_own : (k : Option KeptSnapshot) (o : Option TakenSnapshot) (txs : TxEvents) (s cmd t : ℕ) → k ≡ None → HeldStands k o txs → open_of txs s ≡ Some t → open_of txs s ≡ Some (with_command cmd (held_or_fresh o txs s)).tx
look_own k None txs s cmd t none st own = own ∙ sym (ap (λ (o : Option ℕ). Some (unwrap_or o 0)) own)
look_own None (Some old) txs s cmd t none st own = absurd st
look_own (Some x) (Some old) txs s cmd t none st own = let wrong : Some x ≡ None = none in absurd (cc)

holding_stand : (old : Stores) (txs : KeptTable) (s : ℕ) (look : TakenSnapshot) (h : History) (k : Option KeptSnapshot) (o : Option TakenSnapshot) → IsHoldSound s look h → k ≡ None → HeldStands k o (tx_events h) → TableStands txs (SnapshotChange (SnapshotHeld s look) ∷ h) → AllStand old h → AllStand (record old { txs = txs }) (held_first o s look ++ h)
holding_stand old txs s look h k None hold none st new all = after_snapshots old txs (SnapshotHeld s look) h (λ v dead. dead_after_hold s look h v all.txs.sound hold dead) new all
holding_stand old txs s look h None (Some t) hold none st new all = absurd st
holding_stand old txs s look h (Some x) (Some t) hold none st new all = let wrong : Some x ≡ None = none in absurd (cc)

pub held_stand : (old : Stores) (txs : KeptTable) (s cmd : ℕ) (snap : KeptSnapshot) → IsSome (slice_index_or old.txs.current s None) → slice_index_or old.txs.held s None ≡ None → ((h : History) → TableStands old.txs h → SnapshotStands snap (look_of h s cmd))
    → ((h : History) (t : TakenSnapshot) → TableStands old.txs h → IsPast t.past (tx_events h) → SnapshotStands snap t → TableStands txs (SnapshotChange (SnapshotHeld s t) ∷ h))
    → (h : History) → AllStand old h → AllStand (record old { txs = txs }) (held h s cmd ++ h)
held_stand old txs s cmd snap some none stands added h st =
    let k = slice_index_or old.txs.held s None in
    let o = held_by (snapshot_events h) s in
    let its = open_told (slice_index_or old.txs.current s None) (open_of (tx_events h) s) some (st.txs.current s) in
    let hold : IsHoldSound s (look_of h s cmd) h = record { own = look_own k o (tx_events h) s cmd its.0 none (st.txs.held s) its.1; timely = timely o (tx_events h) s cmd } in
    holding_stand old txs s (look_of h s cmd) h k o hold none (st.txs.held s)
    (added h (look_of h s cmd) st.txs (look_is_past old.txs h s cmd st.txs) (stands h st.txs)) st

pub held_stays_good : (txs : KeptTable) (s cmd : ℕ) (h : History) → IsSome (slice_index_or txs.current s None) → TableStands txs h → IsAt h s cmd → IsGood h → IsGood (held h s cmd ++ h)
held_stays_good txs s cmd h some st at good =
    let its = open_told (slice_index_or txs.current s None) (open_of (tx_events h) s) some (st.current s) in
    held_good s its.0 cmd h its.1 at good

-- ---- locks and waits

pub lock_stand : (old : Stores) (locks : KeptLocks) (e : LockEvent) → ((h : History) → LocksStand old.locks h → LocksStand locks (LockChange e ∷ h)) → (h : History) → AllStand old h → AllStand (record old { locks = locks }) (LockChange e ∷ h)
lock_stand old locks e added h st = after_locks old locks e h (added h st.locks) st

unmoved : (old : Stores) (locks : KeptLocks) (h : History) → LocksStand locks h → AllStand old h → AllStand (record old { locks = locks }) h
unmoved old locks h new st = record { txs = st.txs; rows = st.rows; catalog = st.catalog; locks = new }

asked_stand : (old : Stores) (locks : KeptLocks) (s : ℕ) (w : Wanted) (a : Asked) (h : History) → LocksStand locks (after s w a h) → AllStand old h → AllStand (record old { locks = locks }) (after s w a h)
asked_stand old locks s (Lock table mode) Granted h new st = after_locks old locks (LockGot s table.number mode) h new st
asked_stand old locks s (Others what) Granted h new st = unmoved old locks h new st
asked_stand old locks s (Lock table mode) (Waits behind) h new st = after_locks old locks (WaitBegan s (Lock table mode)) h new st
asked_stand old locks s (Others what) (Waits behind) h new st = after_locks old locks (WaitBegan s (Others what)) h new st
asked_stand old locks s (Lock table mode) (Deadlock cycle) h new st = unmoved old locks h new st
asked_stand old locks s (Others what) (Deadlock cycle) h new st = unmoved old locks h new st

pub ask_stand : (old : Stores) (locks : KeptLocks) (s : ℕ) (w : Wanted) (a : Asked) → ((h : History) → LocksStand old.locks h → LocksStand locks (after s w a h)) → (h : History) → AllStand old h → AllStand (record old { locks = locks }) (after s w a h)
ask_stand old locks s w a added h st = asked_stand old locks s w a h (added h st.locks) st

-- ---- a transaction ends

-- the session's transaction, told from what is kept
tx_told : (o : Option ℕ) (p : Option ℕ) (t : ℕ) → Some t ≡ o → o ≡ p → unwrap_or p 0 ≡ t
tx_told o p t is same = let e : p ≡ Some t = sym (is ∙ same) in rw e refl

owner_told : (txs : KeptTable) (s t : ℕ) (h : History) → Some t ≡ slice_index_or txs.current s None → TableStands txs h → session_of (tx_events h) t ≡ s
owner_told txs s t h is st = open_own (tx_events h) s t st.sound (sym (is ∙ st.current s))

pub ended_stand : (end : ℕ → ℕ → TxEvent) (old mid : Stores) (txs : KeptTable) (locks : KeptLocks) (s t : ℕ) → Some t ≡ slice_index_or old.txs.current s None
    → ((h : History) → AllStand old h → AllStand mid ((let_go s ++ withdrawn s) ++ h))
    → ((h : History) → TableStands mid.txs h → TableStands txs (TxChange (end (session_of (tx_events h) t) t) ∷ h))
    → ((h : History) → LocksStand mid.locks h → LocksStand locks (LockChange (LocksGivenUp s) ∷ h))
    → (h : History) → AllStand old h → AllStand (record mid { txs = txs; locks = locks }) (ended (end s (tx_in h s)) s ++ h)
ended_stand end old mid txs locks s t is quiet over given h st =
    let g : History = (let_go s ++ withdrawn s) ++ h in
    let m : AllStand mid g = quiet h st in
    let own : session_of (tx_events h) t ≡ s = owner_told old.txs s t h is st.txs in
    let tx : tx_in h s ≡ t = tx_told (slice_index_or old.txs.current s None) (open_of (tx_events h) s) t is (st.txs.current s) in
    let told : TableStands txs (TxChange (end s t) ∷ g) = subst (λ (r : ℕ). TableStands txs (TxChange (end r t) ∷ g)) own (over g m.txs) in
    let now : TableStands txs (TxChange (end s (tx_in h s)) ∷ g) = subst (λ (n : ℕ). TableStands txs (TxChange (end s n) ∷ g)) (sym tx) told in
    after_locks (record mid { txs = txs }) locks (LocksGivenUp s) (TxChange (end s (tx_in h s)) ∷ g) (given (TxChange (end s (tx_in h s)) ∷ g) m.locks) (after_tx mid txs (end s (tx_in h s)) g now m)

-- the session has no transaction then
pub ended_current : (old mid new : KeptTable) (s t : ℕ) (f : Fate) → Some t ≡ slice_index_or old.current s None → mid ≡ after_hold old s None → new ≡ after_end mid t f → (h : History) → TableStands old h → new.current ≡ slice_set old.current s None
ended_current old mid new s t f is dropped ended h st =
    let own : slice_index_or old.owners t 0 ≡ s = st.owners t ∙ owner_told old s t h is st in
    ap (λ (k : KeptTable). k.current) ended
    ∙ (ap (λ (k : KeptTable). slice_set k.current (slice_index_or k.owners t 0) None) dropped ∙ ap (λ (i : ℕ). slice_set old.current i None) own)
