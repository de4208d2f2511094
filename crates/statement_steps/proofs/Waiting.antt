-- While a session waits whose transaction may write a table, others take entries above the table away, and add none.
use Rattle.std.proofs.Common.{List, ◌≡◌, ◌≢◌, ℕ, zero, ◌==◌, ◌||◌, ◌&&◌, not, Bool, true, false, arith, ◌∷◌, [], ◌++◌, inl, inr, refl, ap, sym, ◌∙◌, subst, Some, None}
use Rattle.std.proofs.lemmas.Bool.{cases_Bool}
use Rattle.std.proofs.lemmas.Bool.Decides.{nat_tests}
use Rattle.pg_values.specs.declared.value.Value.{Value}
use Rattle.pg_values.specs.declared.lock_mode.LockMode.{LockMode}
use Rattle.pg_values.specs.declared.lock_mode.LockMode.TheVariants.{RowExclusive, AccessExclusive}
use Rattle.pg_values.specs.Modes.{same_mode}
use Rattle.history.specs.declared.catalogue.Entry.{Entry}
use Rattle.history.specs.declared.transaction.Fate.{Fate}
use Rattle.history.specs.declared.transaction.Fate.TheVariants.{Running, Committed, Aborted}
use Rattle.history.specs.Transactions.{TxEvent, TxEvents, open_of, fate, is_committed, IsRunning}
use Rattle.history.specs.Catalogue.{CatalogueEvent, TableMade, TableDropped, EntryAdded, EntryEnded, EntryMarked, CheckKept}
use Rattle.history.specs.Locks.{LockEvent, LockGot, LocksGivenUp, SnapshotGone, WaitBegan, WaitResumed, WaitWithdrawn, holds, wanted, is_lock}
use Rattle.history.specs.History.{Event, History, TxChange, SnapshotChange, RowChange, LockChange, CatalogueChange, tx_events, lock_events, catalogue_events}
use Rattle.history.specs.Legal.{IsLegal}
use Rattle.history.proofs.Open.{open_runs}
use Rattle.soundness.specs.Worlds.{same_tx, is_running, view, table_in, IsMade, Present, AcceptsKey, key_at}
use Rattle.soundness.specs.Legal.{HasPlace, ArePermitted, IsPermitted}
use Rattle.soundness.specs.Parts.{WritesIn}
use Rattle.soundness.proofs.Worlds.{both_ways, view_world, view_own}
use Rattle.soundness.proofs.Under.{under_above, under_map, accepts_map}
use Rattle.soundness.proofs.Made.{same_key, same_table, made_more}
use Rattle.soundness.proofs.Txs.{shrinks}
use Rattle.soundness.proofs.Rows.{above_written, beside_written}
use Rattle.soundness.proofs.Held.{write_here}
use Rattle.soundness.proofs.Added.{present_was}
use Rattle.soundness.proofs.Ended.{was_present}
use Rattle.soundness.proofs.Sound.{sound_of}
use Rattle.soundness.proofs.All.{legal_keeps_all}
use Rattle.legal_statements.specs.Locked.{IsOwnTable, IsWritable}
use Rattle.legal_statements.proofs.Holding.{session_runs, writes_of}
use Rattle.stores.specs.Good.{IsGood}
use Rattle.stores.proofs.Goodness.{legal_of, permitted_of}
use Rattle.statement_steps.specs.Waiting.{AddsNone, AddNone, Since, StaysAbove, NothingIsAddedAbove, WaitingStatementsAccept}

-- ---- one event

all_stay : (h : History) (t x : ℕ) → StaysAbove h h t x
all_stay h t x g n p low = record { there = p; below = low; keys = λ row. refl; takes = λ row accept. accept }

-- fewer entries ask for less
fewer_stay : (c : CatalogueEvent) (h : History) (t x : ℕ) → ((g : Entry) → Present (c ∷ catalogue_events h) (view (tx_events h) t) g → Present (catalogue_events h) (view (tx_events h) t) g)
    → ((g : Entry) → Present (c ∷ catalogue_events h) (view (tx_events h) t) g → (row : List Value) → key_at (catalogue_events h) g.parent.number row ≡ key_at (c ∷ catalogue_events h) g.parent.number row)
    → StaysAbove h (CatalogueChange c ∷ h) t x
fewer_stay c h t x was keys g n p low =
    let w = view (tx_events h) t in
    let old = catalogue_events h in
    record {
      there = was g p;
      below = under_map (c ∷ old) old w w was n g.child.number x low;
      keys = keys g p;
      takes = λ row accept. subst (λ k. AcceptsKey (c ∷ old) w g.parent.number g.bound k) (keys g p row)
          (accepts_map (c ∷ old) old w w g.parent.number g.bound (key_at old g.parent.number row) (λ by_default f q same. inl (was f q)) accept);
    }

other_out : (f : Fate) (s : Bool) → f ≡ Running → s ≡ false → (is_committed f || (s && is_running f)) ≡ false
other_out Running s runs other = rw other refl
other_out Committed s runs other = absurd (cc)
other_out Aborted s runs other = absurd (cc)

not_same : (txs : TxEvents) (t k : ℕ) → k ≢ t → same_tx txs t k ≡ false
unfolding same_tx
not_same txs t k other = grind (arith, nat_tests, other)

-- an entry has its place, whether the rows below it are scanned or not
placed : (h : History) (e : Entry) → IsPermitted (CatalogueChange (EntryAdded e)) h → HasPlace h e
placed h e (inl added) = added.place
placed h e (inr skipped) = skipped.place

-- an entry of another transaction is none of this one's
foreign_present : (h : History) (e : Entry) (t : ℕ) → HasPlace h e → e.by.number ≢ t → (g : Entry) → Present (EntryAdded e ∷ catalogue_events h) (view (tx_events h) t) g → Present (catalogue_events h) (view (tx_events h) t) g
foreign_present h e t place other g p = elim (present_was e (catalogue_events h) (view (tx_events h) t) g p) [
  | inl new ↦ absurd (both_ways (view (tx_events h) t e.by.number) new.1 (other_out (fate (tx_events h) e.by.number) (same_tx (tx_events h) t e.by.number) place.acts.runs (not_same (tx_events h) t e.by.number other)))
  | inr old ↦ old
]

-- transactions that begin and end change nothing above a table that this one may write
tx_stay : (e : TxEvent) (h : History) (t x : ℕ) → IsLegal (TxChange e ∷ h) → ArePermitted (TxChange e ∷ h) → IsRunning (tx_events h) t → fate (e ∷ tx_events h) t ≡ Running → WritesIn h (view (tx_events h) t) t x → StaysAbove h (TxChange e ∷ h) t x
tx_stay e h t x legal permitted acts runs locked g n p low =
    let i = legal_keeps_all h legal.2 permitted.1 in
    let cats = catalogue_events h in
    let w = view (e ∷ tx_events h) t in
    let world = (shrinks e (tx_events h) legal.0).worlds w (view_world (e ∷ tx_events h) t) in
    let own = view_own (e ∷ tx_events h) t runs in
    let writes = write_here h w t x world acts own locked in
    let to = above_written h w t x i world acts own writes in
    record {
      there = to g n p low;
      below = under_above cats cats w (view (tx_events h) t) x to n zero g.child.number x refl low;
      keys = λ row. refl;
      takes = λ row accept. accepts_map cats cats w (view (tx_events h) t) g.parent.number g.bound (key_at cats g.parent.number row)
          (λ by_default f q same. inl (beside_written h w t x i world acts own writes g n p by_default low f q same)) accept;
    }

stays_event : (e : Event) (h : History) (t x : ℕ) → IsLegal (e ∷ h) → ArePermitted (e ∷ h) → IsRunning (tx_events h) t → fate (tx_events (e ∷ h)) t ≡ Running → AddsNone t e → WritesIn h (view (tx_events h) t) t x → StaysAbove h (e ∷ h) t x
stays_event (TxChange e) h t x legal permitted acts runs none locked = tx_stay e h t x legal permitted acts runs locked
stays_event (SnapshotChange e) h t x legal permitted acts runs none locked = λ g n p low. record { there = p; below = low; keys = λ row. refl; takes = λ row accept. accept }
stays_event (RowChange e) h t x legal permitted acts runs none locked = λ g n p low. record { there = p; below = low; keys = λ row. refl; takes = λ row accept. accept }
stays_event (LockChange e) h t x legal permitted acts runs none locked = λ g n p low. record { there = p; below = low; keys = λ row. refl; takes = λ row accept. accept }
stays_event (CatalogueChange (TableMade y)) h t x legal permitted acts runs none locked =
    let i = legal_keeps_all h legal.2 permitted.1 in
    fewer_stay (TableMade y) h t x (λ g p. p) (λ g p row. same_key y (catalogue_events h) g.parent.number row (i.entries.suited g p.0).parent)
stays_event (CatalogueChange (TableDropped k s)) h t x legal permitted acts runs none locked = fewer_stay (TableDropped k s) h t x (λ g p. p) (λ g p row. refl)
stays_event (CatalogueChange (EntryAdded e)) h t x legal permitted acts runs none locked = fewer_stay (EntryAdded e) h t x (foreign_present h e t (placed h e permitted.0) none) (λ g p row. refl)
stays_event (CatalogueChange (EntryEnded k s)) h t x legal permitted acts runs none locked = fewer_stay (EntryEnded k s) h t x (was_present k s (catalogue_events h) (view (tx_events h) t)) (λ g p row. refl)
stays_event (CatalogueChange (EntryMarked k s)) h t x legal permitted acts runs none locked = fewer_stay (EntryMarked k s) h t x (λ g p. p) (λ g p row. refl)
stays_event (CatalogueChange (CheckKept c)) h t x legal permitted acts runs none locked = fewer_stay (CheckKept c) h t x (λ g p. p) (λ g p row. refl)

-- ---- what is open and locked stays so

runs_before : (e : Event) (h : History) (t : ℕ) → IsLegal (e ∷ h) → fate (tx_events (e ∷ h)) t ≡ Running → fate (tx_events h) t ≡ Running
runs_before (TxChange e) h t legal runs = (shrinks e (tx_events h) legal.0).runs t runs
runs_before (SnapshotChange e) h t legal runs = runs
runs_before (RowChange e) h t legal runs = runs
runs_before (LockChange e) h t legal runs = runs
runs_before (CatalogueChange e) h t legal runs = runs

open_after : (e : Event) (h : History) (session t : ℕ) → IsLegal (e ∷ h) → fate (tx_events (e ∷ h)) t ≡ Running → open_of (tx_events h) session ≡ Some t → open_of (tx_events (e ∷ h)) session ≡ Some t
open_after (TxChange e) h session t legal runs own = (shrinks e (tx_events h) legal.0).opens session t runs own
open_after (SnapshotChange e) h session t legal runs own = own
open_after (RowChange e) h session t legal runs own = own
open_after (LockChange e) h session t legal runs own = own
open_after (CatalogueChange e) h session t legal runs own = own

or_right : (a b : Bool) → b ≡ true → (a || b) ≡ true
or_right true b is = refl
or_right false b is = is

not_given_up : (txs : TxEvents) (s a t : ℕ) → open_of txs s ≡ None → open_of txs a ≡ Some t → not (s == a) ≡ true
not_given_up txs s a t closed opened = elim (cases_Bool (s == a)) [
  | inl same ↦
      let e : s ≡ a = grind (arith, nat_tests, same) in
      let both : None ≡ Some t = sym closed ∙ (ap (open_of txs) e ∙ opened) in
      absurd (cc)
  | inr other ↦ rw other refl
]

held_after : (e : LockEvent) (h : History) (a t x : ℕ) (m : LockMode) → IsPermitted (LockChange e) h → open_of (tx_events h) a ≡ Some t → holds (lock_events h) a x m ≡ true → holds (e ∷ lock_events h) a x m ≡ true
held_after (LockGot s k n) h a t x m may opened held = or_right ((s == a) && ((k == x) && same_mode n m)) (holds (lock_events h) a x m) held
held_after (LocksGivenUp s) h a t x m may opened held = let stays = not_given_up (tx_events h) s a t may opened in rw (stays, held) refl
held_after (SnapshotGone s) h a t x m may opened held = held
held_after (WaitBegan s w) h a t x m may opened held = held
held_after (WaitResumed s) h a t x m may opened held = or_right ((s == a) && is_lock x m (wanted (lock_events h) s)) (holds (lock_events h) a x m) held
held_after (WaitWithdrawn s) h a t x m may opened held = held

written : (h g : History) (a x : ℕ) → ((m : LockMode) → holds (lock_events h) a x m ≡ true → holds (lock_events g) a x m ≡ true) → (IsOwnTable h a x → IsOwnTable g a x) → IsWritable h a x → IsWritable g a x
written h g a x keep own (inl held) = inl (keep RowExclusive held)
written h g a x keep own (inr (inl held)) = inr (inl (keep AccessExclusive held))
written h g a x keep own (inr (inr made)) = inr (inr (own made))

own_after : (h g : History) (a t x : ℕ) → catalogue_events g ≡ catalogue_events h → open_of (tx_events h) a ≡ Some t → open_of (tx_events g) a ≡ Some t → IsOwnTable h a x → IsOwnTable g a x
own_after h g a t x cats before after (made, by) = (
  subst (λ c. IsMade c x) (sym cats) made,
  after ∙ (sym before ∙ (by ∙ ap (λ c. Some (table_in c x).by.number) (sym cats))),
)

own_made : (h : History) (c : CatalogueEvent) (a x : ℕ) → IsOwnTable h a x → IsOwnTable (CatalogueChange c ∷ h) a x
own_made h (TableMade y) a x (made, by) = (made_more y (catalogue_events h) x made, by ∙ ap (λ k. Some k.by.number) (same_table y (catalogue_events h) x made))
own_made h (TableDropped k s) a x own = own
own_made h (EntryAdded e) a x own = own
own_made h (EntryEnded k s) a x own = own
own_made h (EntryMarked k s) a x own = own
own_made h (CheckKept c) a x own = own

writes_after : (e : Event) (h : History) (a t x : ℕ) → ArePermitted (e ∷ h) → open_of (tx_events h) a ≡ Some t → open_of (tx_events (e ∷ h)) a ≡ Some t → IsWritable h a x → IsWritable (e ∷ h) a x
writes_after (TxChange e) h a t x permitted before after writes = written h (TxChange e ∷ h) a x (λ m held. held) (own_after h (TxChange e ∷ h) a t x refl before after) writes
writes_after (SnapshotChange e) h a t x permitted before after writes = writes
writes_after (RowChange e) h a t x permitted before after writes = writes
writes_after (LockChange e) h a t x permitted before after writes = written h (LockChange e ∷ h) a x (λ m held. held_after e h a t x m permitted.0 before held) (λ own. own) writes
writes_after (CatalogueChange c) h a t x permitted before after writes = written h (CatalogueChange c ∷ h) a x (λ m held. held) (own_made h c a x) writes

-- ---- all events since

stays_on : (earlier h g : History) (t x : ℕ) → StaysAbove earlier h t x → StaysAbove h g t x → StaysAbove earlier g t x
stays_on earlier h g t x first second e n p low =
    let b = second e n p low in
    let a = first e n b.there b.below in
    record { there = a.there; below = a.below; keys = λ row. a.keys row ∙ b.keys row; takes = λ row accept. b.takes row (a.takes row accept) }

pub record Meanwhile (earlier h : History) (session t x : ℕ) : Type 0 where
  pub opened : open_of (tx_events h) session ≡ Some t
  pub writes : IsWritable h session x
  pub stays : StaysAbove earlier h t x

meanwhile_by : (events earlier : History) (session t x : ℕ) → IsGood (events ++ earlier) → fate (tx_events (events ++ earlier)) t ≡ Running → open_of (tx_events earlier) session ≡ Some t → IsWritable earlier session x → AddNone t events
    → Meanwhile earlier (events ++ earlier) session t x
meanwhile_by [] earlier session t x good runs own writes none = record { opened = own; writes = writes; stays = all_stay earlier t x }
meanwhile_by (e ∷ events) earlier session t x good runs own writes none =
    let h = events ++ earlier in
    let legal = legal_of (e ∷ h) good in
    let permitted = permitted_of (e ∷ h) good in
    let m = meanwhile_by events earlier session t x good.1 (runs_before e h t legal runs) own writes none.1 in
    let after = open_after e h session t legal runs m.opened in
    record {
      opened = after;
      writes = writes_after e h session t x permitted m.opened after m.writes;
      stays = stays_on earlier h (e ∷ h) t x m.stays (stays_event e h t x legal permitted (session_runs h session t legal.2 m.opened) runs none.0 (writes_of h session t x legal.2 m.opened m.writes));
    }

pub meanwhile : (earlier h : History) (session t x : ℕ) → IsGood h → Since session earlier h → open_of (tx_events earlier) session ≡ Some t → IsWritable earlier session x → Meanwhile earlier h session t x
meanwhile earlier h session t x good since own writes =
    let runs = (open_runs (tx_events h) session t (sound_of h (legal_of h good)) (since.same ∙ own)).runs in
    subst (λ k. Meanwhile earlier k session t x) (sym since.is)
    (meanwhile_by since.events earlier session t x (subst IsGood since.is good) (subst (λ k. fate (tx_events k) t ≡ Running) since.is runs) own writes (since.others t own))

pub nothing_is_added_above : NothingIsAddedAbove
nothing_is_added_above earlier h session t x good since own writes = (meanwhile earlier h session t x good since own writes).stays

pub waiting_statements_accept : WaitingStatementsAccept
waiting_statements_accept earlier h session t x row good since own writes accept e n p low =
    let was = nothing_is_added_above earlier h session t x good since own writes e n p low in
    was.takes row (accept e n was.there was.below)
