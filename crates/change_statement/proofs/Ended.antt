-- Row events of a statement in its run, and a version that it ends.
use Rattle.std.proofs.Common.{◌≡◌, ◌≢◌, ℕ, zero, suc, ◌+◌, ◌<◌, List, [], ◌∷◌, refl, ap, sym, ◌∙◌, subst, arith, append-nil, Some, None, Ok, length, map, slice_get, slice_index_or, unwrap_or}
use Rattle.std.proofs.lemmas.List.Elements.{All-cons}
use Rattle.pg_values.specs.declared.ids.RowId.{RowId}
use Rattle.history.specs.declared.transaction.TxId.{TxId}
use Rattle.history.specs.declared.version.Version.{Version}
use Rattle.history.specs.declared.version.End.{End}
use Rattle.history.specs.declared.version.Ending.{Ending}
use Rattle.history.specs.declared.version.Ending.TheVariants.{Deleted}
use Rattle.history.specs.Transactions.{open_of}
use Rattle.history.specs.Rows.{RowEvent, LeafAdded, RowBorn, RowEnded, leaf_count}
use Rattle.history.specs.Locks.{queue}
use Rattle.history.specs.History.{History, RowChange, tx_events, snapshot_events, lock_events, row_events, catalogue_events, versions}
use Rattle.history.specs.RowsSound.{IsEndingKnown}
use Rattle.history.specs.Legal.{command_of, IsNotAfter}
use Rattle.history.proofs.Open.{open_runs}
use Rattle.tx_table.specs.Stands.{StandsFor, TableStands}
use Rattle.lock_table.specs.Stands.{StandsFor as LocksFor}
use Rattle.row_store.specs.declared.stored.Stored.{Stored}
use Rattle.row_store.specs.Kept.{KeptRows, blank, version_of, stored_at}
use Rattle.row_store.specs.Stands.{StoreStands}
use Rattle.row_store.proofs.Changes.{end_sound}
use Rattle.soundness.specs.Worlds.{HasLeaf}
use Rattle.soundness.proofs.Sound.{sound_of}
use Rattle.legal_statements.specs.Follows.{MayFollow}
use Rattle.legal_statements.specs.Rows.{IsOldRow}
use Rattle.legal_statements.proofs.Storing.{old_row_may_follow}
use Rattle.stores.specs.Events.{tx_in}
use Rattle.stores.specs.Good.{IsGood, IsActing}
use Rattle.stores.specs.Numbers.{IsEarlier, IsBefore, IsAt}
use Rattle.stores.specs.Stand.{AllStand, Stands}
use Rattle.stores.specs.declared.stores.Stores.{Stores}
use Rattle.stores.proofs.Goodness.{legal_of}
use Rattle.stores.proofs.Standing.{catalogue_stands}
use Rattle.statement_steps.specs.Made.{made}
use Rattle.statement_steps.specs.Attempts.{WentOn, GoesOn}
use Rattle.statement_steps.specs.declared.caller.Caller.{Caller}
use Rattle.statement_steps.specs.Gathered.{Found, IsStill, MayWriteAt}
use Rattle.statement_steps.specs.Waiting.{Since}
use Rattle.statement_steps.proofs.Since.{since_on, since_row}
use Rattle.statement_steps.specs.Owned.{own}
use Rattle.statement_steps.proofs.Open.{one_session}
use Rattle.change_statement.specs.Deleted.{ended}
use Rattle.change_statement.specs.Running.{IsInRun, IsRunTold, IsRun, MayEndIn, MayRun}
use Rattle.change_statement.proofs.Kept.{one_of}
use Rattle.change_statement.proofs.Still.{open_leaf}
use Rattle.std.specs.List.{Contains}
use Rattle.row_router.specs.Trees.{leaves}
use Rattle.legal_statements.specs.Locked.{IsWritable}
use Rattle.row_change.proofs.Quiet.{Quiet}

-- ---- an event

-- the history after events of the run, and what they leave as it was
pub record Came (f : Found) (h : History) (caller : Caller) (g : History) : Type 0 where
  pub good : IsGood g
  pub run : IsInRun f g caller
  pub others : (r n : ℕ) → r ≢ caller.session → IsAt h r n → IsAt g r n
  pub since : (r : ℕ) → Since r h g
  pub quiet : Quiet g h

still_on : (f : Found) (h g : History) (s : ℕ) → Since s h g → IsStill h s f → IsStill g s f
still_on f h g s since still = record { earlier = still.earlier; gathered = still.gathered; since = since_on s still.earlier h g still.since since }

-- a command adds no leaf
no_leaf : (e : RowEvent) (h : History) (t cmd : ℕ) → command_of (RowChange e) ≡ Some (t, cmd) → leaf_count (row_events (RowChange e ∷ h)) ≡ leaf_count (row_events h)
no_leaf (LeafAdded l) h t cmd is = absurd (let c = is in cc)
no_leaf (RowBorn v) h t cmd is = refl
no_leaf (RowEnded k e) h t cmd is = refl

-- an event of the transaction's command
pub came_one : (f : Found) (e : RowEvent) (h : History) (caller : Caller) (tx : ℕ) → open_of (tx_events h) caller.session ≡ Some tx → command_of (RowChange e) ≡ Some (tx, caller.cmd) → MayFollow (RowChange e ∷ []) h → IsGood h → IsInRun f h caller
    → Came f h caller (RowChange e ∷ h)
came_one f e h caller tx mine command follow good run =
    let first = follow.0 in
    let sound = sound_of h (legal_of h good) in
    record {
      good = (record { legal = first.legal; in_order = first.in_order; permitted = first.permitted; acting = subst (IsActing (tx_events h)) (sym command) (open_runs (tx_events h) caller.session tx sound mine); released = tt; housed = tt }, good);
      run = record {
        at = λ t is. All-cons (IsBefore t (caller.cmd + 1)) (RowChange e) h (subst (IsEarlier t (caller.cmd + 1)) (sym command) (λ same. omega arith)) (run.at t is);
        order = λ t is. (subst (λ c. IsNotAfter c (Some (t, caller.cmd))) (sym command) (λ same. omega arith), run.order t is);
        still = still_on f h (RowChange e ∷ h) caller.session (since_row caller.session e h) run.still;
      };
      others = λ r n other at t is. All-cons (IsBefore t n) (RowChange e) h (subst (IsEarlier t n) (sym command) (λ same. absurd (other (one_session (tx_events h) r caller.session t tx sound is mine (sym same))))) (at t is);
      since = λ r. since_row r e h;
      quiet = record { txs = refl; snapshots = refl; locks = refl; catalogue = refl; leaves = no_leaf e h tx caller.cmd command; sound = λ s. s };
    }

-- ---- the stores after it

pub rows_after : (old : Stores) (rows : KeptRows) (g h : History) → Quiet g h → StoreStands rows g → AllStand old h → AllStand (record old { rows = rows }) g
rows_after old rows g h q new st = record {
  txs = subst (λ t. StandsFor old.txs t (snapshot_events g)) (sym q.txs) (subst (StandsFor old.txs (tx_events h)) (sym q.snapshots) st.txs);
  rows = new;
  catalog = catalogue_stands old.catalog h g q.txs q.catalogue (q.sound st.catalog.sound) st.catalog;
  locks = subst (LocksFor old.locks) (sym q.locks) st.locks;
}

pub came_on : (f : Found) (old : Stores) (rows : KeptRows) (caller : Caller) (h g : History) → Stands old h → Came f h caller g → StoreStands rows g → WentOn h caller.session (caller.cmd + 1) [] (record old { rows = rows }) g
came_on f old rows caller h g stands came store = record {
  stands = record {
    all = rows_after old rows g h came.quiet store stands.all;
    good = came.good;
    leaves = (let few = stands.leaves in let now = store.leaves in let was = stands.all.rows.leaves in let same = came.quiet.leaves in omega (arith, few, now, was, same));
  };
  at = came.run.at;
  others = came.others;
  since = λ r other. came.since r;
  queue = ap queue came.quiet.locks ∙ sym (append-nil (queue (lock_events h)));
}

pub rows_keep : (old : Stores) (rows : KeptRows) (s : ℕ) → GoesOn old (record old { rows = rows }) s
rows_keep old rows s = record {
  transactions = refl;
  locks = λ r t m e. e;
  others = λ r other. refl;
  size = record { sessions = refl; tables = refl };
}

-- ---- a version that ends

pub got_at : (xs : List Stored) (k : ℕ) → k < length xs → slice_get (map version_of xs) k ≡ Some (slice_index_or xs k blank).version
got_at [] k lt = absurd (omega arith)
got_at (x ∷ xs) zero lt = refl
got_at (x ∷ xs) (suc k) lt = got_at xs k (omega (arith, lt))

same_version : (vs : List Version) (k : ℕ) (v w : Version) → slice_get vs k ≡ Some v → slice_get vs k ≡ Some w → v ≡ w
same_version vs k v w one other = let both : Some v ≡ Some w = sym one ∙ other in cc

-- the session's transaction
pub own_is : (h : History) (s : ℕ) (by : TxId) → open_of (tx_events h) s ≡ Some by.number → by ≡ own h s
own_is h s by mine =
    let number : by.number ≡ tx_in h s = ap (λ o. unwrap_or o 0) (sym mine) in
    let id : ℕ → TxId = λ n. record { number = n } in
    ap id number

-- the session may write its leaf
pub end_writes : (stores : Stores) (caller : Caller) (g : Found) (id : RowId) (h : History) (t x : ℕ) → IsGood h → IsInRun g h caller → MayEndIn g stores caller id → open_of (tx_events h) caller.session ≡ Some t → HasLeaf (catalogue_events h) x (stored_at stores.rows.stored id).version.leaf → IsWritable h caller.session x
end_writes stores caller g id h t x good run may mine has =
    let leaf = (stored_at stores.rows.stored id).version.leaf in
    let its = run.still.gathered in
    let among = one_of (Contains (leaves g.tree)) g.leaves leaf may.among its.among in
    (open_leaf h caller.session t g leaf x good run.still mine among (one_of (MayWriteAt run.still.earlier caller.session) g.leaves leaf may.among its.writes) has).kept.writes

pub old_row : (stores : Stores) (caller : Caller) (g : Found) (id : RowId) (by : TxId) (how : Ending) (h : History) → MayEndIn g stores caller id → slice_index_or stores.txs.current caller.session None ≡ Some by.number
    → IsEndingKnown (map version_of stores.rows.stored) stores.rows.leaves id.number (stored_at stores.rows.stored id).version by how → Stands stores h → IsInRun g h caller → IsOldRow h caller.session id.number (record { by = by; cmd = caller.cmd; how = how })
old_row stores caller g id by how h may mine known stands run =
    let v = (stored_at stores.rows.stored id).version in
    let open_in : open_of (tx_events h) caller.session ≡ Some by.number = sym (stands.all.txs.current caller.session) ∙ mine in
    let sound = end_sound stores.txs stores.rows h id.number (record { by = by; cmd = caller.cmd; how = how }) may.known (may.standing h stands.all.txs stands.all.rows) (caller.session, mine) (may.born by.number mine) known stands.all.txs stands.all.rows in
    let there : slice_get (versions h) id.number ≡ Some v = subst (λ vs. slice_get vs id.number ≡ Some v) stands.all.rows.births (got_at stores.rows.stored id.number may.known) in
    let same : v ≡ sound.version = same_version (versions h) id.number v sound.version there sound.there in
    record {
      own = open_in;
      command = run.order by.number open_in;
      sound = sound;
      locked = λ x at. end_writes stores caller g id h by.number x stands.good run may open_in (subst (λ (w : Version). HasLeaf (catalogue_events h) x w.leaf) (sym same) at);
    }

-- ---- a row that is deleted

pub ended_run : (old : Stores) (rows : KeptRows) (caller : Caller) (g : Found) (id : RowId) (by : TxId) → MayRun g old caller → MayEndIn g old caller id → slice_index_or old.txs.current caller.session None ≡ Some by.number
    → ((h : History) → TableStands old.txs h → StoreStands old.rows h → StoreStands rows (RowChange (RowEnded id.number (record { by = by; cmd = caller.cmd; how = Deleted })) ∷ h))
    → IsRun g (λ (u : Unit {0}). u) (Ok tt) old (record old { rows = rows }) caller (ended caller Deleted id)
ended_run old rows caller g id by may row mine added = record {
  is = λ h stands run.
      let e : End = record { by = by; cmd = caller.cmd; how = Deleted } in
      let open_in : open_of (tx_events h) caller.session ≡ Some by.number = sym (stands.all.txs.current caller.session) ∙ mine in
      let follow = old_row_may_follow h caller.session id.number e (legal_of h stands.good) (old_row old caller g id by Deleted h row mine tt stands run) in
      let came = came_one g (RowEnded id.number e) h caller by.number open_in refl follow stands.good run in
      subst (λ (b : TxId). IsRunTold g (λ (u : Unit {0}). u) (Ok tt) (record old { rows = rows }) caller h (made (RowChange (RowEnded id.number (record { by = b; cmd = caller.cmd; how = Deleted })) ∷ []) tt)) (own_is h caller.session by open_in)
      (refl, came_on g old rows caller h (RowChange (RowEnded id.number e) ∷ h) stands came (added h stands.all.txs stands.all.rows), came.run);
  keeps = rows_keep old rows caller.session;
  waits = may.may.idle;
}
