-- A row version that is followed by another one.
use Rattle.std.proofs.Common.{◌≡◌, Bool, true, false, ℕ, zero, suc, ◌+◌, ◌<◌, List, [], ◌∷◌, ◌++◌, refl, ap, sym, ◌∙◌, subst, arith, Option, Some, None, Result, Ok, Err, slice_get, slice_index_or}
use Rattle.std.specs.List.{Contains}
use Rattle.pg_values.specs.declared.value.Value.{Value}
use Rattle.pg_values.specs.declared.fault.Fault.{Fault}
use Rattle.pg_values.specs.declared.fault.Refusal.{Refusal}
use Rattle.pg_values.specs.declared.fault.Refusal.TheVariants.{Sql, NoMemory}
use Rattle.pg_values.specs.declared.ids.LeafId.{LeafId}
use Rattle.pg_values.specs.declared.ids.RowId.{RowId}
use Rattle.pg_values.specs.Refusals.{or_first}
use Rattle.history.specs.declared.transaction.TxId.{TxId}
use Rattle.history.specs.declared.version.Version.{Version}
use Rattle.history.specs.declared.version.End.{End}
use Rattle.history.specs.Transactions.{open_of}
use Rattle.history.specs.Rows.{RowEvent, RowBorn, RowEnded, leaf_count}
use Rattle.history.specs.History.{History, RowChange, tx_events, row_events, catalogue_events, versions}
use Rattle.history.specs.Legal.{IsInOrder}
use Rattle.row_router.specs.Trees.{leaves}
use Rattle.tx_table.specs.Stands.{TableStands}
use Rattle.row_store.specs.Kept.{KeptRows, stored_at}
use Rattle.row_store.specs.Stands.{StoreStands, newborn}
use Rattle.part_catalog.specs.Found.{made_at}
use Rattle.row_change.specs.Laws.{IsRowIn, AreRowsOf}
use Rattle.row_change.specs.Placing.{bounds_faults, first_or, tables_of}
use Rattle.row_change.specs.Storing.{IsMade, check_faults, full_faults, made_by}
use Rattle.row_change.specs.Succession as rows_spec
use Rattle.row_change.specs.Succession.{ending_to, follows}
use Rattle.row_change.specs.Targets.{holder_faults}
use Rattle.row_change.proofs.Placed.{is_placed}
use Rattle.row_change.proofs.Passing.{nothing_before, none_refuses}
use Rattle.soundness.specs.Worlds.{AcceptAbove, HasLeaf, view}
use Rattle.soundness.proofs.Columns.{row_down, routed_leaf}
use Rattle.legal_statements.specs.Follows.{MayFollow}
use Rattle.legal_statements.specs.Locked.{IsWritable}
use Rattle.legal_statements.specs.Rows.{IsOldRow}
use Rattle.legal_statements.proofs.Holding.{session_runs, writes_of}
use Rattle.legal_statements.proofs.Storing.{old_row_may_follow}
use Rattle.stores.specs.Good.{IsGood}
use Rattle.stores.specs.Stand.{Stands}
use Rattle.stores.specs.declared.stores.Stores.{Stores}
use Rattle.stores.proofs.Goodness.{legal_of}
use Rattle.stores.proofs.Housed.{leaves_are_housed}
use Rattle.statement_steps.specs.Made.{Refused, unless_refused, answered}
use Rattle.statement_steps.specs.Attempts.{WentOn}
use Rattle.statement_steps.specs.declared.caller.Caller.{Caller}
use Rattle.statement_steps.specs.Faults.{stop_of}
use Rattle.statement_steps.specs.declared.stop.Stop.{Stop}
use Rattle.statement_steps.specs.declared.stop.Stop.TheVariants as stop
use Rattle.change_statement.proofs.Ended.{Came, came_on, came_one, end_writes, got_at, own_is, rows_keep}
use Rattle.change_statement.proofs.Kept.{one_of}
use Rattle.change_statement.proofs.Stays.{ended_fits}
use Rattle.change_statement.proofs.Still.{kept_accepts, leaf_columns, leaf_is_there, open_leaf, routed_accepts, taken_above}
use Rattle.change_statement.specs.Running.{Agree, IsInRun, IsPlacedIn, IsRun, IsRunTold, IsTakenIn, MayEndIn, MayRun}
use Rattle.change_statement.specs.Updated.{against, housed, succeeded, succeeded_by}
use Rattle.statement_steps.proofs.Since.{since_now, since_on}
use Rattle.statement_steps.specs.Gathered.{Found, IsStill, MayWriteAt}
use Rattle.change_statement.proofs.Runs.{no_memory_run}

-- ---- the leaf where a row goes

first_ok : (fs : List Fault) (old leaf : LeafId) → first_or fs (Ok old) ≡ Ok leaf → (fs ≡ []) × (old ≡ leaf)
first_ok [] old leaf e = (refl, (let c = e in cc))
first_ok (f ∷ fs) old leaf e = absurd (let c = e in cc)

-- the leaf is one of the tree's, the session may write it, and it takes the row
record MayTake (h : History) (s t : ℕ) (g : Found) (leaf : LeafId) (row : List Value) : Type 0 where
  among : Contains (leaves g.tree) leaf
  writes : (x : ℕ) → HasLeaf (catalogue_events h) x leaf → IsWritable h s x
  accepts : (x : ℕ) → HasLeaf (catalogue_events h) x leaf → AcceptAbove (catalogue_events h) (view (tx_events h) t) x row

may_take : (stores : Stores) (caller : Caller) (g : Found) (id : RowId) (old leaf : LeafId) (row : List Value) (t : ℕ) (h : History) → Stands stores h → IsInRun g h caller → MayEndIn g stores caller id → (stored_at stores.rows.stored id).version.leaf ≡ old
    → Agree g.asked.settings (stored_at stores.rows.stored id).version.row row → open_of (tx_events h) caller.session ≡ Some t → (b : Bool) → g.moves ≡ b → housed b (tables_of h) g.tree g.path old row ≡ Ok leaf → MayTake h caller.session t g leaf row
may_take stores caller g id old leaf row t h stands run version own keys mine true on e =
    let s = caller.session in
    let still = run.still in
    let its = still.gathered in
    let placed = is_placed (tables_of h) g.tree g.path row leaf e in
    let among = routed_leaf row g.tree leaf placed.routed in
    let may = one_of (MayWriteAt still.earlier s) (leaves g.tree) leaf among (its.moves on) in
    record {
      among = among;
      writes = λ x has. (open_leaf h s t g leaf x stands.good still mine among may has).kept.writes;
      accepts = λ x has. routed_accepts h s t g leaf x row stands.good still mine among may has (none_refuses (tables_of h) row g.path placed.bounds) placed.routed;
    }
may_take stores caller g id old leaf row t h stands run version own keys mine false off e =
    let s = caller.session in
    let still = run.still in
    let its = still.gathered in
    let v = (stored_at stores.rows.stored id).version in
    let told = first_ok (bounds_faults (tables_of h) g.path row) old leaf e in
    let same : v.leaf ≡ leaf = own ∙ told.1 in
    let read : Contains g.leaves leaf = subst (Contains g.leaves) same version.among in
    let among = one_of (Contains (leaves g.tree)) g.leaves leaf read its.among in
    let may = one_of (MayWriteAt still.earlier s) g.leaves leaf read its.writes in
    record {
      among = among;
      writes = λ x has. (open_leaf h s t g leaf x stands.good still mine among may has).kept.writes;
      accepts = λ x has. kept_accepts h s t g leaf x v.row row stands.good still mine among may has (its.stays off leaf read) keys (none_refuses (tables_of h) row g.path told.0)
          (ended_fits stores caller g id h t x stands version mine (subst (HasLeaf (catalogue_events h) x) (sym same) has));
    }

-- it is there
pub leaf_known : (h : History) (s : ℕ) (g : Found) (leaf : LeafId) → IsGood h → IsStill h s g → Contains (leaves g.tree) leaf → leaf.number < leaf_count (row_events h)
leaf_known h s g leaf good still among = let home = leaf_is_there h s g leaf good still among in leaves_are_housed h home.0 leaf good home.1

pub placed_among : (stores : Stores) (caller : Caller) (g : Found) (id : RowId) (old leaf : LeafId) (row : List Value) → MayRun g stores caller → MayEndIn g stores caller id → (stored_at stores.rows.stored id).version.leaf ≡ old
    → IsPlacedIn stores g old leaf row → leaf.number < stores.rows.leaves
placed_among stores caller g id old leaf row may version own at =
    let h = may.sound.0 in
    let stands = may.sound.1 in
    let still = may.sound.2.still in
    let among = by g.moves refl (at.placed h stands.all.catalog) in
    subst (λ n. leaf.number < n) (sym stands.all.rows.leaves) (leaf_known h caller.session g leaf stands.good still among)
  where
    by : (b : Bool) → g.moves ≡ b → housed b (tables_of may.sound.0) g.tree g.path old row ≡ Ok leaf → Contains (leaves g.tree) leaf
    by true on e = routed_leaf row g.tree leaf (is_placed (tables_of may.sound.0) g.tree g.path row leaf e).routed
    by false off e =
        let told = first_ok (bounds_faults (tables_of may.sound.0) g.path row) old leaf e in
        one_of (Contains (leaves g.tree)) g.leaves leaf (subst (Contains g.leaves) (own ∙ told.1) version.among) may.sound.2.still.gathered.among

-- ---- nothing stands against the row

none_of : (fs : List Fault) → or_first {T = Unit {0}} fs tt ≡ Ok tt → fs ≡ []
none_of [] told = refl
none_of (f ∷ fs) told = absurd (let c = told in cc)

-- where it was tested
pub none_stands : (stores : Stores) (caller : Caller) (g : Found) (leaf : LeafId) (row : List Value) → ((h : History) → Stands stores h → or_first {T = Unit {0}} (against h caller.session g leaf row) tt ≡ Ok tt) → IsTakenIn stores caller g leaf row
none_stands stores caller g leaf row told h stands run = none_of (against h caller.session g leaf row) (told h stands)

-- ---- the row that is born

born_in : (stores : Stores) (caller : Caller) (g : Found) (id : RowId) (old leaf : LeafId) (row : List Value) (by : TxId) (h : History) → Stands stores h → IsInRun g h caller → MayEndIn g stores caller id → (stored_at stores.rows.stored id).version.leaf ≡ old
    → Agree g.asked.settings (stored_at stores.rows.stored id).version.row row → IsRowIn h row g.table → IsPlacedIn stores g old leaf row → IsTakenIn stores caller g leaf row → open_of (tx_events h) caller.session ≡ Some by.number
    → MayFollow (RowChange (RowBorn (newborn h leaf row by caller.cmd)) ∷ []) h
born_in stores caller g id old leaf row by h stands run version own keys of at taken mine =
    let s = caller.session in
    let legal = legal_of h stands.good in
    let take = may_take stores caller g id old leaf row by.number h stands run version own keys mine g.moves refl (at.placed h stands.all.catalog) in (
      record {
        legal = record { number = refl; leaf = leaf_known h s g leaf stands.good run.still take.among; by = session_runs h s by.number legal mine };
        in_order = run.order by.number mine;
        permitted = record {
          locked = λ x has. writes_of h s by.number x legal mine (take.writes x has);
          columns = λ x has. row_down (made_at h g.table.number).columns (made_at h x).columns row (leaf_columns h s g leaf x stands.good run.still take.among has) of.1;
          routed = take.accepts;
          passes = taken_above h s by.number g leaf row stands.good run.still mine at.way (nothing_before (holder_faults h s g.tree leaf row) (check_faults (tables_of h) g.path row) (taken h stands run));
        };
      },
      tt,
    )

-- ---- the version that ends behind it

got_before : (xs ys : List Version) (k : ℕ) (v : Version) → slice_get xs k ≡ Some v → slice_get (xs ++ ys) k ≡ Some v
got_before [] ys k v e = absurd (let c = e in cc)
got_before (x ∷ xs) ys zero v e = e
got_before (x ∷ xs) ys (suc k) v e = got_before xs ys k v e

same_got : (vs : List Version) (k : ℕ) (v w : Version) → slice_get vs k ≡ Some v → slice_get vs k ≡ Some w → v ≡ w
same_got vs k v w one other = let both : Some v ≡ Some w = sym one ∙ other in cc

old_row_behind : (stores : Stores) (rows : KeptRows) (caller : Caller) (g : Found) (id : RowId) (e : End) (new : Version) (h : History) → Stands stores h → IsGood (RowChange (RowBorn new) ∷ h) → IsInRun g (RowChange (RowBorn new) ∷ h) caller → MayEndIn g stores caller id → open_of (tx_events h) caller.session ≡ Some e.by.number → e.cmd ≡ caller.cmd
    → StoreStands rows (RowChange (RowEnded id.number e) ∷ RowChange (RowBorn new) ∷ h) → IsOldRow (RowChange (RowBorn new) ∷ h) caller.session id.number e
old_row_behind stores rows caller g id e new h stands good run may mine cmd store =
    let v = (stored_at stores.rows.stored id).version in
    let there : slice_get (versions h) id.number ≡ Some v = subst (λ vs. slice_get vs id.number ≡ Some v) stands.all.rows.births (got_at stores.rows.stored id.number may.known) in
    let sound = store.sound.0 in
    let same : v ≡ sound.version = same_got (versions (RowChange (RowBorn new) ∷ h)) id.number v sound.version (got_before (versions h) (new ∷ []) id.number v there) sound.there in
    record {
      own = mine;
      command = subst (λ n. IsInOrder (Some (e.by.number, n)) (RowChange (RowBorn new) ∷ h)) (sym cmd) (run.order e.by.number mine);
      sound = sound;
      locked = λ x at. end_writes stores caller g id (RowChange (RowBorn new) ∷ h) e.by.number x good run may mine (subst (λ (w : Version). HasLeaf (catalogue_events h) x w.leaf) (sym same) at);
    }

-- ---- both

both_came : (f : Found) (b e : RowEvent) (h : History) (caller : Caller) → Came f h caller (RowChange b ∷ h) → Came f (RowChange b ∷ h) caller (RowChange e ∷ RowChange b ∷ h) → Came f h caller (RowChange e ∷ RowChange b ∷ h)
both_came f b e h caller first second = record {
  good = second.good;
  run = second.run;
  others = λ r n other at. second.others r n other (first.others r n other at);
  since = λ r. since_on r h (RowChange b ∷ h) (RowChange e ∷ RowChange b ∷ h) (first.since r) (second.since r);
  quiet = record { txs = refl; snapshots = refl; locks = refl; catalogue = refl; leaves = second.quiet.leaves ∙ first.quiet.leaves; sound = λ s. s };
}

nothing_came : (f : Found) (h : History) (caller : Caller) → IsGood h → IsInRun f h caller → Came f h caller h
nothing_came f h caller good run = record {
  good = good;
  run = run;
  others = λ r n other at. at;
  since = λ r. since_now r h;
  quiet = record { txs = refl; snapshots = refl; locks = refl; catalogue = refl; leaves = refl; sound = λ s. s };
}

follows_came : (stores : Stores) (rows : KeptRows) (caller : Caller) (g : Found) (from : LeafId) (id : RowId) (leaf : LeafId) (row : List Value) (by : TxId) (h : History) → Stands stores h → IsInRun g h caller → MayEndIn g stores caller id → (stored_at stores.rows.stored id).version.leaf ≡ from
    → Agree g.asked.settings (stored_at stores.rows.stored id).version.row row → IsRowIn h row g.table → IsPlacedIn stores g from leaf row → IsTakenIn stores caller g leaf row
    → open_of (tx_events h) caller.session ≡ Some by.number → StoreStands rows (follows from id (newborn h leaf row by caller.cmd) ++ h) → Came g h caller (follows from id (newborn h leaf row by caller.cmd) ++ h)
follows_came stores rows caller g from id leaf row by h stands run may own keys of at taken mine store =
    let v = newborn h leaf row by caller.cmd in
    let e : End = record { by = by; cmd = caller.cmd; how = ending_to from leaf v.id } in
    let born = born_in stores caller g id from leaf row by h stands run may own keys of at taken mine in
    let first = came_one g (RowBorn v) h caller by.number mine refl born stands.good run in
    let h1 = RowChange (RowBorn v) ∷ h in
    let ended = old_row_may_follow h1 caller.session id.number e (legal_of h1 first.good) (old_row_behind stores rows caller g id e v h stands first.good first.run may mine refl store) in
    let second = came_one g (RowEnded id.number e) h1 caller by.number mine refl ended first.good first.run in
    both_came g (RowBorn v) (RowEnded id.number e) h caller first second

-- ---- what is told

stands_made : (g : Found) (fs : List Fault) (events h : History) (rows : KeptRows) (new : Stores) (caller : Caller) → IsMade (Ok tt) rows h (made_by fs events) → (StoreStands rows (events ++ h) → WentOn h caller.session (caller.cmd + 1) [] new (events ++ h) × IsInRun g (events ++ h) caller)
    → IsRunTold g (λ (u : Unit {0}). u) (Ok tt) new caller h (unless_refused fs events)
stands_made g [] events h rows new caller is went = let to = went is.1 in (refl, to.0, to.1)
stands_made g (f ∷ fs) events h rows new caller is went = absurd (let c = is.0 in cc)

refused_made : (g : Found) (fs : List Fault) (f : Fault) (events h : History) (rows : KeptRows) (new : Stores) (caller : Caller) → IsMade (Err (Sql f)) rows h (made_by fs events) → (StoreStands rows h → WentOn h caller.session (caller.cmd + 1) [] new h)
    → IsRunTold g (λ (u : Unit {0}). u) (Err (stop.Refused f)) new caller h (unless_refused fs events)
refused_made g [] f events h rows new caller is went = absurd (let c = is.0 in cc)
refused_made g (x ∷ xs) f events h rows new caller is went = let same : x ≡ f = (let c = is.0 in cc) in (ap (λ y. Err (Refused y)) same, went is.1)

-- ---- the part of the run

abbrev pub ends : Result (Unit {0}) Refusal → Result (Unit {0}) Stop
ends (Ok u) = Ok tt
ends (Err r) = Err (stop_of r)

pub succeeded_run : (r : Result (Unit {0}) Refusal) (old : Stores) (rows : KeptRows) (caller : Caller) (g : Found) (from : LeafId) (id : RowId) (leaf : LeafId) (row : List Value) (by : TxId) → MayRun g old caller → MayEndIn g old caller id → (stored_at old.rows.stored id).version.leaf ≡ from → Agree g.asked.settings (stored_at old.rows.stored id).version.row row → AreRowsOf old.catalog g.table (row ∷ []) → IsPlacedIn old g from leaf row → IsTakenIn old caller g leaf row
    → slice_index_or old.txs.current caller.session None ≡ Some by.number → ((h : History) → TableStands old.txs h → StoreStands old.rows h → IsMade r rows h (rows_spec.succeeded h from id leaf row by caller.cmd))
    → IsRun g (λ (u : Unit {0}). u) (ends r) old (record old { rows = rows }) caller (succeeded caller from id leaf row)
succeeded_run (Ok u) old rows caller g from id leaf row by may version own keys of at taken mine added = record {
  is = λ h stands run.
      let new = record old { rows = rows } in
      let open_in : open_of (tx_events h) caller.session ≡ Some by.number = sym (stands.all.txs.current caller.session) ∙ mine in
      subst (λ (b : TxId). IsRunTold g (λ (x : Unit {0}). x) (Ok tt) new caller h (succeeded_by b caller from id leaf row h)) (own_is h caller.session by open_in)
      (stands_made g (full_faults h row) (follows from id (newborn h leaf row by caller.cmd)) h rows new caller (added h stands.all.txs stands.all.rows)
      (λ store. let came = follows_came old rows caller g from id leaf row by h stands run version own keys (of h stands.all.catalog 0 row (omega arith)) at taken open_in store in (came_on g old rows caller h (follows from id (newborn h leaf row by caller.cmd) ++ h) stands came store, came.run)));
  keeps = rows_keep old rows caller.session;
  waits = may.may.idle;
}
succeeded_run (Err (Sql f)) old rows caller g from id leaf row by may version own keys of at taken mine added = record {
  is = λ h stands run.
      let new = record old { rows = rows } in
      let open_in : open_of (tx_events h) caller.session ≡ Some by.number = sym (stands.all.txs.current caller.session) ∙ mine in
      subst (λ (b : TxId). IsRunTold g (λ (x : Unit {0}). x) (Err (stop.Refused f)) new caller h (succeeded_by b caller from id leaf row h)) (own_is h caller.session by open_in)
      (refused_made g (full_faults h row) f (follows from id (newborn h leaf row by caller.cmd)) h rows new caller (added h stands.all.txs stands.all.rows)
      (λ store. came_on g old rows caller h h stands (nothing_came g h caller stands.good run) store));
  keeps = rows_keep old rows caller.session;
  waits = may.may.idle;
}
succeeded_run (Err NoMemory) old rows caller g from id leaf row by may version own keys of at taken mine added = no_memory_run g (λ (u : Unit {0}). u) old (record old { rows = rows }) caller (succeeded caller from id leaf row) (rows_keep old rows caller.session)
