-- Rows that are stored are a part of the statement, its last one.
use Rattle.std.proofs.Common.{◌≡◌, ◌≢◌, ℕ, ◌+◌, List, [], ◌∷◌, ◌++◌, refl, sym, ap, ◌∙◌, subst, arith, append-nil, Some, Result, Ok, Err, find, unwrap_or}
use Rattle.std.specs.List.{Contains}
use Rattle.pg_values.specs.declared.value.Value.{Value}
use Rattle.pg_values.specs.declared.fault.Fault.{Fault}
use Rattle.pg_values.specs.declared.fault.Refusal.{Refusal}
use Rattle.pg_values.specs.declared.fault.Refusal.TheVariants.{Sql, NoMemory}
use Rattle.pg_values.specs.declared.ids.LeafId.{LeafId}
use Rattle.history.specs.declared.transaction.TxId.{TxId}
use Rattle.history.specs.declared.version.Version.{Version}
use Rattle.history.specs.Transactions.{IsRunning, IsSound, open_of}
use Rattle.history.specs.Snapshots.{TakenSnapshot}
use Rattle.history.specs.Locks.{queue}
use Rattle.history.specs.History.{History, tx_events, snapshot_events, lock_events, RowChange}
use Rattle.history.specs.Rows.{RowBorn}
use Rattle.history.proofs.Open.{open_runs}
use Rattle.tx_table.specs.Stands.{StandsFor, TableStands}
use Rattle.lock_table.specs.Stands.{StandsFor as LocksFor}
use Rattle.row_store.specs.Kept.{KeptRows}
use Rattle.row_store.specs.Stands.{StoreStands}
use Rattle.part_catalog.specs.Stands.{CatalogueStands}
use Rattle.row_change.specs.declared.target.Target.{Target}
use Rattle.row_change.specs.Storing.{all_stored, IsMade, is_into, leaf_faults}
use Rattle.row_change.specs.Placing.{tables_of}
use Rattle.row_change.proofs.Quiet.{Quiet}
use Rattle.legal_statements.specs.Rows.{IsStored, AreNewRows, rows_born}
use Rattle.legal_statements.proofs.Births.{new_rows_may_follow}
use Rattle.stores.specs.Events.{tx_in}
use Rattle.stores.specs.Numbers.{IsAt}
use Rattle.stores.specs.Stand.{AllStand, Stands}
use Rattle.stores.specs.declared.stores.Stores.{Stores}
use Rattle.stores.proofs.Goodness.{legal_of, permitted_of}
use Rattle.stores.proofs.Standing.{catalogue_stands}
use Rattle.stores.proofs.Commands.{goes_on, commands_are_in_order}
use Rattle.statement_steps.specs.Attempts.{MayAttempt, WentOn, GoesOn}
use Rattle.statement_steps.specs.declared.caller.Caller.{Caller}
use Rattle.statement_steps.specs.Steps.{IsStep}
use Rattle.statement_steps.specs.Waiting.{AddNone, Since}
use Rattle.statement_steps.proofs.Parts.{no_memory}
use Rattle.statement_steps.proofs.Since.{add_append}
use Rattle.insert_statement.specs.Born.{all_born}
use Rattle.statement_steps.specs.Faults.{stop_of}
use Rattle.insert_statement.specs.Asked.{MayGo, MayPut, put}
use Rattle.insert_statement.proofs.Births.{Births, all_births, quiet, good_rows, all_before}
use Rattle.insert_statement.proofs.Same.{SameMade, same_all, told_as}
use Rattle.statement_steps.specs.Owned.{own}
use Rattle.statement_steps.proofs.Open.{one_session}

-- ---- the stores after it

stored_stand : (old : Stores) (rows : KeptRows) (g h : History) → Quiet g h → StoreStands rows g → AllStand old h → AllStand (record old { rows = rows }) g
stored_stand old rows g h q new st = record {
  txs = subst (λ t. StandsFor old.txs t (snapshot_events g)) (sym q.txs) (subst (StandsFor old.txs (tx_events h)) (sym q.snapshots) st.txs);
  rows = new;
  catalog = catalogue_stands old.catalog h g q.txs q.catalogue (q.sound st.catalog.sound) st.catalog;
  locks = subst (LocksFor old.locks) (sym q.locks) st.locks;
}

-- ---- whose transaction it is

at_later : (vs : List Version) (h : History) (s tx cmd : ℕ) → open_of (tx_events h) s ≡ Some tx → ((v : Version) → Contains vs v → v.cmd ≡ cmd) → IsAt h s cmd → IsAt (rows_born vs ++ h) s (cmd + 1)
at_later vs h s tx cmd mine by at =
    goes_on (rows_born vs) h s cmd (cmd + 1) (omega arith) at (ap (λ t. open_of t s) (quiet vs h).txs)
    (λ t is. all_before vs t (cmd + 1) (λ v at same. let e = by v at in omega (arith, e)))

others_stay : (vs : List Version) (h : History) (s r tx n : ℕ) → IsSound (tx_events h) → open_of (tx_events h) s ≡ Some tx → ((v : Version) → Contains vs v → v.by.number ≡ tx) → r ≢ s → IsAt h r n → IsAt (rows_born vs ++ h) r n
others_stay vs h s r tx n sound mine by other at =
    goes_on (rows_born vs) h r n n (omega arith) at (ap (λ t. open_of t r) (quiet vs h).txs)
    (λ t is. all_before vs t n (λ v at same. absurd (other (one_session (tx_events h) r s t tx sound is mine (sym same ∙ by v at)))))

rows_add_none : (t : ℕ) (vs : List Version) → AddNone t (rows_born vs)
rows_add_none t [] = tt
rows_add_none t (v ∷ vs) = add_append t (rows_born vs) (RowChange (RowBorn v) ∷ []) (rows_add_none t vs) (tt, tt)

since_born : (vs : List Version) (h : History) (r : ℕ) → Since r h (rows_born vs ++ h)
since_born vs h r = record { events = rows_born vs; is = refl; same = ap (λ t. open_of t r) (quiet vs h).txs; others = λ t own. rows_add_none t vs }

-- ---- the new versions

stored_at : (h : History) (s table : ℕ) (look : TakenSnapshot) (v : Version) → MayGo h s table look v.leaf v.row → IsStored h s table look v
stored_at h s table look v may = record { columns = may.columns; placed = may.placed; routed = may.routed; passes = may.passes; locked = may.locked; leaf = may.there }

new_rows : (h : History) (s tx cmd : ℕ) (by : TxId) (targets : List Target) (ls : List LeafId) (rs : List (List Value)) (events : History) (may : MayPut h s targets ls rs) (b : Births h by cmd (MayGo h s may.table may.look) events)
    → by.number ≡ tx → open_of (tx_events h) s ≡ Some tx → IsAt h s cmd → AreNewRows h s may.table may.look tx cmd b.rows
new_rows h s tx cmd by targets ls rs events may b is mine at = record {
  look = may.own_look;
  own = mine;
  command = commands_are_in_order h s tx cmd at mine;
  made = may.made;
  by = λ v in_rows. ((b.each v in_rows).0 ∙ is, (b.each v in_rows).1);
  stored = λ v in_rows. stored_at h s may.table may.look v (b.each v in_rows).2;
  numbered = b.numbered;
}

born_on : (old : Stores) (rows : KeptRows) (h : History) (s tx cmd : ℕ) (by : TxId) (targets : List Target) (ls : List LeafId) (rs : List (List Value)) (events : History) (may : MayPut h s targets ls rs) (b : Births h by cmd (MayGo h s may.table may.look) events)
    → by.number ≡ tx → Stands old h → IsAt h s cmd → open_of (tx_events h) s ≡ Some tx → IsRunning (tx_events h) tx → StoreStands rows (rows_born b.rows ++ h) → WentOn h s (cmd + 1) [] (record old { rows = rows }) (rows_born b.rows ++ h)
born_on old rows h s tx cmd by targets ls rs events may b is stands at mine running store =
    let q = quiet b.rows h in
    let follow = new_rows_may_follow h s may.table may.look tx cmd b.rows (legal_of h stands.good) (permitted_of h stands.good) (new_rows h s tx cmd by targets ls rs events may b is mine at) in
    let by_it : (v : Version) → Contains b.rows v → v.by.number ≡ tx = λ v in_rows. (b.each v in_rows).0 ∙ is in
    record {
      stands = record {
        all = stored_stand old rows (rows_born b.rows ++ h) h q store stands.all;
        good = good_rows b.rows h tx follow by_it running stands.good;
        leaves = (let few = stands.leaves in let now = store.leaves in let was = stands.all.rows.leaves in let same = q.leaves in omega (arith, few, now, was, same));
      };
      at = at_later b.rows h s tx cmd mine (λ v in_rows. (b.each v in_rows).1) at;
      others = λ r n other at_it. others_stay b.rows h s r tx n stands.all.txs.sound mine by_it other at_it;
      since = λ r other. since_born b.rows h r;
      queue = ap queue q.locks ∙ sym (append-nil (queue (lock_events h)));
    }

went : (old : Stores) (rows : KeptRows) (caller : Caller) (targets : List Target) (ls : List LeafId) (rs : List (List Value)) (h : History) (tx : ℕ) → Stands old h → IsAt h caller.session caller.cmd → open_of (tx_events h) caller.session ≡ Some tx
    → MayPut h caller.session targets ls rs → StoreStands rows ((put targets caller ls rs h).events ++ h) → WentOn h caller.session (caller.cmd + 1) [] (record old { rows = rows }) ((put targets caller ls rs h).events ++ h)
went old rows caller targets ls rs h tx stands at mine may store =
    let s = caller.session in
    let by = own h s in
    let b = all_births by caller.cmd (λ l row. leaf_faults (tables_of h) (find (is_into l) targets) row) (MayGo h s may.table may.look) ls rs h may.go in
    let is : by.number ≡ tx = ap (λ o. unwrap_or o 0) mine in
    subst (λ es. StoreStands rows (es ++ h) → WentOn h s (caller.cmd + 1) [] (record old { rows = rows }) (es ++ h)) (sym b.is)
    (born_on old rows h s tx caller.cmd by targets ls rs (put targets caller ls rs h).events may b is stands at mine (open_runs (tx_events h) s tx stands.all.txs.sound mine)) store

-- ---- the part

rows_keep : (old : Stores) (rows : KeptRows) (s : ℕ) → GoesOn old (record old { rows = rows }) s
rows_keep old rows s = record {
  transactions = refl;
  locks = λ r t m e. e;
  others = λ r other. refl;
  size = record { sessions = refl; tables = refl };
}

-- by the session's own transaction
pub record IsPut (old : Stores) (rows : KeptRows) (caller : Caller) (targets : List Target) (ls : List LeafId) (rs : List (List Value)) (result : Result (Unit {0}) Refusal) : Type 0 where
  pub by : TxId
  pub own : (h : History) → TableStands old.txs h → Some by.number ≡ open_of (tx_events h) caller.session
  pub may : (h : History) → Stands old h → MayPut h caller.session targets ls rs
  pub made : (h : History) → TableStands old.txs h → CatalogueStands old.catalog h → StoreStands old.rows h → IsMade result rows h (all_stored targets by caller.cmd h ls rs)

same_put : (caller : Caller) (targets : List Target) (ls : List LeafId) (rs : List (List Value)) (by : TxId) (h : History) → Some by.number ≡ open_of (tx_events h) caller.session → SameMade (all_stored targets by caller.cmd h ls rs) (put targets caller ls rs h)
same_put caller targets ls rs by h mine =
    let is : by.number ≡ tx_in h caller.session = ap (λ o. unwrap_or o 0) mine in
    let id : ℕ → TxId = λ n. record { number = n } in
    let same : by ≡ own h caller.session = ap id is in
    subst (λ b. SameMade (all_stored targets by caller.cmd h ls rs) (all_born b caller.cmd (λ l row. leaf_faults (tables_of h) (find (is_into l) targets) row) ls rs h)) same (same_all targets by caller.cmd (tables_of h) ls rs h refl)

-- what came of it is told, and the stores stand for what was made
put_told : (old : Stores) (rows : KeptRows) (caller : Caller) (targets : List Target) (ls : List LeafId) (rs : List (List Value)) (told : Result (Unit {0}) Fault) (h : History) (by : TxId) → Some by.number ≡ open_of (tx_events h) caller.session → Stands old h → IsAt h caller.session caller.cmd
    → MayPut h caller.session targets ls rs → (all_stored targets by caller.cmd h ls rs).told ≡ told → StoreStands rows ((all_stored targets by caller.cmd h ls rs).events ++ h)
    → ((put targets caller ls rs h).told ≡ told_as told) × WentOn h caller.session (caller.cmd + 1) [] (record old { rows = rows }) ((put targets caller ls rs h).events ++ h)
put_told old rows caller targets ls rs told h by mine stands at may is store =
    let same = same_put caller targets ls rs by h mine in
    (sym same.told ∙ ap told_as is, went old rows caller targets ls rs h by.number stands at (sym mine) may (subst (λ es. StoreStands rows (es ++ h)) same.events store))

pub put_ok : (old : Stores) (rows : KeptRows) (caller : Caller) (targets : List Target) (ls : List LeafId) (rs : List (List Value)) → MayAttempt old caller → IsPut old rows caller targets ls rs (Ok tt)
    → IsStep (λ (u : Unit {0}). u) (Ok tt) old (record old { rows = rows }) caller (caller.cmd + 1) (put targets caller ls rs)
put_ok old rows caller targets ls rs may it = record {
  is = λ h stands at.
      let made = it.made h stands.all.txs stands.all.catalog stands.all.rows in
      put_told old rows caller targets ls rs (Ok tt) h it.by (it.own h stands.all.txs) stands at (it.may h stands) made.0 made.1;
  keeps = rows_keep old rows caller.session;
  waits = may.idle;
}

pub put_refused : (old : Stores) (rows : KeptRows) (caller : Caller) (targets : List Target) (ls : List LeafId) (rs : List (List Value)) (refusal : Refusal) → MayAttempt old caller → IsPut old rows caller targets ls rs (Err refusal)
    → IsStep (λ (u : Unit {0}). u) (Err (stop_of refusal)) old (record old { rows = rows }) caller (caller.cmd + 1) (put targets caller ls rs)
put_refused old rows caller targets ls rs (Sql f) may it = record {
  is = λ h stands at.
      let made = it.made h stands.all.txs stands.all.catalog stands.all.rows in
      put_told old rows caller targets ls rs (Err f) h it.by (it.own h stands.all.txs) stands at (it.may h stands) made.0 made.1;
  keeps = rows_keep old rows caller.session;
  waits = may.idle;
}
put_refused old rows caller targets ls rs NoMemory may it = no_memory (λ (u : Unit {0}). u) old (record old { rows = rows }) caller (caller.cmd + 1) (put targets caller ls rs) (rows_keep old rows caller.session)
