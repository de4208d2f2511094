-- What a command of the session's transaction does to the catalogue and to the leaves.
use Rattle.std.proofs.Common.{◌≡◌, ◌≢◌, ℕ, ◌+◌, ◌<◌, ◌≤◌, List, [], ◌∷◌, ◌++◌, refl, sym, ap, ◌∙◌, subst, arith, append-nil, Option, Some, Ok, Err, All, length, unwrap_or}
use Rattle.std.proofs.lemmas.List.{length-append}
use Rattle.std.proofs.lemmas.List.Elements.{All-nil, All-cons}
use Rattle.pg_values.specs.declared.fault.Fault.{Fault}
use Rattle.pg_values.specs.declared.fault.Refusal.{Refusal}
use Rattle.pg_values.specs.declared.fault.Refusal.TheVariants.{Sql, NoMemory}
use Rattle.pg_values.specs.declared.ids.TableNo.{TableNo}
use Rattle.history.specs.Transactions.{TxEvents, IsRunning, IsSound, open_of}
use Rattle.history.specs.Locks.{queue}
use Rattle.history.specs.Rows.{LeafAdded, RowBorn, RowEnded, leaf_count}
use Rattle.history.specs.Catalogue.{CatalogueEvent, TableMade, TableDropped, EntryAdded, EntryEnded, EntryMarked, CheckKept, catalogue_command, tables_made}
use Rattle.history.specs.History.{Event, History, TxChange, SnapshotChange, RowChange, LockChange, CatalogueChange, tx_events, snapshot_events, row_events, catalogue_events, lock_events}
use Rattle.history.specs.Legal.{IsNotAfter, IsInOrder}
use Rattle.history.proofs.Open.{open_runs}
use Rattle.tx_table.specs.Stands.{StandsFor}
use Rattle.lock_table.specs.Stands.{StandsFor as LocksFor}
use Rattle.row_store.specs.Kept.{KeptRows}
use Rattle.row_store.specs.Stands.{StoreStands}
use Rattle.part_catalog.specs.Kept.{KeptCatalogue}
use Rattle.part_catalog.specs.Stands.{CatalogueStands}
use Rattle.part_ddl.specs.Made.{made_by, IsMade}
use Rattle.part_ddl.proofs.Making.{table_count}
use Rattle.legal_statements.specs.Follows.{MayFollow}
use Rattle.stores.specs.Good.{IsActing, IsHoused, IsGood}
use Rattle.stores.specs.Numbers.{IsEarlier, IsBefore, IsAt}
use Rattle.stores.specs.Stand.{Stands}
use Rattle.stores.specs.declared.stores.Stores.{Stores}
use Rattle.stores.proofs.Commands.{goes_on}
use Rattle.statement_steps.specs.Made.{Made, made}
use Rattle.statement_steps.specs.Attempts.{MayAttempt, WentOn}
use Rattle.statement_steps.specs.Waiting.{AddsNone, AddNone, Since}
use Rattle.statement_steps.specs.declared.caller.Caller.{Caller}
use Rattle.statement_steps.specs.Faults.{stop_of}
use Rattle.statement_steps.specs.Steps.{IsStep}
use Rattle.statement_steps.proofs.Parts.{own_tx, locks_same, no_memory}
use Rattle.statement_steps.proofs.Open.{one_session}

-- ---- lists of events

abbrev pub Each : (Event → Type 0) → List Event → Type 0
Each P [] = Unit {0}
Each P (e ∷ es) = P e × Each P es

pub each_append : (P : Event → Type 0) (es fs : List Event) → Each P es → Each P fs → Each P (es ++ fs)
each_append P [] fs a b = b
each_append P (e ∷ es) fs a b = (a.0, each_append P es fs a.1 b)

-- by the command, or the next leaf
abbrev pub IsDone : (t cmd : ℕ) → Event → Type 0
IsDone t cmd (CatalogueChange e) = catalogue_command e ≡ Some (t, cmd)
IsDone t cmd (RowChange (LeafAdded l)) = Unit {0}
IsDone t cmd _ = ⊥

abbrev pub AreHoused : List Event → History → Type 0
AreHoused [] h = Unit {0}
AreHoused (e ∷ es) h = IsHoused e (es ++ h) × AreHoused es h

-- ---- what they leave as it was

pub record Quiet (g h : History) : Type 0 where
  pub txs : tx_events g ≡ tx_events h
  pub snapshots : snapshot_events g ≡ snapshot_events h
  pub locks : lock_events g ≡ lock_events h

pub quiet : (t cmd : ℕ) (es : List Event) (h : History) → Each (IsDone t cmd) es → Quiet (es ++ h) h
quiet t cmd [] h done = record { txs = refl; snapshots = refl; locks = refl }
quiet t cmd (TxChange e ∷ es) h done = absurd done.0
quiet t cmd (SnapshotChange e ∷ es) h done = absurd done.0
quiet t cmd (LockChange e ∷ es) h done = absurd done.0
quiet t cmd (RowChange e ∷ es) h done = let q = quiet t cmd es h done.1 in record { txs = q.txs; snapshots = q.snapshots; locks = q.locks }
quiet t cmd (CatalogueChange e ∷ es) h done = let q = quiet t cmd es h done.1 in record { txs = q.txs; snapshots = q.snapshots; locks = q.locks }

-- ---- numbers of commands

catalogue_before : (t cmd u n : ℕ) (e : CatalogueEvent) → catalogue_command e ≡ Some (t, cmd) → (u ≡ t → cmd < n) → IsBefore u n (CatalogueChange e)
catalogue_before t cmd u n e is low = subst (λ (c : Option (ℕ × ℕ)). IsEarlier u n c) (sym is) (λ same. low (sym same))

all_before : (t cmd u n : ℕ) (es : List Event) → Each (IsDone t cmd) es → (u ≡ t → cmd < n) → All (IsBefore u n) es
all_before t cmd u n [] done low = All-nil (IsBefore u n)
all_before t cmd u n (TxChange e ∷ es) done low = absurd done.0
all_before t cmd u n (SnapshotChange e ∷ es) done low = absurd done.0
all_before t cmd u n (LockChange e ∷ es) done low = absurd done.0
all_before t cmd u n (RowChange (LeafAdded l) ∷ es) done low = All-cons (IsBefore u n) (RowChange (LeafAdded l)) es tt (all_before t cmd u n es done.1 low)
all_before t cmd u n (RowChange (RowBorn v) ∷ es) done low = absurd done.0
all_before t cmd u n (RowChange (RowEnded k e) ∷ es) done low = absurd done.0
all_before t cmd u n (CatalogueChange e ∷ es) done low = All-cons (IsBefore u n) (CatalogueChange e) es (catalogue_before t cmd u n e done.0 low) (all_before t cmd u n es done.1 low)

pub at_later : (t cmd : ℕ) (es : List Event) (h : History) (s : ℕ) → Each (IsDone t cmd) es → IsAt h s cmd → IsAt (es ++ h) s (cmd + 1)
at_later t cmd es h s done at =
    goes_on es h s cmd (cmd + 1) (omega arith) at (ap (λ (x : TxEvents). open_of x s) (quiet t cmd es h done).txs) (λ u own. all_before t cmd u (cmd + 1) es done (λ same. omega arith))

others_stay : (t cmd : ℕ) (es : List Event) (h : History) (s r n : ℕ) → Each (IsDone t cmd) es → IsSound (tx_events h) → open_of (tx_events h) s ≡ Some t → r ≢ s → IsAt h r n → IsAt (es ++ h) r n
others_stay t cmd es h s r n done sound mine other at =
    goes_on es h r n n (omega arith) at (ap (λ (x : TxEvents). open_of x r) (quiet t cmd es h done).txs)
    (λ u its. all_before t cmd u n es done (λ same. absurd (other (one_session (tx_events h) r s u t sound its mine same))))

-- they add no entry of another session's transaction
entry_of : (t cmd u : ℕ) (e : CatalogueEvent) → catalogue_command e ≡ Some (t, cmd) → (u ≡ t → ⊥) → AddsNone u (CatalogueChange e)
entry_of t cmd u (TableMade x) is other = tt
entry_of t cmd u (TableDropped x s) is other = tt
entry_of t cmd u (EntryAdded e) is other = λ same. other (let both : Some (e.by.number, e.cmd) ≡ Some (t, cmd) = is in let by : e.by.number ≡ t = ap (λ (o : Option (ℕ × ℕ)). (unwrap_or o (0, 0)).0) both in sym same ∙ by)
entry_of t cmd u (EntryEnded k s) is other = tt
entry_of t cmd u (EntryMarked k s) is other = tt
entry_of t cmd u (CheckKept c) is other = tt

none_added : (t cmd u : ℕ) (es : List Event) → Each (IsDone t cmd) es → (u ≡ t → ⊥) → AddNone u es
none_added t cmd u [] done other = tt
none_added t cmd u (TxChange e ∷ es) done other = absurd done.0
none_added t cmd u (SnapshotChange e ∷ es) done other = absurd done.0
none_added t cmd u (LockChange e ∷ es) done other = absurd done.0
none_added t cmd u (RowChange e ∷ es) done other = (tt, none_added t cmd u es done.1 other)
none_added t cmd u (CatalogueChange e ∷ es) done other = (entry_of t cmd u e done.0 other, none_added t cmd u es done.1 other)

pub since_deeds : (t cmd : ℕ) (es : List Event) (h : History) (s r : ℕ) → Each (IsDone t cmd) es → IsSound (tx_events h) → open_of (tx_events h) s ≡ Some t → r ≢ s → Since r h (es ++ h)
since_deeds t cmd es h s r done sound mine other = record {
  events = es;
  is = refl;
  same = ap (λ (x : TxEvents). open_of x r) (quiet t cmd es h done).txs;
  others = λ u its. none_added t cmd u es done (λ same. other (one_session (tx_events h) r s u t sound its mine same));
}

-- the command itself may go on
catalogue_after : (t cmd : ℕ) (e : CatalogueEvent) → catalogue_command e ≡ Some (t, cmd) → IsNotAfter (catalogue_command e) (Some (t, cmd))
catalogue_after t cmd e is = subst (λ (c : Option (ℕ × ℕ)). IsNotAfter c (Some (t, cmd))) (sym is) (λ same. omega arith)

pub in_order_after : (t cmd : ℕ) (es : List Event) (h : History) → Each (IsDone t cmd) es → IsInOrder (Some (t, cmd)) h → IsInOrder (Some (t, cmd)) (es ++ h)
in_order_after t cmd [] h done order = order
in_order_after t cmd (TxChange e ∷ es) h done order = absurd done.0
in_order_after t cmd (SnapshotChange e ∷ es) h done order = absurd done.0
in_order_after t cmd (LockChange e ∷ es) h done order = absurd done.0
in_order_after t cmd (RowChange (LeafAdded l) ∷ es) h done order = (tt, in_order_after t cmd es h done.1 order)
in_order_after t cmd (RowChange (RowBorn v) ∷ es) h done order = absurd done.0
in_order_after t cmd (RowChange (RowEnded k e) ∷ es) h done order = absurd done.0
in_order_after t cmd (CatalogueChange e ∷ es) h done order = (catalogue_after t cmd e done.0, in_order_after t cmd es h done.1 order)

-- ---- how many leaves and tables there are then

leaves_on : (es h : History) → leaf_count (row_events (es ++ h)) ≡ leaf_count (row_events es) + leaf_count (row_events h)
leaves_on [] h = omega arith
leaves_on (TxChange e ∷ es) h = leaves_on es h
leaves_on (SnapshotChange e ∷ es) h = leaves_on es h
leaves_on (LockChange e ∷ es) h = leaves_on es h
leaves_on (RowChange (LeafAdded l) ∷ es) h = let on = leaves_on es h in omega (arith, on)
leaves_on (RowChange (RowBorn v) ∷ es) h = leaves_on es h
leaves_on (RowChange (RowEnded k e) ∷ es) h = leaves_on es h
leaves_on (CatalogueChange e ∷ es) h = leaves_on es h

tables_on : (es h : History) → length (tables_made (catalogue_events (es ++ h))) ≡ length (tables_made (catalogue_events es)) + length (tables_made (catalogue_events h))
tables_on [] h = omega arith
tables_on (TxChange e ∷ es) h = tables_on es h
tables_on (SnapshotChange e ∷ es) h = tables_on es h
tables_on (LockChange e ∷ es) h = tables_on es h
tables_on (RowChange e ∷ es) h = tables_on es h
tables_on (CatalogueChange (TableMade t) ∷ es) h =
    let on = tables_on es h in
    let more = length-append (tables_made (catalogue_events (es ++ h))) (t ∷ []) in
    let own = length-append (tables_made (catalogue_events es)) (t ∷ []) in
    omega (arith, on, more, own)
tables_on (CatalogueChange (TableDropped k s) ∷ es) h = tables_on es h
tables_on (CatalogueChange (EntryAdded e) ∷ es) h = tables_on es h
tables_on (CatalogueChange (EntryEnded k s) ∷ es) h = tables_on es h
tables_on (CatalogueChange (EntryMarked k s) ∷ es) h = tables_on es h
tables_on (CatalogueChange (CheckKept c) ∷ es) h = tables_on es h

-- each leaf that they add is that of a table
abbrev pub HaveTables : List Event → Type 0
HaveTables es = leaf_count (row_events es) ≤ length (tables_made (catalogue_events es))

-- ---- they are good

acting : (txs : TxEvents) (t cmd : ℕ) (c : Option (ℕ × ℕ)) → c ≡ Some (t, cmd) → IsRunning txs t → IsActing txs c
acting txs t cmd c is running = subst (λ (x : Option (ℕ × ℕ)). IsActing txs x) (sym is) running

pub done_good : (t cmd : ℕ) (es : List Event) (h : History) → Each (IsDone t cmd) es → MayFollow es h → AreHoused es h → IsRunning (tx_events h) t → IsGood h → IsGood (es ++ h)
done_good t cmd [] h done may housed running good = good
done_good t cmd (TxChange e ∷ es) h done may housed running good = absurd done.0
done_good t cmd (SnapshotChange e ∷ es) h done may housed running good = absurd done.0
done_good t cmd (LockChange e ∷ es) h done may housed running good = absurd done.0
done_good t cmd (RowChange (LeafAdded l) ∷ es) h done may housed running good = (
  record { legal = may.0.legal; in_order = may.0.in_order; permitted = may.0.permitted; acting = tt; released = tt; housed = tt },
  done_good t cmd es h done.1 may.1 housed.1 running good,
)
done_good t cmd (RowChange (RowBorn v) ∷ es) h done may housed running good = absurd done.0
done_good t cmd (RowChange (RowEnded k e) ∷ es) h done may housed running good = absurd done.0
done_good t cmd (CatalogueChange e ∷ es) h done may housed running good =
    let runs : IsRunning (tx_events (es ++ h)) t = subst (λ (x : TxEvents). IsRunning x t) (sym (quiet t cmd es h done.1).txs) running in (
      record {
        legal = may.0.legal;
        in_order = may.0.in_order;
        permitted = may.0.permitted;
        acting = acting (tx_events (es ++ h)) t cmd (catalogue_command e) done.0 runs;
        released = tt;
        housed = housed.0;
      },
      done_good t cmd es h done.1 may.1 housed.1 running good,
    )

-- ---- the stores after it

-- what a command did, and that the rows and the catalogue tell of it
pub record IsDeed (rows : KeptRows) (catalog : KeptCatalogue) (t cmd : ℕ) (es : List Event) (h : History) : Type 0 where
  pub done : Each (IsDone t cmd) es
  pub may : MayFollow es h
  pub housed : AreHoused es h
  pub leaves : HaveTables es
  pub catalogue : CatalogueStands catalog (es ++ h)
  pub store : StoreStands rows (es ++ h)

leaves_few : (old : Stores) (rows : KeptRows) (catalog : KeptCatalogue) (es : List Event) (h : History) → Stands old h → HaveTables es → CatalogueStands catalog (es ++ h) → StoreStands rows (es ++ h) → rows.leaves ≤ length catalog.tables
leaves_few old rows catalog es h stands have cats store =
    let few = stands.leaves in
    let rows_were = stands.all.rows.leaves in
    let rows_are = store.leaves in
    let tables_were = table_count old.catalog h stands.all.catalog in
    let tables_are = table_count catalog (es ++ h) cats in
    let leaves = leaves_on es h in
    let tables = tables_on es h in
    omega (arith, few, have, rows_were, rows_are, tables_were, tables_are, leaves, tables)

pub deed_stands : (old : Stores) (rows : KeptRows) (catalog : KeptCatalogue) (s t cmd : ℕ) (es : List Event) (h : History) → Stands old h → open_of (tx_events h) s ≡ Some t → IsDeed rows catalog t cmd es h → Stands (record old { rows = rows; catalog = catalog }) (es ++ h)
deed_stands old rows catalog s t cmd es h stands own deed =
    let q = quiet t cmd es h deed.done in
    let g = es ++ h in
    record {
      all = record {
        txs = subst (λ (x : TxEvents). StandsFor old.txs x (snapshot_events g)) (sym q.txs) (subst (StandsFor old.txs (tx_events h)) (sym q.snapshots) stands.all.txs);
        rows = deed.store;
        catalog = deed.catalogue;
        locks = subst (LocksFor old.locks) (sym q.locks) stands.all.locks;
      };
      good = done_good t cmd es h deed.done deed.may deed.housed (open_runs (tx_events h) s t stands.all.txs.sound own) stands.good;
      leaves = leaves_few old rows catalog es h stands deed.leaves deed.catalogue deed.store;
    }

-- the history went on by what was done so far
pub went : (new : Stores) (s t cmd : ℕ) (es : List Event) (h : History) → IsSound (tx_events h) → open_of (tx_events h) s ≡ Some t → IsAt h s cmd → Each (IsDone t cmd) es → Stands new (es ++ h) → WentOn h s (cmd + 1) [] new (es ++ h)
went new s t cmd es h sound own at done stands = record {
  stands = stands;
  at = at_later t cmd es h s done at;
  others = λ r n other its. others_stay t cmd es h s r n done sound own other its;
  since = λ r other. since_deeds t cmd es h s r done sound own other;
  queue = ap queue (quiet t cmd es h done).locks ∙ sym (append-nil (queue (lock_events h)));
}

-- ---- the part

pub deed_step : (old : Stores) (rows : KeptRows) (catalog : KeptCatalogue) (caller : Caller) (events : History → List Event) → MayAttempt old caller
    → ((h : History) (t : ℕ) → Stands old h → IsAt h caller.session caller.cmd → open_of (tx_events h) caller.session ≡ Some t → IsDeed rows catalog t caller.cmd (events h) h)
    → IsStep (λ (u : Unit {0}). u) (Ok tt) old (record old { rows = rows; catalog = catalog }) caller (caller.cmd + 1) (λ h. made (events h) tt)
deed_step old rows catalog caller events may does = record {
  is = λ h stands at.
      let own = own_tx old caller h may stands in
      let deed = does h own.0 stands at own.1 in
      let s = caller.session in
      (refl, went (record old { rows = rows; catalog = catalog }) s own.0 caller.cmd (events h) h stands.all.txs.sound own.1 at deed.done (deed_stands old rows catalog s own.0 caller.cmd (events h) h stands own.1 deed));
  keeps = locks_same old (record old { rows = rows; catalog = catalog }) caller.session refl refl;
  waits = may.idle;
}

-- ---- a table that is made where there is room for it

pub made_stands : (fs : List Fault) (t u : TableNo) (events : History) (catalog : KeptCatalogue) (rows : KeptRows) (h : History) → fs ≡ [] → IsMade (Ok u) catalog rows h (made_by fs t events) → CatalogueStands catalog (events ++ h) × StoreStands rows (events ++ h)
made_stands [] t u events catalog rows h none is = (is.1.catalogue, is.1.rows)
made_stands (f ∷ fs) t u events catalog rows h none is = absurd (let c = none in cc)

only_memory : (r : Refusal) (fs : List Fault) (t : TableNo) (events : History) (catalog : KeptCatalogue) (rows : KeptRows) (h : History) → fs ≡ [] → IsMade (Err r) catalog rows h (made_by fs t events) → r ≡ NoMemory
only_memory (Sql f) [] t events catalog rows h none is = absurd (let c = is.0 in cc)
only_memory (Sql f) (g ∷ gs) t events catalog rows h none is = absurd (let c = none in cc)
only_memory NoMemory fs t events catalog rows h none is = refl

pub not_made : (old : Stores) (rows : KeptRows) (catalog : KeptCatalogue) (caller : Caller) (f : History → Made (Unit {0})) (r : Refusal) (fs : List Fault) (t : TableNo) (events : History) (h : History) → fs ≡ [] → IsMade (Err r) catalog rows h (made_by fs t events)
    → IsStep (λ (u : Unit {0}). u) (Err (stop_of r)) old (record old { rows = rows; catalog = catalog }) caller (caller.cmd + 1) f
not_made old rows catalog caller f r fs t events h none is =
    subst (λ (x : Refusal). IsStep (λ (u : Unit {0}). u) (Err (stop_of x)) old (record old { rows = rows; catalog = catalog }) caller (caller.cmd + 1) f) (sym (only_memory r fs t events catalog rows h none is))
    (no_memory (λ (u : Unit {0}). u) old (record old { rows = rows; catalog = catalog }) caller (caller.cmd + 1) f (locks_same old (record old { rows = rows; catalog = catalog }) caller.session refl refl))
