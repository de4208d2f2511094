-- A table that is made.
use Rattle.std.proofs.Common.{◌≡◌, ℕ, ◌+◌, List, [], ◌++◌, refl, sym, ap, ◌∙◌, subst, arith, Option, Some, None, Result, Ok, Err}
use Rattle.pg_values.specs.declared.fault.Refusal.{Refusal}
use Rattle.pg_values.specs.declared.ids.TableNo.{TableNo}
use Rattle.bound_forms.specs.declared.level.Level.{Level as OneLevel}
use Rattle.history.specs.declared.transaction.TxId.{TxId}
use Rattle.history.specs.declared.catalogue.Column.{Column}
use Rattle.history.specs.Transactions.{open_of}
use Rattle.history.specs.Places.{KeysLieIn}
use Rattle.history.specs.History.{History, tx_events}
use Rattle.tx_table.specs.Stands.{TableStands}
use Rattle.row_store.specs.Kept.{KeptRows}
use Rattle.row_store.specs.Stands.{StoreStands}
use Rattle.part_catalog.specs.Kept.{KeptCatalogue}
use Rattle.part_catalog.specs.Stands.{CatalogueStands}
use Rattle.part_ddl.specs.Made.{IsMade}
use Rattle.part_ddl.specs.Tables.{KeysFit, count_faults, next_table, next_leaf, shape_of, new_table, table_events, made_table}
use Rattle.legal_statements.specs.Follows.{MayFollow}
use Rattle.legal_statements.specs.Laws.{NewLeafMayFollow, NewLevelMayFollow}
use Rattle.legal_statements.specs.Tables.{LeavesAreThere, IsNewTable}
use Rattle.stores.specs.Good.{IsGood}
use Rattle.stores.specs.Laws.{LeavesAreHoused}
use Rattle.stores.specs.Numbers.{IsAt}
use Rattle.stores.specs.declared.stores.Stores.{Stores}
use Rattle.stores.proofs.Commands.{commands_are_in_order}
use Rattle.stores.proofs.Goodness.{legal_of}
use Rattle.statement_steps.specs.Attempts.{MayAttempt}
use Rattle.statement_steps.specs.declared.caller.Caller.{Caller}
use Rattle.statement_steps.specs.Faults.{stop_of}
use Rattle.statement_steps.specs.Steps.{IsStep}
use Rattle.statement_steps.specs.Owned.{own}
use Rattle.statement_steps.proofs.Owned.{own_number, IsOwn, own_is}
use Rattle.table_statements.specs.Asked.{MayBeMade}
use Rattle.table_statements.specs.Tables.{table_made}
use Rattle.ddl_steps.proofs.Deeds.{Each, IsDone, AreHoused, HaveTables, IsDeed, deed_step, made_stands, not_made}
use Rattle.ddl_steps.proofs.Firsts.{few_tables}

pub record TableLaws : Type 0 where
  pub leaf : NewLeafMayFollow
  pub level : NewLevelMayFollow
  pub housed : LeavesAreHoused

-- ---- the new table

keys_lie : (h : History) (columns : List Column) (level : Option OneLevel) → KeysFit columns level → KeysLieIn columns (shape_of h level)
keys_lie h columns None fit = tt
keys_lie h columns (Some level) fit = fit

pub is_new : (h : History) (s : ℕ) (name : List ℕ) (columns : List Column) (level : Option OneLevel) (by : TxId) (cmd : ℕ) → IsAt h s cmd → open_of (tx_events h) s ≡ Some by.number → KeysFit columns level → MayBeMade h s name
    → IsNewTable h s (new_table h name columns level by cmd)
is_new h s name columns level by cmd at mine fit may = record {
  own = mine;
  command = commands_are_in_order h s by.number cmd at mine;
  number = refl;
  keys = keys_lie h columns level fit;
  free = may.free.absent;
  unclaimed = may.free.unclaimed;
}

leaves_there : LeavesAreHoused → (h : History) → IsGood h → LeavesAreThere h
leaves_there law h good x leaf at = law h x leaf good at

pub table_may : TableLaws → (h : History) (s : ℕ) (name : List ℕ) (columns : List Column) (level : Option OneLevel) (by : TxId) (cmd : ℕ) → IsGood h → IsNewTable h s (new_table h name columns level by cmd) → MayFollow (table_events h name columns level by cmd) h
table_may laws h s name columns None by cmd good new =
    (laws.leaf h s (new_table h name columns None by cmd) (next_leaf h) (legal_of h good) (leaves_there laws.housed h good) new (record { shape = refl; number = refl })).0
table_may laws h s name columns (Some level) by cmd good new = (laws.level h s (new_table h name columns (Some level) by cmd) level (legal_of h good) (leaves_there laws.housed h good) new refl).0

pub table_done : (h : History) (name : List ℕ) (columns : List Column) (level : Option OneLevel) (by : TxId) (cmd : ℕ) → Each (IsDone by.number cmd) (table_events h name columns level by cmd)
table_done h name columns None by cmd = (refl, (tt, tt))
table_done h name columns (Some level) by cmd = (refl, tt)

pub table_housed : (h : History) (name : List ℕ) (columns : List Column) (level : Option OneLevel) (by : TxId) (cmd : ℕ) → count_faults h ≡ [] → AreHoused (table_events h name columns level by cmd) h
table_housed h name columns None by cmd few = (record { leaf = omega arith; few = few_tables h few }, (tt, tt))
table_housed h name columns (Some level) by cmd few = (record { leaf = tt; few = few_tables h few }, tt)

pub table_leaves : (h : History) (name : List ℕ) (columns : List Column) (level : Option OneLevel) (by : TxId) (cmd : ℕ) → HaveTables (table_events h name columns level by cmd)
table_leaves h name columns None by cmd = omega arith
table_leaves h name columns (Some level) by cmd = omega arith

-- ---- the part

table_deed : TableLaws → (rows : KeptRows) (catalog : KeptCatalogue) (h : History) (s t : ℕ) (name : List ℕ) (columns : List Column) (level : Option OneLevel) (cmd : ℕ) → IsGood h → IsAt h s cmd → open_of (tx_events h) s ≡ Some t → KeysFit columns level → MayBeMade h s name
    → CatalogueStands catalog (table_events h name columns level (own h s) cmd ++ h) × StoreStands rows (table_events h name columns level (own h s) cmd ++ h) → IsDeed rows catalog t cmd (table_events h name columns level (own h s) cmd) h
table_deed laws rows catalog h s t name columns level cmd good at mine fit may stand =
    let by = own h s in
    let is = own_number h s t mine in
    let ours : open_of (tx_events h) s ≡ Some by.number = mine ∙ ap Some (sym is) in
    record {
      done = subst (λ (n : ℕ). Each (IsDone n cmd) (table_events h name columns level by cmd)) is (table_done h name columns level by cmd);
      may = table_may laws h s name columns level by cmd good (is_new h s name columns level by cmd at ours fit may);
      housed = table_housed h name columns level by cmd may.few;
      leaves = table_leaves h name columns level by cmd;
      catalogue = stand.0;
      store = stand.1;
    }

-- what the call says that makes the table
abbrev pub TellsTable : Result TableNo Refusal → Stores → KeptRows → KeptCatalogue → (name : List ℕ) → List Column → Option OneLevel → TxId → (cmd : ℕ) → Type 0
TellsTable r old rows catalog name columns level by cmd = (h : History) → CatalogueStands old.catalog h → StoreStands old.rows h → IsMade r catalog rows h (made_table h name columns level by cmd)

pub table_step : TableLaws → (old : Stores) (rows : KeptRows) (catalog : KeptCatalogue) (caller : Caller) (name : List ℕ) (columns : List Column) (level : Option OneLevel) (by : TxId) (u : TableNo) → MayAttempt old caller → KeysFit columns level
    → ((h : History) → TableStands old.txs h → CatalogueStands old.catalog h → MayBeMade h caller.session name) → IsOwn old caller.session by → TellsTable (Ok u) old rows catalog name columns level by caller.cmd
    → IsStep (λ (u : Unit {0}). u) (Ok tt) old (record old { rows = rows; catalog = catalog }) caller (caller.cmd + 1) (table_made caller name (record { columns = columns; level = level }))
table_step laws old rows catalog caller name columns level by u may fit free mine tells =
    let s = caller.session in
    deed_step old rows catalog caller (λ h. table_events h name columns level (own h s) caller.cmd) may
    (λ h t stands at its.
    let can = free h stands.all.txs stands.all.catalog in
    let same = own_is h s by (mine h stands.all.txs) in
    let is = subst (λ (b : TxId). IsMade (Ok u) catalog rows h (made_table h name columns level b caller.cmd)) same (tells h stands.all.catalog stands.all.rows) in
    table_deed laws rows catalog h s t name columns level caller.cmd stands.good at its fit can (made_stands (count_faults h) (next_table h) u (table_events h name columns level (own h s) caller.cmd) catalog rows h can.few is))

pub table_not_made : (old : Stores) (rows : KeptRows) (catalog : KeptCatalogue) (caller : Caller) (name : List ℕ) (columns : List Column) (level : Option OneLevel) (by : TxId) (r : Refusal) → MayAttempt old caller
    → ((h : History) → TableStands old.txs h → CatalogueStands old.catalog h → MayBeMade h caller.session name) → TellsTable (Err r) old rows catalog name columns level by caller.cmd
    → IsStep (λ (u : Unit {0}). u) (Err (stop_of r)) old (record old { rows = rows; catalog = catalog }) caller (caller.cmd + 1) (table_made caller name (record { columns = columns; level = level }))
table_not_made old rows catalog caller name columns level by r may free tells =
    let h = may.sound.0 in
    let stands = may.sound.1 in
    let can = free h stands.all.txs stands.all.catalog in
    not_made old rows catalog caller (table_made caller name (record { columns = columns; level = level })) r (count_faults h) (next_table h) (table_events h name columns level by caller.cmd) h can.few (tells h stands.all.catalog stands.all.rows)
