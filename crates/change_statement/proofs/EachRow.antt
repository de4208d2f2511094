-- One row after the other.
use Rattle.std.proofs.Common.{◌≡◌, ℕ, ◌+◌, ◌<◌, true, List, [], ◌∷◌, refl, ap, sym, ◌∙◌, subst, arith, Option, Some, None, Result, Ok, Err, IsErrAnd, All, length, slice_index_or}
use Rattle.std.proofs.lemmas.List.Elements.{All-tail}
use Rattle.std.proofs.lemmas.Result.{err_from_is_err_and}
use Rattle.pg_values.specs.declared.value.Value.{Value}
use Rattle.pg_values.specs.declared.fault.Fault.{Fault}
use Rattle.pg_values.specs.declared.ids.RowId.{RowId}
use Rattle.pg_values.specs.declared.ids.TableNo.{TableNo}
use Rattle.std.specs.List.{Contains}
use Rattle.history.specs.History.{History, catalogue_events}
use Rattle.tx_table.specs.Stands.{TableStands, sees_now_by}
use Rattle.row_store.specs.declared.scan.SeenRow.{SeenRow}
use Rattle.row_store.specs.Kept.{KeptRows, stored_at}
use Rattle.row_store.specs.Stands.{StoreStands}
use Rattle.row_change.specs.Succession.{KeepsVersions}
use Rattle.row_change.specs.Ways.{AllTables, AllTablesOf}
use Rattle.row_router.specs.Trees.{TableTree, LeafTable, LevelTable, Trees, End, More}
use Rattle.part_catalog.specs.Stands.{CatalogueStands}
use Rattle.change_statement.specs.Targets.{targets}
use Rattle.change_statement.specs.Verdicts.{UpdaterMeant, Decision, Changes, PassesBy, WaitsFor, Refuses, decided, MayEnd}
use Rattle.change_statement.specs.declared.verdicts.Conflict.{Conflict}
use Rattle.stores.specs.Events.{look_of}
use Rattle.stores.specs.Stand.{Stands}
use Rattle.stores.specs.declared.stores.Stores.{Stores}
use Rattle.statement_steps.specs.Ended.{giving}
use Rattle.statement_steps.specs.Made.{Refused, made, halted}
use Rattle.statement_steps.specs.declared.caller.Caller.{Caller}
use Rattle.statement_steps.specs.declared.rest.TargetRow.{TargetRow}
use Rattle.statement_steps.specs.declared.stop.Stop.{Stop}
use Rattle.statement_steps.specs.declared.stop.Stop.TheVariants as stop
use Rattle.statement_steps.proofs.Parts.{stays}
use Rattle.soundness.specs.Worlds.{IsMade}
use Rattle.statement_steps.specs.Gathered.{CanBeCounted, Found}
use Rattle.statement_steps.proofs.Rights.{tables_kept}
use Rattle.change_statement.specs.Standing.{standing}
use Rattle.change_statement.specs.Turns.{IsDecided, IsTurn}
use Rattle.change_statement.specs.declared.turn.Turn.{Turn}
use Rattle.change_statement.specs.declared.turn.Turn.TheVariants.{Counted, Waits}
use Rattle.change_statement.specs.Changed.{Changing, updater, by_decision, one_changed, all_changed, changed, paused, conflict_fault, told_by, told_of}
use Rattle.change_statement.specs.declared.changed_rows.ChangedRows.{ChangedRows}
use Rattle.change_statement.specs.Running.{IsRun, IsTargetIn, MayEndIn, MayRun}
use Rattle.change_statement.proofs.Runs.{then_run, stop_run, nothing_run, refused_run, no_memory_run, same_run, may_run_on}
use Rattle.change_statement.proofs.Kept.{targets_stay}
use Rattle.change_statement.proofs.Still.{good_then, homes_then, table_stays}

-- ---- what is decided

pub decided_is : (stores : Stores) (caller : Caller) (g : Found) (t : TargetRow) (u : UpdaterMeant) (d : Decision) → ((h : History) → TableStands stores.txs h → u ≡ updater caller g h) → ((h : History) → TableStands stores.txs h → StoreStands stores.rows h → d ≡ decided h u t.id) → IsDecided stores caller g t d
decided_is stores caller g t u d mine is h stands = ap (λ x. decided h x t.id) (sym (mine h stands.all.txs)) ∙ sym (is h stands.all.txs stands.all.rows)

by_is : (change : Changing) (names : List (List ℕ)) (r : Result ℕ Stop) (old new : Stores) (caller : Caller) (g : Found) (ts : List TargetRow) (t : TargetRow) (k : ℕ) (d : Decision) → IsDecided old caller g t d
    → IsRun g (λ (n : ℕ). n) r old new caller (λ h. by_decision change names caller g t.leaf (standing h caller g ts k) d h) → IsRun g (λ (n : ℕ). n) r old new caller (one_changed change names caller g ts t k)
by_is change names r old new caller g ts t k d is run =
    same_run g (λ (n : ℕ). n) r old new caller (one_changed change names caller g ts t k) (λ h. by_decision change names caller g t.leaf (standing h caller g ts k) d h)
    (λ h stands. ap (λ x. by_decision change names caller g t.leaf (standing h caller g ts k) x h) (is h stands)) run

-- a version is changed
pub is_changed : (change : Changing) (names : List (List ℕ)) (old new : Stores) (caller : Caller) (g : Found) (t : TargetRow) (k n : ℕ) (id : RowId) (row : List Value) → n ≡ k + 1 → MayRun g old caller → IsDecided old caller g t (Changes id row)
    → IsRun g (λ (u : Unit {0}). u) (Ok tt) old new caller (change t.leaf id row) → (ts : List TargetRow) → IsRun g (λ (m : ℕ). m) (Ok n) old new caller (one_changed change names caller g ts t k)
is_changed change names old new caller g t k n id row count may is run ts =
    by_is change names (Ok n) old new caller g ts t k (Changes id row) is
    (then_run (change t.leaf id row) (λ u h. made [] (k + 1)) run
    (nothing_run g (λ (m : ℕ). m) n new caller (λ h. made [] (k + 1)) (may_run_on g (λ (u : Unit {0}). u) tt old new caller (change t.leaf id row) may run) (λ h stands. ap (λ m. made [] m) (sym count))))

-- it is not changed, and the statement stops
pub is_stopped : (change : Changing) (names : List (List ℕ)) (e : Stop) (old new : Stores) (caller : Caller) (g : Found) (t : TargetRow) (k : ℕ) (id : RowId) (row : List Value) → IsDecided old caller g t (Changes id row) → IsRun g (λ (u : Unit {0}). u) (Err e) old new caller (change t.leaf id row)
    → (ts : List TargetRow) → IsRun g (λ (m : ℕ). m) (Err e) old new caller (one_changed change names caller g ts t k)
is_stopped change names e old new caller g t k id row is run ts =
    by_is change names (Err e) old new caller g ts t k (Changes id row) is (stop_run (change t.leaf id row) (λ u h. made [] (k + 1)) run)

-- a row is passed over
pub is_passed : (change : Changing) (names : List (List ℕ)) (old : Stores) (caller : Caller) (g : Found) (t : TargetRow) (k : ℕ) → MayRun g old caller → IsDecided old caller g t PassesBy → (ts : List TargetRow) → IsRun g (λ (m : ℕ). m) (Ok k) old old caller (one_changed change names caller g ts t k)
is_passed change names old caller g t k may is ts =
    by_is change names (Ok k) old old caller g ts t k PassesBy is (nothing_run g (λ (m : ℕ). m) k old caller (λ h. made [] k) may (λ h stands. refl))

-- it is waited for
pub is_waited : (change : Changing) (names : List (List ℕ)) (e : Stop) (old new : Stores) (caller : Caller) (g : Found) (ts : List TargetRow) (t : TargetRow) (k other : ℕ) → IsDecided old caller g t (WaitsFor other) → IsRun g (λ (u : Unit {0}). u) (Err e) old new caller (λ h. paused names caller other (standing h caller g ts k) h)
    → IsRun g (λ (m : ℕ). m) (Err e) old new caller (one_changed change names caller g ts t k)
is_waited change names e old new caller g ts t k other is run =
    by_is change names (Err e) old new caller g ts t k (WaitsFor other) is (stop_run (λ h. paused names caller other (standing h caller g ts k) h) (λ u h. made [] k) run)

-- it is refused
pub is_refused : (change : Changing) (names : List (List ℕ)) (old : Stores) (caller : Caller) (g : Found) (t : TargetRow) (k : ℕ) (conflict : Conflict) (f : Fault) → ((h : History) → CatalogueStands old.catalog h → f ≡ conflict_fault names g.tree t.leaf conflict h) → MayRun g old caller
    → IsDecided old caller g t (Refuses conflict) → (ts : List TargetRow) → IsRun g (λ (m : ℕ). m) (Err (stop.Refused f)) old old caller (one_changed change names caller g ts t k)
is_refused change names old caller g t k conflict f fault may is ts =
    by_is change names (Err (stop.Refused f)) old old caller g ts t k (Refuses conflict) is
    (refused_run g (λ (m : ℕ). m) f old caller (λ h. halted [] (Refused (conflict_fault names g.tree t.leaf conflict h))) may (λ h stands. ap (λ x. halted [] (Refused x)) (sym (fault h stands.all.catalog))))

-- memory ran out
pub is_out : (change : Changing) (names : List (List ℕ)) (old : Stores) (caller : Caller) (g : Found) (t : TargetRow) (k : ℕ) → IsTurn change names (Err stop.NoMemory) old old caller g t k
is_out change names old caller g t k ts = no_memory_run g (λ (m : ℕ). m) old old caller (one_changed change names caller g ts t k) (stays old caller.session)

-- a `?` hands on why the statement stops
pub handed_turn : (change : Changing) (names : List (List ℕ)) (r : Result Turn Stop) (e : Stop) (old new : Stores) (caller : Caller) (g : Found) (t : TargetRow) (k : ℕ) → IsErrAnd r (λ s. s ≡ e) → IsTurn change names (Err e) old new caller g t k → IsTurn change names r old new caller g t k
handed_turn change names r e old new caller g t k is turn = let p = err_from_is_err_and r is in subst (λ x. IsTurn change names x old new caller g t k) (sym (p.1 ∙ ap Err p.2)) turn

-- ---- the version may be ended

pub may_end_in : (stores : Stores) (caller : Caller) (g : Found) (t : TargetRow) (tx : ℕ) (seen : SeenRow) → IsTargetIn stores.rows g t → Some tx ≡ slice_index_or stores.txs.current caller.session None → MayEnd stores.txs stores.rows tx t.id seen → MayEndIn g stores caller seen.id
may_end_in stores caller g t tx seen target mine may = record {
  known = may.known;
  standing = may.standing;
  born = λ own is. let same : tx ≡ own = (let both : Some tx ≡ Some own = mine ∙ is in cc) in subst (λ x. sees_now_by stores.txs x (stored_at stores.rows.stored seen.id).version.by.number ≡ true) same may.born;
  among = subst (Contains g.leaves) (sym (may.leaf ∙ target.leaf)) target.among;
}

-- a session that is waited for is one of the run's
pub is_seat : (stores : Stores) (caller : Caller) (g : Found) (other : ℕ) → MayRun g stores caller → other < length stores.txs.current → other < 128
is_seat stores caller g other may known = let seats = may.may.seats in let few = may.may.few in omega (arith, known, seats, few)

-- ---- all tables of the tree are kept

mutual
  pub all_low : (P Q : TableNo → Type 0) (tree : TableTree) → ((t : TableNo) → P t → Q t) → AllTables P tree → AllTables Q tree
  all_low P Q (LeafTable node leaf) to all = to node.table all
  all_low P Q (LevelTable node level bounds kids) to all = (to node.table all.0, all_low_of P Q kids to all.1)

  all_low_of : (P Q : TableNo → Type 0) (kids : Trees) → ((t : TableNo) → P t → Q t) → AllTablesOf P kids → AllTablesOf Q kids
  all_low_of P Q End to all = tt
  all_low_of P Q (More k ks) to all = (all_low P Q k to all.0, all_low_of P Q ks to all.1)

pub tables_low : (stores : Stores) (caller : Caller) (g : Found) → MayRun g stores caller → AllTables (λ t. t.number < length stores.catalog.tables) g.tree
tables_low stores caller g may =
    let s = may.sound in
    let still = s.2.still in
    let before = good_then s.0 caller.session still.earlier s.1.good still.since in
    let are = homes_then still.earlier caller.session g before still.gathered in
    let count = tables_kept stores.catalog s.0 s.1.all.catalog in
    all_low (λ (t : TableNo). IsMade (catalogue_events still.earlier) t.number) (λ (t : TableNo). t.number < length stores.catalog.tables) g.tree
    (λ t made. let lt = (table_stays s.0 caller.session still.earlier t.number still.since made).made in omega (arith, count, lt)) are.tables

-- ---- row after row

-- what is left makes the whole
pub record IsLeft (start mid : Stores) (caller : Caller) (g : Found) (change : Changing) (names : List (List ℕ)) (targets left : List TargetRow) (n changed : ℕ) : Type 0 where
  pub on : (r : Result ℕ Stop) (new : Stores) → IsRun g (λ (m : ℕ). m) r mid new caller (all_changed change names caller g left changed) → IsRun g (λ (m : ℕ). m) r start new caller (all_changed change names caller g targets n)
  pub may : MayRun g mid caller
  pub all : All (IsTargetIn mid.rows g) left
  pub few : CanBeCounted changed (length left)

pub all_left : {start : Stores} {caller : Caller} {g : Found} {change : Changing} {names : List (List ℕ)} {targets : List TargetRow} {n : ℕ} → MayRun g start caller → All (IsTargetIn start.rows g) targets → CanBeCounted n (length targets) → IsLeft start start caller g change names targets targets n n
all_left may all few = record { on = λ r new run. run; may = may; all = all; few = few }

pub one_less : {start mid new : Stores} {caller : Caller} {g : Found} {change : Changing} {names : List (List ℕ)} {targets : List TargetRow} {t : TargetRow} {ts : List TargetRow} {n changed next : ℕ} → IsLeft start mid caller g change names targets (t ∷ ts) n changed
    → IsTurn change names (Ok (Counted next)) mid new caller g t changed → IsLeft start new caller g change names targets ts n next
one_less {mid = mid} {new = new} {caller = caller} {g = g} {change = change} {names = names} {t = t} {ts = ts} {changed = changed} {next = next} left turn =
    let one = one_changed change names caller g (t ∷ ts) t changed in
    let run = turn.0 (t ∷ ts) in
    record {
      on = λ r k more. left.on r k (then_run one (all_changed change names caller g ts) run more);
      may = may_run_on g (λ (m : ℕ). m) next mid new caller one left.may run;
      all = targets_stay mid.rows new.rows g ts turn.2 (All-tail (IsTargetIn mid.rows g) t ts left.all);
      few = (let few = left.few in let one = turn.3 in omega (arith, few, one));
    }

stopped : {start mid new : Stores} {caller : Caller} {g : Found} {change : Changing} {names : List (List ℕ)} {targets : List TargetRow} {t : TargetRow} {ts : List TargetRow} {n changed : ℕ} {e : Stop} → IsLeft start mid caller g change names targets (t ∷ ts) n changed
    → IsRun g (λ (m : ℕ). m) (Err e) mid new caller (one_changed change names caller g (t ∷ ts) t changed) → IsRun g (λ (m : ℕ). m) (Err e) start new caller (all_changed change names caller g targets n)
stopped {new = new} {caller = caller} {g = g} {change = change} {names = names} {t = t} {ts = ts} {changed = changed} {e = e} left run =
    left.on (Err e) new (stop_run (one_changed change names caller g (t ∷ ts) t changed) (all_changed change names caller g ts) run)

pub stops_there : {start mid new : Stores} {caller : Caller} {g : Found} {change : Changing} {names : List (List ℕ)} {targets : List TargetRow} {t : TargetRow} {ts : List TargetRow} {n changed : ℕ} {e : Stop} → IsLeft start mid caller g change names targets (t ∷ ts) n changed
    → IsTurn change names (Err e) mid new caller g t changed → IsRun g (λ (m : ℕ). m) (Err e) start new caller (all_changed change names caller g targets n)
stops_there {t = t} {ts = ts} left turn = stopped left (turn (t ∷ ts))

-- the statement waits for the first of those that are left
pub waits_there : {start mid same new : Stores} {caller : Caller} {g : Found} {change : Changing} {names : List (List ℕ)} {targets : List TargetRow} {t : TargetRow} {ts : List TargetRow} {n changed other : ℕ} {e : Stop} → IsLeft start mid caller g change names targets (t ∷ ts) n changed
    → IsTurn change names (Ok (Waits other)) mid same caller g t changed → IsRun g (λ (u : Unit {0}). u) (Err e) same new caller (λ h. paused names caller other (standing h caller g (t ∷ ts) changed) h)
    → IsRun g (λ (m : ℕ). m) (Err e) start new caller (all_changed change names caller g targets n)
waits_there {mid = mid} {new = new} {caller = caller} {g = g} {change = change} {names = names} {t = t} {ts = ts} {changed = changed} {other = other} {e = e} left turn run =
    stopped left (is_waited change names e mid new caller g (t ∷ ts) t changed other turn.1 (subst (λ s. IsRun g (λ (u : Unit {0}). u) (Err e) s new caller (λ h. paused names caller other (standing h caller g (t ∷ ts) changed) h)) turn.0 run))

pub none_left : {start mid : Stores} {caller : Caller} {g : Found} {change : Changing} {names : List (List ℕ)} {targets : List TargetRow} {n changed : ℕ} → IsLeft start mid caller g change names targets [] n changed → IsRun g (λ (m : ℕ). m) (Ok changed) start mid caller (all_changed change names caller g targets n)
none_left {mid = mid} {caller = caller} {g = g} {changed = changed} left = left.on (Ok changed) mid (nothing_run g (λ (m : ℕ). m) changed mid caller (λ h. made [] changed) left.may (λ h stands. refl))

pub no_length : (xs : List TargetRow) → length xs ≡ 0 → xs ≡ []
no_length [] e = refl
no_length (x ∷ xs) e = absurd (omega (arith, e))

-- ---- all that are found

pub from_there : (change : Changing) (names : List (List ℕ)) (r : Result ChangedRows Stop) (old new : Stores) (caller : Caller) (g : Found) (ts : List TargetRow) → ((h : History) → Stands old h → ts ≡ targets h (look_of h caller.session caller.cmd) g.asked.condition g.leaves)
    → IsRun g told_by r old new caller (λ h. giving (told_of g) (all_changed change names caller g ts 0 h)) → IsRun g told_by r old new caller (changed change names caller g)
from_there change names r old new caller g ts are run =
    same_run g told_by r old new caller (changed change names caller g) (λ h. giving (told_of g) (all_changed change names caller g ts 0 h)) (λ h stands. ap (λ xs. giving (told_of g) (all_changed change names caller g xs 0 h)) (sym (are h stands))) run
