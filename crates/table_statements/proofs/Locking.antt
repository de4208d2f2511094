-- Tables of which those under them are still to be locked, one after the other.
use Rattle.std.proofs.Common.{◌≡◌, ℕ, ◌≤◌, List, [], ◌∷◌, refl, sym, ap, subst, Result, Ok, Err, All, map, length, slice_index_or}
use Rattle.std.proofs.lemmas.List.Elements.{All-head, All-tail}
use Rattle.pg_values.specs.declared.ids.TableNo.{TableNo}
use Rattle.pg_values.specs.declared.lock_mode.LockMode.{LockMode}
use Rattle.history.specs.History.{History}
use Rattle.tx_table.specs.Stands.{TableStands}
use Rattle.lock_table.specs.Kept.{KeptLocks}
use Rattle.part_catalog.specs.Stands.{CatalogueStands}
use Rattle.part_ddl.specs.Below.{tables_under}
use Rattle.stores.specs.declared.stores.Stores.{Stores}
use Rattle.statement_steps.specs.Made.{made}
use Rattle.statement_steps.specs.Attempts.{MayAttempt}
use Rattle.statement_steps.specs.declared.caller.Caller.{Caller}
use Rattle.statement_steps.specs.declared.stop.Stop.{Stop}
use Rattle.statement_steps.specs.Known.{IsKnownTo}
use Rattle.statement_steps.specs.Asks.{all_locked}
use Rattle.statement_steps.specs.Steps.{IsTold, IsStep}
use Rattle.statement_steps.proofs.Parts.{nothing_done}
use Rattle.statement_steps.proofs.Steps.{then_step, stop_step, may_go_on}
use Rattle.table_statements.specs.Locked.{one_under, all_under}

-- ---- what locks leave as it was

pub few_stays : (old new : Stores) → new ≡ record old { locks = new.locks } → length old.catalog.tables ≤ 4096 → length new.catalog.tables ≤ 4096
few_stays old new rest few = subst (λ (x : Stores). length x.catalog.tables ≤ 4096) (sym rest) few

known_moves : (stores : Stores) (locks : KeptLocks) (s x : ℕ) → IsKnownTo stores s x → IsKnownTo (record stores { locks = locks }) s x
known_moves stores locks s x known = record { made = known.made; own = known.own }

pub known_stay : (old new : Stores) (s : ℕ) (tables : List TableNo) → new ≡ record old { locks = new.locks } → All (λ t. IsKnownTo old s t.number) tables → All (λ t. IsKnownTo new s t.number) tables
known_stay old new s tables rest all k d lt =
    subst (λ (x : Stores). IsKnownTo x s (slice_index_or tables k d).number) (sym rest) (known_moves old new.locks s (slice_index_or tables k d).number (all k d lt))

-- ---- of one table

pub under_step : (names : List (List ℕ)) (m : LockMode) (r : Result (Unit {0}) Stop) (old new : Stores) (caller : Caller) (t : ℕ) (tables : List TableNo) → ((h : History) → TableStands old.txs h → CatalogueStands old.catalog h → tables ≡ tables_under h caller.session t)
    → IsStep (λ (u : Unit {0}). u) r old new caller caller.cmd (all_locked names caller.session m (map (λ t. t.number) tables)) → IsStep (λ (u : Unit {0}). u) r old new caller caller.cmd (one_under names caller.session m t)
under_step names m r old new caller t tables are step = record {
  is = λ h stands at.
      subst (IsTold (λ (u : Unit {0}). u) r new caller caller.cmd h) (ap (λ (ts : List TableNo). all_locked names caller.session m (map (λ (x : TableNo). x.number) ts) h) (are h stands.all.txs stands.all.catalog)) (step.is h stands at);
  keeps = step.keeps;
  waits = step.waits;
}

-- ---- of one after the other

abbrev pub numbers : List TableNo → List ℕ
numbers tables = map (λ t. t.number) tables

-- a part that locks what is under tables
abbrev pub Locks : Result (Unit {0}) Stop → (old new : Stores) → Caller → List (List ℕ) → LockMode → List TableNo → Type 0
Locks r old new caller names mode tables = IsStep (λ (u : Unit {0}). u) r old new caller caller.cmd (all_under names caller.session mode (numbers tables))

-- what is left to be done makes the whole
pub record IsLeft (start mid : Stores) (caller : Caller) (names : List (List ℕ)) (mode : LockMode) (tables left : List TableNo) : Type 0 where
  pub on : (r : Result (Unit {0}) Stop) (new : Stores) → Locks r mid new caller names mode left → Locks r start new caller names mode tables
  pub may : MayAttempt mid caller
  pub few : length mid.catalog.tables ≤ 4096
  pub known : All (λ t. IsKnownTo mid caller.session t.number) left

pub all_left : (start : Stores) (caller : Caller) (names : List (List ℕ)) (mode : LockMode) (tables : List TableNo) → MayAttempt start caller → length start.catalog.tables ≤ 4096 → All (λ t. IsKnownTo start caller.session t.number) tables
    → IsLeft start start caller names mode tables tables
all_left start caller names mode tables may few known = record { on = λ r new locks. locks; may = may; few = few; known = known }

pub next_known : (start mid : Stores) (caller : Caller) (names : List (List ℕ)) (mode : LockMode) (tables : List TableNo) (t : TableNo) (ts : List TableNo) → IsLeft start mid caller names mode tables (t ∷ ts) → IsKnownTo mid caller.session t.number
next_known start mid caller names mode tables t ts left = All-head (λ x. IsKnownTo mid caller.session x.number) t ts left.known

pub one_less : (start mid new : Stores) (caller : Caller) (names : List (List ℕ)) (mode : LockMode) (tables : List TableNo) (t : TableNo) (ts : List TableNo) → IsLeft start mid caller names mode tables (t ∷ ts)
    → IsStep (λ (u : Unit {0}). u) (Ok tt) mid new caller caller.cmd (one_under names caller.session mode t.number) → new ≡ record mid { locks = new.locks } → IsLeft start new caller names mode tables ts
one_less start mid new caller names mode tables t ts left step rest =
    let one = one_under names caller.session mode t.number in
    record {
      on = λ r k locks. left.on r k (then_step (λ (u : Unit {0}). u) (λ (u : Unit {0}). u) tt r mid new k caller caller.cmd one (λ u. all_under names caller.session mode (numbers ts)) step locks);
      may = may_go_on (λ (u : Unit {0}). u) tt mid new caller one left.may step;
      few = few_stays mid new rest left.few;
      known = known_stay mid new caller.session ts rest (All-tail (λ x. IsKnownTo mid caller.session x.number) t ts left.known);
    }

pub stops_there : (start mid new : Stores) (caller : Caller) (names : List (List ℕ)) (mode : LockMode) (tables : List TableNo) (t : TableNo) (ts : List TableNo) (e : Stop) → IsLeft start mid caller names mode tables (t ∷ ts)
    → IsStep (λ (u : Unit {0}). u) (Err e) mid new caller caller.cmd (one_under names caller.session mode t.number) → Locks (Err e) start new caller names mode tables
stops_there start mid new caller names mode tables t ts e left step =
    left.on (Err e) new (stop_step (λ (u : Unit {0}). u) (λ (u : Unit {0}). u) e mid new caller caller.cmd caller.cmd (one_under names caller.session mode t.number) (λ u. all_under names caller.session mode (numbers ts)) step)

pub none_left : (start mid : Stores) (caller : Caller) (names : List (List ℕ)) (mode : LockMode) (tables : List TableNo) → IsLeft start mid caller names mode tables [] → Locks (Ok tt) start mid caller names mode tables
none_left start mid caller names mode tables left = left.on (Ok tt) mid (nothing_done (λ (u : Unit {0}). u) tt mid caller (λ h. made [] tt) left.may (λ h stands. refl))
