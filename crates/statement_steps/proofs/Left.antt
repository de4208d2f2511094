-- Locks that are still to be asked for, one after the other.
use Rattle.std.proofs.Common.{◌≡◌, ℕ, ◌<◌, List, [], ◌∷◌, refl, sym, ◌∙◌, ap, subst, Result, Ok, Err, All, map, length, arith, slice_index_or}
use Rattle.std.proofs.lemmas.List.Elements.{All-tail}
use Rattle.pg_values.specs.declared.ids.TableNo.{TableNo}
use Rattle.pg_values.specs.declared.lock_mode.LockMode.{LockMode}
use Rattle.stores.specs.declared.stores.Stores.{Stores}
use Rattle.lock_table.specs.Kept.{KeptLocks}
use Rattle.statement_steps.specs.Made.{made}
use Rattle.statement_steps.specs.Attempts.{MayAttempt}
use Rattle.statement_steps.specs.declared.caller.Caller.{Caller}
use Rattle.statement_steps.specs.declared.stop.Stop.{Stop}
use Rattle.statement_steps.specs.Asks.{locked, all_locked}
use Rattle.statement_steps.specs.Known.{IsKnownTo}
use Rattle.statement_steps.specs.Steps.{IsStep}
use Rattle.statement_steps.proofs.Parts.{nothing_done}
use Rattle.statement_steps.proofs.Steps.{then_step, stop_step, may_go_on}

abbrev pub numbers : List TableNo → List ℕ
numbers tables = map (λ t. t.number) tables

-- a part that asks for locks
abbrev pub Asks : Result (Unit {0}) Stop → (old new : Stores) → Caller → List (List ℕ) → LockMode → List TableNo → Type 0
Asks r old new caller names mode tables = IsStep (λ (u : Unit {0}). u) r old new caller caller.cmd (all_locked names caller.session mode (numbers tables))

-- what is left to be asked for makes the whole
pub record IsLeft (start mid : Stores) (caller : Caller) (names : List (List ℕ)) (mode : LockMode) (tables left : List TableNo) : Type 0 where
  pub on : (r : Result (Unit {0}) Stop) (new : Stores) → Asks r mid new caller names mode left → Asks r start new caller names mode tables
  pub may : MayAttempt mid caller
  pub rest : mid ≡ record start { locks = mid.locks }
  pub there : All (λ t. IsKnownTo mid caller.session t.number) left
  pub known : All (λ t. t.number < 4096) left

pub all_left : (start : Stores) (caller : Caller) (names : List (List ℕ)) (mode : LockMode) (tables : List TableNo) → MayAttempt start caller
    → All (λ t. IsKnownTo start caller.session t.number) tables → All (λ t. t.number < 4096) tables → IsLeft start start caller names mode tables tables
all_left start caller names mode tables may there known = record { on = λ r new asks. asks; may = may; rest = refl; there = there; known = known }

-- locks change nothing of what is known
pub known_moves : (stores : Stores) (locks : KeptLocks) (s x : ℕ) → IsKnownTo stores s x → IsKnownTo (record stores { locks = locks }) s x
known_moves stores locks s x known = record { made = known.made; own = known.own }

all_move : (old new : Stores) (s : ℕ) (tables : List TableNo) → new ≡ record old { locks = new.locks } → All (λ t. IsKnownTo old s t.number) tables → All (λ t. IsKnownTo new s t.number) tables
all_move old new s tables rest all i d lt =
    subst (λ x. IsKnownTo x s (slice_index_or tables i d).number) (sym rest) (known_moves old new.locks s (slice_index_or tables i d).number (all i d lt))

rest_same : (start mid new : Stores) → mid ≡ record start { locks = mid.locks } → new ≡ record mid { locks = new.locks } → new ≡ record start { locks = new.locks }
rest_same start mid new first second = let f : Stores → Stores = λ s. record s { locks = new.locks } in second ∙ ap f first

pub one_less : (start mid new : Stores) (caller : Caller) (names : List (List ℕ)) (mode : LockMode) (tables : List TableNo) (t : TableNo) (ts : List TableNo)
    → IsLeft start mid caller names mode tables (t ∷ ts) → IsStep (λ (u : Unit {0}). u) (Ok tt) mid new caller caller.cmd (locked names caller.session t.number mode) → new ≡ record mid { locks = new.locks }
    → IsLeft start new caller names mode tables ts
one_less start mid new caller names mode tables t ts left step rest = record {
  on = λ r k asks. left.on r k (then_step (λ (u : Unit {0}). u) (λ (u : Unit {0}). u) tt r mid new k caller caller.cmd (locked names caller.session t.number mode) (λ u. all_locked names caller.session mode (numbers ts)) step asks);
  may = may_go_on (λ (u : Unit {0}). u) tt mid new caller (locked names caller.session t.number mode) left.may step;
  rest = rest_same start mid new left.rest rest;
  there = all_move mid new caller.session ts rest (All-tail (λ x. IsKnownTo mid caller.session x.number) t ts left.there);
  known = All-tail (λ x. x.number < 4096) t ts left.known;
}

pub stops_there : (start mid new : Stores) (caller : Caller) (names : List (List ℕ)) (mode : LockMode) (tables : List TableNo) (t : TableNo) (ts : List TableNo) (e : Stop)
    → IsLeft start mid caller names mode tables (t ∷ ts) → IsStep (λ (u : Unit {0}). u) (Err e) mid new caller caller.cmd (locked names caller.session t.number mode) → Asks (Err e) start new caller names mode tables
stops_there start mid new caller names mode tables t ts e left step =
    left.on (Err e) new (stop_step (λ (u : Unit {0}). u) (λ (u : Unit {0}). u) e mid new caller caller.cmd caller.cmd (locked names caller.session t.number mode) (λ u. all_locked names caller.session mode (numbers ts)) step)

pub none_left : (start mid : Stores) (caller : Caller) (names : List (List ℕ)) (mode : LockMode) (tables : List TableNo) → IsLeft start mid caller names mode tables [] → Asks (Ok tt) start mid caller names mode tables
none_left start mid caller names mode tables left = left.on (Ok tt) mid (nothing_done (λ (u : Unit {0}). u) tt mid caller (λ h. made [] tt) left.may (λ h stands. refl))

pub no_length : (xs : List TableNo) → length xs ≡ 0 → xs ≡ []
no_length [] e = refl
no_length (x ∷ xs) e = absurd (omega (arith, e))
