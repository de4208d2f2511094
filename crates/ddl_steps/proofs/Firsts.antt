-- The first of several refusals, and what an answer makes of a part.
use Rattle.std.proofs.Common.{◌≡◌, ℕ, ◌<◌, Bool, true, false, List, [], ◌∷◌, refl, sym, ap, subst, arith, Option, Some, None, Result, Ok, Err}
use Rattle.std.specs.Prelude.{is_none, nat_lt}
use Rattle.std.proofs.lemmas.Bool.Decides.{nat_tests}
use Rattle.pg_values.specs.Refusals.{IsAnswer, or_first, unless}
use Rattle.pg_values.specs.declared.fault.Fault.{Fault}
use Rattle.pg_values.specs.declared.fault.Refusal.{Refusal}
use Rattle.pg_values.specs.declared.fault.Refusal.TheVariants.{Sql, NoMemory}
use Rattle.pg_values.specs.declared.which.Which.TheVariants.{Tables}
use Rattle.refusals.specs.Refusals.{too_many}
use Rattle.history.specs.History.{History}
use Rattle.part_catalog.specs.Found.{table_number}
use Rattle.part_ddl.specs.Tables.{count_faults}
use Rattle.part_ddl.specs.Placing.{IsFault}
use Rattle.expression_binder.specs.Firsts.{IsAnswerBy}
use Rattle.stores.specs.Stand.{Stands}
use Rattle.stores.specs.declared.stores.Stores.{Stores}
use Rattle.statement_steps.specs.Attempts.{MayAttempt}
use Rattle.statement_steps.specs.Made.{answered}
use Rattle.statement_steps.specs.declared.caller.Caller.{Caller}
use Rattle.statement_steps.specs.Faults.{stop_of}
use Rattle.statement_steps.specs.Steps.{IsStep}
use Rattle.statement_steps.proofs.Parts.{stays, refused_here, no_memory}
use Rattle.ddl_steps.specs.Refused.{next_answer, unless_faults}

-- ---- answers

pub to_answer : {T : Type 0} (r : Result T Refusal) (w : Result T Fault) → IsAnswerBy (λ (x : T). x) r w → IsAnswer r w
to_answer (Ok v) w is = is
to_answer (Err (Sql f)) w is = is
to_answer (Err NoMemory) w is = tt

pub by_view : {T U : Type 0} (view : T → U) (r : Refusal) (w : Result U Fault) → IsAnswer {T = U} (Err r) w → IsAnswerBy view (Err r) w
by_view view (Sql f) w is = is
by_view view NoMemory w is = tt

-- ---- one answer after another

pub past_ok : {T U V : Type 0} (view : V → U) (r : Result V Refusal) (a : Result T Fault) (x : T) (next : T → Result U Fault) → a ≡ Ok x → IsAnswerBy view r (next x) → IsAnswerBy view r (next_answer a next)
past_ok {T} {U} {V} view r a x next e is = subst (λ (w : Result T Fault). IsAnswerBy view r (next_answer w next)) (sym e) is

pub stops_at : {T U V : Type 0} (view : V → U) (f : Refusal) (a : Result T Fault) (next : T → Result U Fault) → IsAnswer {T = T} (Err f) a → IsAnswerBy view (Err f) (next_answer a next)
stops_at {T} {U} {V} view (Sql f) a next e = ap (λ (w : Result T Fault). next_answer w next) e
stops_at view NoMemory a next e = tt

pub past_none : {U V : Type 0} (view : V → U) (r : Result V Refusal) (fs : List Fault) (w : Result U Fault) → fs ≡ [] → IsAnswerBy view r w → IsAnswerBy view r (unless_faults fs w)
past_none view r fs w e is = subst (λ (xs : List Fault). IsAnswerBy view r (unless_faults xs w)) (sym e) is

pub none_first : (fs : List Fault) (u : Unit {0}) → or_first fs u ≡ Ok u → fs ≡ []
none_first [] u e = refl
none_first (f ∷ fs) u e = absurd (let c = e in cc)

pub stops_first : {U V : Type 0} (view : V → U) (f : Refusal) (fs : List Fault) (w : Result U Fault) (u : Unit {0}) → IsAnswer {T = Unit {0}} (Err f) (or_first fs u) → IsAnswerBy view (Err f) (unless_faults fs w)
stops_first view (Sql f) [] w u e = absurd (let c = e in cc)
stops_first view (Sql f) (g ∷ gs) w u e = let same : g ≡ f = (let c = e in cc) in ap Err same
stops_first view NoMemory fs w u e = tt

-- ---- what an answer tells of its parts

pub both_told : {T U : Type 0} (a : Result T Fault) (next : T → Result U Fault) (y : U) → next_answer a next ≡ Ok y → (x : T) × (a ≡ Ok x) × (next x ≡ Ok y)
both_told (Ok x) next y e = (x, refl, e)
both_told (Err f) next y e = absurd (let c = e in cc)

pub none_told : {T : Type 0} (fs : List Fault) (w : Result T Fault) (y : T) → unless_faults fs w ≡ Ok y → (fs ≡ []) × (w ≡ Ok y)
none_told [] w y e = (refl, e)
none_told (f ∷ fs) w y e = absurd (let c = e in cc)

-- ---- names

-- no table of the name is there
pub none_there : (o : Option ℕ) (f : Fault) → unless (is_none o) f ≡ [] → o ≡ None
none_there None f e = refl
none_there (Some t) f e = absurd (let c = e in cc)

-- ---- the count of tables

below_limit : (n m : ℕ) (f : Fault) (b : Bool) → nat_lt n m ≡ b → unless b f ≡ [] → n < m
below_limit n m f true is none = grind (arith, nat_tests, is)
below_limit n m f false is none = absurd (let c = none in cc)

pub few_tables : (h : History) → count_faults h ≡ [] → table_number h < 4096
few_tables h none = below_limit (table_number h) 4096 (too_many Tables) (nat_lt (table_number h) 4096) refl none

-- ---- a part by which nothing happens

pub answered_refused : {X T : Type 0} (view : X → T) (r : Refusal) (stores : Stores) (caller : Caller) (n : ℕ) (wanted : History → Result T Fault) → MayAttempt stores caller → ((h : History) → Stands stores h → IsAnswerBy view (Err r) (wanted h))
    → IsStep view (Err (stop_of r)) stores stores caller n (λ h. answered (wanted h))
answered_refused view (Sql f) stores caller n wanted may is = refused_here view f stores caller n (λ h. answered (wanted h)) may (λ h stands. ap answered (is h stands))
answered_refused view NoMemory stores caller n wanted may is = no_memory view stores stores caller n (λ h. answered (wanted h)) (stays stores caller.session)

pub fault_answer : {T : Type 0} (r : Refusal) (w : Result T Fault) → IsFault r w → IsAnswer {T = T} (Err r) w
fault_answer (Sql f) w is = is
fault_answer NoMemory w is = tt
