-- Tables that are still to be found and locked, one after the other.
use Rattle.std.proofs.Common.{◌≡◌, ℕ, ◌+◌, ◌≤◌, List, [], ◌∷◌, ◌++◌, refl, sym, ◌∙◌, ap, subst, Result, Ok, Err, All, Vec, Global, map, length, arith, slice_index_or}
use Rattle.std.proofs.lemmas.List.{map-append, length-append}
use Rattle.std.proofs.lemmas.List.Elements.{All-nil, All-cons, All-append}
use Rattle.pg_values.specs.declared.ids.TableNo.{TableNo}
use Rattle.pg_values.specs.declared.lock_mode.LockMode.TheVariants.{AccessShare}
use Rattle.sql_ast.specs.Queries.{Joined}
use Rattle.stores.specs.declared.stores.Stores.{Stores}
use Rattle.statement_steps.specs.Made.{made}
use Rattle.statement_steps.specs.Attempts.{MayAttempt}
use Rattle.statement_steps.specs.declared.caller.Caller.{Caller}
use Rattle.statement_steps.specs.declared.stop.Stop.{Stop}
use Rattle.statement_steps.specs.declared.stop.Stop.TheVariants as stop
use Rattle.statement_steps.specs.Asks.{named}
use Rattle.statement_steps.specs.Known.{IsKnownTo}
use Rattle.statement_steps.specs.Steps.{IsStep}
use Rattle.statement_steps.proofs.Parts.{nothing_done, no_memory}
use Rattle.statement_steps.proofs.Steps.{then_step, stop_step, may_go_on}
use Rattle.statement_steps.specs.Below.{number_of}
use Rattle.select_statement.specs.Selected.{named_from}
use Rattle.select_statement.proofs.Known.{known_stays}

abbrev pub IsKnownHere : Stores → Caller → TableNo → Type 0
IsKnownHere stores caller t = IsKnownTo stores caller.session t.number

-- locks change nothing of what is known
pub all_stay : (old new : Stores) (caller : Caller) (tables : List TableNo) → new ≡ record old { locks = new.locks } → All (λ t. IsKnownTo old caller.session t.number) tables → All (λ t. IsKnownTo new caller.session t.number) tables
all_stay old new caller tables rest all i d lt =
    known_stays old new caller.session (slice_index_or tables i d).number rest (all i d lt)

pub rest_same : (start mid new : Stores) → mid ≡ record start { locks = mid.locks } → new ≡ record mid { locks = new.locks } → new ≡ record start { locks = new.locks }
rest_same start mid new first second = let f : Stores → Stores = λ s. record s { locks = new.locks } in second ∙ ap f first

pub few_stay : (old new : Stores) → new ≡ record old { locks = new.locks } → length old.catalog.tables ≤ 4096 → length new.catalog.tables ≤ 4096
few_stay old new rest few = subst (λ (s : Stores). length s.catalog.tables ≤ 4096) (sym rest) few

-- the numbers of tables that were found
abbrev pub numbers : Vec TableNo Global → List ℕ
numbers tables = map number_of tables.items

-- what is left to be found makes the whole
pub record AreNamed {X : Type 0} (see : X → List ℕ) (start mid : Stores) (caller : Caller) (names : List (List ℕ)) (items : List Joined) (done : List TableNo) (left : List Joined) : Type 0 where
  pub on : (r : Result X Stop) (new : Stores) → IsStep see r mid new caller caller.cmd (named_from names caller (map number_of done) left) → IsStep see r start new caller caller.cmd (named_from names caller [] items)
  pub may : MayAttempt mid caller
  pub rest : mid ≡ record start { locks = mid.locks }
  pub few : length mid.catalog.tables ≤ 4096
  pub known : All (λ t. IsKnownTo mid caller.session t.number) done
  pub count : length done + length left ≡ length items

pub none_named : {X : Type 0} (see : X → List ℕ) (start : Stores) (caller : Caller) (names : List (List ℕ)) (items : List Joined) (done : List TableNo) → done ≡ [] → MayAttempt start caller → length start.catalog.tables ≤ 4096
    → AreNamed see start start caller names items done items
none_named see start caller names items done none may few =
    subst (λ ts. AreNamed see start start caller names items ts items) (sym none)
    (record { on = λ r new step. step; may = may; rest = refl; few = few; known = All-nil (λ t. IsKnownTo start caller.session t.number); count = omega arith })

pub one_named : {X : Type 0} (see : X → List ℕ) (start mid new : Stores) (caller : Caller) (names : List (List ℕ)) (items : List Joined) (done more : List TableNo) (j : Joined) (js : List Joined) (t : TableNo)
    → AreNamed see start mid caller names items done (j ∷ js) → IsStep (λ (x : TableNo). x.number) (Ok t) mid new caller caller.cmd (named names caller.session AccessShare j.0.name)
    → IsKnownTo new caller.session t.number → new ≡ record mid { locks = new.locks } → more ≡ done ++ t ∷ [] → AreNamed see start new caller names items more js
one_named see start mid new caller names items done more j js t left step known rest is =
    subst (λ ts. AreNamed see start new caller names items ts js) (sym is) (record {
      on = λ r k go. left.on r k (then_step (λ (x : TableNo). x.number) see t r mid new k caller caller.cmd (named names caller.session AccessShare j.0.name) (λ n. named_from names caller (map number_of done ++ n ∷ []) js) step
          (subst (λ ns. IsStep see r new k caller caller.cmd (named_from names caller ns js)) (map-append number_of done (t ∷ [])) go));
      may = may_go_on (λ (x : TableNo). x.number) t mid new caller (named names caller.session AccessShare j.0.name) left.may step;
      rest = rest_same start mid new left.rest rest;
      few = few_stay mid new rest left.few;
      known = All-append (λ x. IsKnownTo new caller.session x.number) done (t ∷ []) (all_stay mid new caller done rest left.known) (All-cons (λ x. IsKnownTo new caller.session x.number) t [] known (All-nil (λ x. IsKnownTo new caller.session x.number)));
      count = let c = left.count in let n = length-append done (t ∷ []) in omega (arith, c, n);
    })

pub stops_naming : {X : Type 0} (see : X → List ℕ) (start mid new : Stores) (caller : Caller) (names : List (List ℕ)) (items : List Joined) (done : List TableNo) (j : Joined) (js : List Joined) (e : Stop)
    → AreNamed see start mid caller names items done (j ∷ js) → IsStep (λ (x : TableNo). x.number) (Err e) mid new caller caller.cmd (named names caller.session AccessShare j.0.name)
    → IsStep see (Err e) start new caller caller.cmd (named_from names caller [] items)
stops_naming see start mid new caller names items done j js e left step =
    left.on (Err e) new (stop_step (λ (x : TableNo). x.number) see e mid new caller caller.cmd caller.cmd (named names caller.session AccessShare j.0.name) (λ n. named_from names caller (map number_of done ++ n ∷ []) js) step)

pub all_named : {X : Type 0} (see : X → List ℕ) (start mid : Stores) (caller : Caller) (names : List (List ℕ)) (items : List Joined) (done : List TableNo) (x : X) → AreNamed see start mid caller names items done [] → see x ≡ map number_of done
    → IsStep see (Ok x) start mid caller caller.cmd (named_from names caller [] items)
all_named see start mid caller names items done x left is =
    left.on (Ok x) mid (nothing_done see x mid caller (λ h. made [] (map number_of done)) left.may (λ h stands. ap (made []) (sym is)))

-- memory runs out behind a table that was found
pub runs_out : {X : Type 0} (see : X → List ℕ) (start mid new : Stores) (caller : Caller) (names : List (List ℕ)) (items : List Joined) (done : List TableNo) (j : Joined) (js : List Joined) (t : TableNo)
    → AreNamed see start mid caller names items done (j ∷ js) → IsStep (λ (x : TableNo). x.number) (Ok t) mid new caller caller.cmd (named names caller.session AccessShare j.0.name)
    → IsStep see (Err stop.NoMemory) start new caller caller.cmd (named_from names caller [] items)
runs_out see start mid new caller names items done j js t left step =
    left.on (Err stop.NoMemory) new (no_memory see mid new caller caller.cmd (named_from names caller (map number_of done) (j ∷ js)) step.keeps)
