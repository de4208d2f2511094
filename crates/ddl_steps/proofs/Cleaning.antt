-- What it says that scans find nothing.
use Rattle.std.proofs.Common.{◌≡◌, ℕ, ◌==◌, ◌&&◌, ◌||◌, not, Bool, true, false, List, [], ◌∷◌, ◌++◌, refl, sym, ap, ◌∙◌, subst, arith, Option, Some, None, Result, Ok, Err, IfOk}
use Rattle.std.proofs.lemmas.Bool.Decides.{nat_tests}
use Rattle.pg_values.specs.Refusals.{IsAnswer, or_first}
use Rattle.pg_values.specs.declared.fault.Refusal.{Refusal}
use Rattle.pg_values.specs.Sets.{has}
use Rattle.pg_values.specs.declared.session_set.SessionSet.{SessionSet}
use Rattle.pg_values.specs.declared.fault.Fault.{Fault}
use Rattle.pg_values.specs.declared.value.Value.{Value}
use Rattle.history.specs.declared.version.Version.{Version}
use Rattle.history.specs.History.{History}
use Rattle.row_store.specs.Judged.{refusing, seeing}
use Rattle.row_store.specs.Stands.{StoreStands}
use Rattle.tx_table.specs.Stands.{TableStands}
use Rattle.part_catalog.specs.Stands.{CatalogueStands}
use Rattle.stores.specs.Events.{tx_in}
use Rattle.stores.specs.declared.stores.Stores.{Stores}
use Rattle.statement_steps.specs.Attempts.{MayAttempt}
use Rattle.statement_steps.specs.declared.caller.Caller.{Caller}
use Rattle.statement_steps.specs.declared.stop.Stop.{Stop}
use Rattle.ddl_steps.specs.Data.{DataStand}
use Rattle.ddl_steps.specs.Sessions.{those}
use Rattle.ddl_steps.specs.Scans.{Scan, fault_told, refusals, watches, judged, IsClean}

left_false : (a b : Bool) → (a || b) ≡ false → a ≡ false
left_false true b e = absurd (let c = e in cc)
left_false false b e = refl

right_false : (a b : Bool) → (a || b) ≡ false → b ≡ false
right_false true b e = absurd (let c = e in cc)
right_false false b e = e

none_told : (fault : List Value → Fault) (o : Option Version) (fs : List Fault) → (fault_told fault o ++ fs) ≡ [] → o ≡ None
none_told fault None fs e = refl
none_told fault (Some v) fs e = absurd (let c = e in cc)

none_after : (fault : List Value → Fault) (o : Option Version) (fs : List Fault) → (fault_told fault o ++ fs) ≡ [] → fs ≡ []
none_after fault None fs e = e
none_after fault (Some v) fs e = absurd (let c = e in cc)

-- the first finds nothing
pub clean_first : (h : History) (s : ℕ) (x : Scan) (xs : List Scan) → IsClean h s (x ∷ xs) → (refusing h s (tx_in h s) x.leaves x.breaks ≡ None) × ((r : ℕ) → seeing h s x.leaves x.breaks r ≡ false)
clean_first h s x xs clean = (
  none_told x.fault (refusing h s (tx_in h s) x.leaves x.breaks) (refusals h s xs) clean.0,
  λ r. left_false (seeing h s x.leaves x.breaks r) (watches h s xs r) (clean.1 r),
)

-- and so do the others
pub clean_rest : (h : History) (s : ℕ) (x : Scan) (xs : List Scan) → IsClean h s (x ∷ xs) → IsClean h s xs
clean_rest h s x xs clean = (
  none_after x.fault (refusing h s (tx_in h s) x.leaves x.breaks) (refusals h s xs) clean.0,
  λ r. right_false (seeing h s x.leaves x.breaks r) (watches h s xs r) (clean.1 r),
)

pub no_faults : {T : Type 0} (fs : List Fault) (x y : T) → or_first fs x ≡ Ok y → fs ≡ []
no_faults [] x y e = refl
no_faults (f ∷ fs) x y e = absurd (let c = e in cc)

-- ---- a part that has judged the rows

itself : (n : ℕ) → (n == n) ≡ true
itself n = grind (arith, nat_tests)

not_seeing : (b : Bool) (c : Bool) → b ≡ true → (not b && c) ≡ false
not_seeing true c e = refl
not_seeing false c e = absurd (let d = e in cc)

-- the session does not wait for itself
pub own_watches : (h : History) (s : ℕ) (xs : List Scan) → watches h s xs s ≡ false
own_watches h s [] = refl
own_watches h s (x ∷ xs) =
    let first : seeing h s x.leaves x.breaks s ≡ false = not_seeing (s == s) _ (itself s) in
    ap (λ (b : Bool). b || watches h s xs s) first ∙ own_watches h s xs

-- those who watch, in every history that the stores stand for
abbrev pub AreWatching : Stores → (session : ℕ) → (History → List Scan) → SessionSet → Type 0
AreWatching stores s rows set = (h : History) → DataStand stores h → (r : ℕ) → has set r ≡ watches h s (rows h) r

pub own_never : (s : ℕ) (judgement : Result SessionSet Refusal) (stores : Stores) (caller : Caller) → MayAttempt stores caller → (rows : History → List Scan) → IfOk judgement (AreWatching stores s rows) → IfOk judgement (λ set. has set s ≡ false)
own_never s (Ok set) stores caller may rows all =
    let h = may.sound.0 in
    let stands = may.sound.1.all in
    all h (record { txs = stands.txs; rows = stands.rows; catalog = stands.catalog }) s ∙ own_watches h s (rows h)
own_never s (Err e) stores caller may rows all = tt

abbrev pub NoneWatch : Result SessionSet Refusal → Type 0
NoneWatch judgement = (set : SessionSet) × (judgement ≡ Ok set) × ((r : ℕ) → has set r ≡ false)

pub found_clean : (s : ℕ) (result : Result (Unit {0}) Stop) (judgement : Result SessionSet Refusal) (old new : Stores) → new ≡ record old { locks = new.locks } → (rows : History → List Scan)
    → ((h : History) → DataStand old h → IsAnswer judgement (judged h s (rows h))) → IfOk judgement (AreWatching old s rows) → IfOk result (λ u. NoneWatch judgement) → IfOk result (λ u. (h : History) → DataStand new h → IsClean h s (rows h))
found_clean s (Err e) judgement old new rest rows answer all none = tt
found_clean s (Ok u) judgement old new rest rows answer all (set, is, nobody) =
    let told : (h : History) → DataStand old h → judged h s (rows h) ≡ Ok set = subst (λ (j : Result SessionSet Refusal). (h : History) → DataStand old h → IsAnswer j (judged h s (rows h))) is answer in
    let watching : AreWatching old s rows set = subst (λ (j : Result SessionSet Refusal). IfOk j (AreWatching old s rows)) is all in
    λ h tells.
    let was : DataStand old h = record {
      txs = subst (λ (x : Stores). TableStands x.txs h) rest tells.txs;
      rows = subst (λ (x : Stores). StoreStands x.rows h) rest tells.rows;
      catalog = subst (λ (x : Stores). CatalogueStands x.catalog h) rest tells.catalog;
    } in
    (no_faults (refusals h s (rows h)) (those (watches h s (rows h))) set (told h was), λ r. sym (watching h was r) ∙ nobody r)
