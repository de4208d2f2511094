-- The rows of the table and those of the default partition, one scan after the other.
use Rattle.std.proofs.Common.{◌≡◌, ℕ, ◌≤◌, ◌||◌, Bool, true, false, List, [], ◌∷◌, ◌++◌, refl, sym, ap, ◌∙◌, subst, Ok, Err}
use Rattle.pg_values.specs.Refusals.{IsAnswer, or_first}
use Rattle.pg_values.specs.declared.fault.Fault.{Fault}
use Rattle.pg_values.specs.declared.fault.Refusal.{Refusal}
use Rattle.pg_values.specs.declared.fault.Refusal.TheVariants.{Sql, NoMemory}
use Rattle.pg_values.specs.Sets.{has}
use Rattle.pg_values.specs.declared.session_set.SessionSet.{SessionSet}
use Rattle.bound_forms.specs.declared.partition_bound.Bound.{Bound}
use Rattle.history.specs.History.{History}
use Rattle.history.specs.Places.{table_at, HasColumnsOf, TakesBound}
use Rattle.history.specs.declared.catalogue.Table.{Table}
use Rattle.row_store.specs.Judged.{seeing, refusing}
use Rattle.stores.specs.Events.{tx_in}
use Rattle.stores.specs.declared.stores.Stores.{Stores}
use Rattle.part_catalog.specs.Found.{made_at}
use Rattle.part_catalog.specs.Kept.{KeptCatalogue}
use Rattle.part_catalog.specs.Stands.{CatalogueStands}
use Rattle.statement_steps.specs.Attempts.{MayAttempt}
use Rattle.statement_steps.specs.declared.caller.Caller.{Caller}
use Rattle.ddl_steps.specs.Sessions.{those}
use Rattle.ddl_steps.specs.Scans.{Scan, fault_told, refusals, watches, judged}
use Rattle.ddl_steps.proofs.Sets.{are_those}
use Rattle.ddl_steps.proofs.Cleaning.{no_faults}
use Rattle.alter_table.specs.AskedOfAttached.{HasPlace}

-- ---- one scan before others

or_false : (b : Bool) → (b || false) ≡ b
or_false true = refl
or_false false = refl

first_of : (fs gs : List Fault) (set : SessionSet) (f : Fault) → or_first (fs ++ []) set ≡ Err f → or_first (fs ++ gs) set ≡ Err f
first_of [] gs set f e = absurd (let c = e in cc)
first_of (g ∷ fs) gs set f e = e

none_before : (fs : List Fault) → fs ++ [] ≡ [] → fs ≡ []
none_before [] e = refl
none_before (f ∷ fs) e = absurd (let c = e in cc)

other_set : (fs : List Fault) (a b : SessionSet) (f : Fault) → or_first fs a ≡ Err f → or_first fs b ≡ Err f
other_set [] a b f e = absurd (let c = e in cc)
other_set (g ∷ fs) a b f e = e

module _ (h : History) (s : ℕ) (x : Scan) (xs : List Scan) where
  abbrev own : List Fault
  own = fault_told x.fault (refusing h s (tx_in h s) x.leaves x.breaks)

  -- the first refuses
  pub first_refuses : (r : Refusal) → IsAnswer {T = SessionSet} (Err r) (judged h s (x ∷ [])) → IsAnswer {T = SessionSet} (Err r) (judged h s (x ∷ xs))
  first_refuses (Sql f) e = other_set (own ++ refusals h s xs) (those (watches h s (x ∷ []))) (those (watches h s (x ∷ xs))) f (first_of own (refusals h s xs) (those (watches h s (x ∷ []))) f e)
  first_refuses NoMemory e = tt

  first_silent : (set : SessionSet) → judged h s (x ∷ []) ≡ Ok set → own ≡ []
  first_silent set e = none_before own (no_faults (own ++ []) (those (watches h s (x ∷ []))) set e)

  -- the first does not, and the others do
  pub others_refuse : (set : SessionSet) (r : Refusal) → judged h s (x ∷ []) ≡ Ok set → IsAnswer {T = SessionSet} (Err r) (judged h s xs) → IsAnswer {T = SessionSet} (Err r) (judged h s (x ∷ xs))
  others_refuse set (Sql f) none e =
      ap (λ (fs : List Fault). or_first (fs ++ refusals h s xs) (those (watches h s (x ∷ xs)))) (first_silent set none) ∙ other_set (refusals h s xs) (those (watches h s xs)) (those (watches h s (x ∷ xs))) f e
  others_refuse set NoMemory none e = tt

  watched_by : (set all : SessionSet) (r : ℕ) → has set r ≡ watches h s (x ∷ []) r → has all r ≡ watches h s xs r → (has set r || has all r) ≡ watches h s (x ∷ xs) r
  watched_by set all r one rest =
      ap (λ (b : Bool). b || has all r) (one ∙ or_false (seeing h s x.leaves x.breaks r)) ∙ ap (λ (b : Bool). seeing h s x.leaves x.breaks r || b) rest

  -- nobody refuses
  pub nobody_refuses : (set all both : SessionSet) → judged h s (x ∷ []) ≡ Ok set → judged h s xs ≡ Ok all → ((r : ℕ) → has set r ≡ watches h s (x ∷ []) r) → ((r : ℕ) → has all r ≡ watches h s xs r)
      → ((r : ℕ) → has both r ≡ (has set r || has all r)) → ((r : ℕ) → 128 ≤ r → has both r ≡ false) → judged h s (x ∷ xs) ≡ Ok both
  nobody_refuses set all both none rest one others joined low =
      ap (λ (fs : List Fault). or_first (fs ++ refusals h s xs) (those (watches h s (x ∷ xs)))) (first_silent set none)
      ∙ (ap (λ (fs : List Fault). or_first fs (those (watches h s (x ∷ xs)))) (no_faults (refusals h s xs) (those (watches h s xs)) all rest)
      ∙ ap Ok (are_those both (watches h s (x ∷ xs)) (λ r. joined r ∙ watched_by set all r (one r) (others r)) low))

  pub both_watch : (set all both : SessionSet) → ((r : ℕ) → has set r ≡ watches h s (x ∷ []) r) → ((r : ℕ) → has all r ≡ watches h s xs r) → ((r : ℕ) → has both r ≡ (has set r || has all r)) → (r : ℕ) → has both r ≡ watches h s (x ∷ xs) r
  both_watch set all both one others joined r = joined r ∙ watched_by set all r (one r) (others r)

-- ---- the bound is one of the parent's level, in each history that the catalogue stands for

same_made : (kept : KeptCatalogue) (g h : History) (p : ℕ) → CatalogueStands kept g → CatalogueStands kept h → made_at g p ≡ made_at h p
same_made kept g h p a b = ap (λ (ts : List Table). table_at ts p) (sym a.tables ∙ b.tables)

pub takes_always : (stores : Stores) (caller : Caller) (p t : ℕ) (b : Bound) → MayAttempt stores caller → HasPlace stores caller.session p t b → (h : History) → CatalogueStands stores.catalog h → TakesBound (made_at h p).shape b
takes_always stores caller p t b may place h catalog =
    let g = may.sound.0 in
    let stands = may.sound.1 in
    subst (λ (x : Table). TakesBound x.shape b) (same_made stores.catalog g h p stands.all.catalog catalog) (place g stands.all.txs stands.all.catalog).takes

-- and the table has the parent's columns
pub columns_always : (stores : Stores) (caller : Caller) (p t : ℕ) (b : Bound) → MayAttempt stores caller → HasPlace stores caller.session p t b → (h : History) → CatalogueStands stores.catalog h → HasColumnsOf (made_at h p).columns (made_at h t).columns
columns_always stores caller p t b may place h catalog =
    let g = may.sound.0 in
    let stands = may.sound.1 in
    subst (λ (x : Table). HasColumnsOf x.columns (made_at h t).columns) (same_made stores.catalog g h p stands.all.catalog catalog)
    (subst (λ (x : Table). HasColumnsOf (made_at g p).columns x.columns) (same_made stores.catalog g h t stands.all.catalog catalog) (place g stands.all.txs stands.all.catalog).columns)
