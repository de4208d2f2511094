-- The first partition that passes a test, as a loop finds it and as it is told.
use Rattle.std.proofs.Common.{◌≡◌, ℕ, zero, suc, ◌+◌, ◌<◌, ◌≤◌, arith, ap, refl, sym, subst, ◌∙◌, true, false, if◌then◌else◌, Bool, List, [], ◌∷◌, ◌++◌, Option, Some, None, Result, Ok, Err, length, map, drop, drop-cons, add-one, get_or, inl, inr}
use Rattle.std.specs.Prelude.{nat_lt, slice_index_or}
use Rattle.std.specs.List.{All, find, position, position_or_len}
use Rattle.std.proofs.lemmas.Bool.{cases_Bool, cases_lt}
use Rattle.std.proofs.lemmas.Bool.Decides.{nat_tests}
use Rattle.std.proofs.lemmas.List.{get_or-map, length-map}
use Rattle.std.proofs.lemmas.List.Elements.{All-head, All-tail}
use Rattle.std.specs.Option.{option_map}
use Rattle.pg_values.specs.declared.ids.TableNo.{TableNo}
use Rattle.pg_values.specs.declared.fault.Fault.{Fault}
use Rattle.pg_values.specs.declared.fault.Refusal.{Refusal}
use Rattle.pg_values.specs.declared.fault.Refusal.TheVariants.{Sql}
use Rattle.pg_values.specs.Refusals.{IsAnswer, or_first}
use Rattle.refusals.specs.Refusals.{second_default, bound_overlaps}
use Rattle.bound_forms.specs.declared.partition_bound.Bound.{Bound}
use Rattle.bound_forms.specs.declared.partition_bound.Bound.TheVariants.{Default}
use Rattle.bound_forms.specs.Accepts.{is_default}
use Rattle.bound_forms.specs.Bounds.{overlaps}
use Rattle.history.specs.declared.catalogue.Entry.{Entry}
use Rattle.history.specs.History.{History}
use Rattle.row_router.specs.Histories.{bound_of}
use Rattle.part_catalog.specs.Found.{made_at}
use Rattle.part_ddl.specs.Placing.{child_name, fault_at, pending_faults, default_faults, overlap_faults}

-- ---- in a loop over elements that stand for entries

pub next_at : {A : Type 0} (xs : List A) (i : ℕ) (x : A) → i < length xs → x ≡ get_or xs i x → drop i xs ≡ x ∷ drop (i + 1) xs
next_at xs i x lt is = let next : i + 1 ≡ suc i = add-one i in rw next (drop-cons xs i x lt ∙ ap (λ y. y ∷ drop (suc i) xs) (sym is))

pub found_here : {A : Type 0} (p : Entry → Bool) (f : A → Entry) (xs : List A) (i : ℕ) (x : A) → i < length xs → x ≡ get_or xs i x → p (f x) ≡ true → find p (map f (drop i xs)) ≡ Some (f x)
found_here p f xs i x lt is passes = ap (λ l. find p (map f l)) (next_at xs i x lt is) ∙ rw passes refl

pub found_later : {A : Type 0} (p : Entry → Bool) (f : A → Entry) (xs : List A) (i : ℕ) (x : A) → i < length xs → x ≡ get_or xs i x → p (f x) ≡ false → find p (map f (drop i xs)) ≡ find p (map f (drop (i + 1) xs))
found_later p f xs i x lt is fails = ap (λ l. find p (map f l)) (next_at xs i x lt is) ∙ rw fails refl

pub past_end : {A : Type 0} (i : ℕ) (xs : List A) → length xs ≤ i → drop i xs ≡ []
past_end zero [] le = refl
past_end zero (x ∷ xs) le = absurd (omega arith)
past_end (suc i) [] le = refl
past_end (suc i) (x ∷ xs) le = past_end i xs (omega arith)

pub found_nowhere : {A : Type 0} (p : Entry → Bool) (f : A → Entry) (xs : List A) (i : ℕ) → length xs ≤ i → find p (map f (drop i xs)) ≡ None
found_nowhere p f xs i le = ap (λ l. find p (map f l)) (past_end i xs le)

-- what holds of all entries holds of the one that is looked at
pub all_at : {A : Type 0} (P : Entry → Type 0) (f : A → Entry) (xs : List A) (i : ℕ) (x : A) → All P (map f xs) → i < length xs → x ≡ get_or xs i x → P (f x)
all_at P f xs i x all lt is =
    let within : i < length (map f xs) = omega (arith, lt, length-map xs f) in
    let at : get_or (map f xs) i (f x) ≡ f x = get_or-map f xs i x (f x) lt ∙ ap f (sym is) in
    subst P at (all i (f x) within)

-- ---- a fault that tells the name of a partition

abbrev pub child_found : (Bound → Bool) → List Entry → Option TableNo
child_found p es = option_map (λ e. e.child) (find (λ e. p e.bound) es)

abbrev pub fault_of : (List ℕ → Fault) → (TableNo → List ℕ) → Option TableNo → List Fault
fault_of F name None = []
fault_of F name (Some t) = F (name t) ∷ []

abbrev first_in : ℕ → ℕ → Option ℕ
first_in n m = if nat_lt n m then Some n else None

fault_next : (F : List ℕ → Fault) (y : List ℕ) (ys : List (List ℕ)) (n m : ℕ) → fault_at F (y ∷ ys) (first_in (1 + n) (suc m)) ≡ fault_at F ys (first_in n m)
fault_next F y ys n m = elim (cases_lt n m) [
  | inl lt ↦
      let inside : nat_lt n m ≡ true = grind (arith, nat_tests) in
      let next : nat_lt (1 + n) (suc m) ≡ true = grind (arith, nat_tests) in
      let same : 1 + n ≡ suc n = omega arith in
      rw (inside, next, same) refl
  | inr ge ↦
      let outside : nat_lt n m ≡ false = grind (arith, nat_tests) in
      let next : nat_lt (1 + n) (suc m) ≡ false = grind (arith, nat_tests) in
      rw (outside, next) refl
]

first_here : (F : List ℕ → Fault) (y : List ℕ) (ys : List (List ℕ)) (m : ℕ) → fault_at F (y ∷ ys) (first_in 0 (suc m)) ≡ F y ∷ []
first_here F y ys m =
    let inside : nat_lt 0 (suc m) ≡ true = grind (arith, nat_tests) in
    rw inside refl

pub fault_found : (F : List ℕ → Fault) (name : TableNo → List ℕ) (p : Bound → Bool) (es : List Entry) → fault_at F (map (λ e. name e.child) es) (position p (map bound_of es)) ≡ fault_of F name (child_found p es)
fault_found F name p [] = refl
fault_found F name p (e ∷ es) = elim (cases_Bool (p e.bound)) [
  | inl y ↦ rw y (first_here F (name e.child) (map (λ x. name x.child) es) (length (map bound_of es)))
  | inr n ↦ rw n (fault_next F (name e.child) (map (λ x. name x.child) es) (position_or_len p (map bound_of es)) (length (map bound_of es)) ∙ fault_found F name p es)
]

-- the partition that is found is one of them
pub found_child : (Q : TableNo → Type 0) (p : Bound → Bool) (es : List Entry) (t : TableNo) → Some t ≡ child_found p es → All (λ e. Q e.child) es → Q t
found_child Q p [] t is all = absurd (cc)
found_child Q p (e ∷ es) t is all = elim (cases_Bool (p e.bound)) [
  | inl y ↦
      let here : Some t ≡ Some e.child = rw y at is in
      let same : t ≡ e.child = cc in
      subst Q (sym same) (All-head (λ x. Q x.child) e es all)
  | inr n ↦ found_child Q p es t (rw n at is) (All-tail (λ x. Q x.child) e es all)
]

-- ---- what is answered then

abbrev table_name : History → TableNo → List ℕ
table_name h t = (made_at h t.number).name

module _ (h : History) (es : List Entry) where
  at_found : (F : List ℕ → Fault) (p : Bound → Bool) (o : Option TableNo) → child_found p es ≡ o → fault_at F (map (child_name h) es) (position p (map bound_of es)) ≡ fault_of F (table_name h) o
  at_found F p o is = fault_found F (table_name h) p es ∙ ap (fault_of F (table_name h)) is

  pub default_refused : (parent : List ℕ) (pending : Option (List ℕ)) (t : TableNo) (f : Fault) → child_found is_default es ≡ Some t → f ≡ second_default parent (made_at h t.number).name
      → IsAnswer {T = Unit {0}} (Err (Sql f)) (or_first (default_faults parent pending (map (child_name h) es) (map bound_of es) Default) tt)
  default_refused parent pending t f is told =
      ap (λ (fs : List Fault). or_first {T = Unit {0}} (fs ++ pending_faults parent pending) tt) (at_found (second_default parent) is_default (Some t) is ∙ ap (λ (x : Fault). x ∷ []) (sym told))

  pub default_passed : (parent : List ℕ) (pending : Option (List ℕ)) (r : Result (Unit {0}) Refusal) → child_found is_default es ≡ None → IsAnswer r (or_first (pending_faults parent pending) tt)
      → IsAnswer r (or_first (default_faults parent pending (map (child_name h) es) (map bound_of es) Default) tt)
  default_passed parent pending r is its =
      subst (λ (fs : List Fault). IsAnswer r (or_first (fs ++ pending_faults parent pending) tt)) (sym (at_found (second_default parent) is_default None is)) its

  pub overlap_refused : (b : Bound) (t : TableNo) (f : Fault) → child_found (overlaps b) es ≡ Some t → f ≡ bound_overlaps (made_at h t.number).name
      → IsAnswer {T = Unit {0}} (Err (Sql f)) (or_first (overlap_faults (map (child_name h) es) (map bound_of es) b) tt)
  overlap_refused b t f is told =
      ap (λ (fs : List Fault). or_first {T = Unit {0}} fs tt) (at_found bound_overlaps (overlaps b) (Some t) is ∙ ap (λ (x : Fault). x ∷ []) (sym told))

  pub overlap_passed : (b : Bound) → child_found (overlaps b) es ≡ None → IsAnswer {T = Unit {0}} (Ok tt) (or_first (overlap_faults (map (child_name h) es) (map bound_of es) b) tt)
  overlap_passed b is = ap (λ (fs : List Fault). or_first {T = Unit {0}} fs tt) (at_found bound_overlaps (overlaps b) None is)
