-- Conditions with what is known in their places, part by part.
use Rattle.std.proofs.Common.{◌≡◌, inl, inr, ℕ, zero, suc, ◌+◌, ◌*◌, ◌^◌, ◌<◌, ◌≤◌, Bool, true, false, ◌&&◌, ◌||◌, List, [], ◌∷◌, ◌++◌, map, length, drop, get_or, add-one, refl, sym, ap, ◌∙◌, arith, subst, if◌then◌else◌}
use Rattle.std.specs.Prelude.{Option, Some, None, slice_get, unwrap_or}
use Rattle.std.proofs.lemmas.Bool.{cases_lt}
use Rattle.std.proofs.Math.Nat.{mul-add}
use Rattle.pg_values.specs.declared.value.Value.{Value}
use Rattle.pg_values.specs.declared.value.Value.TheVariants.{Null}
use Rattle.bound_forms.specs.declared.partition_bound.Bound.{Bound}
use Rattle.bound_forms.specs.declared.partition_bound.Bound.TheVariants.{Default}
use Rattle.cond_logic.specs.declared.cond.Cond.{Cond}
use Rattle.cond_logic.specs.declared.cond.CondList.{CondList}
use Rattle.cond_logic.specs.declared.cond.Cond.TheViews.{And, Or}
use Rattle.cond_logic.specs.Trees.{CondTrees, and_more, all_of, any_of, listed, cond_tree, cond_trees}
use Rattle.part_bounds.specs.Stored.{stored}
use Rattle.prune_steps.specs.declared.asking.Asking.{Asking}
use Rattle.prune_steps.specs.Asking.{asked_by, known_in, all_known_in, given_values}
use Rattle.prune_steps.specs.Atoms.{is_one, given, first_given, first_of, added, values_before}
use Rattle.prune_steps.specs.Bits.{bit, AreBits}
use Rattle.prune_steps.specs.Kept.{part_keeps, parts_keep, choices_keep, whole_keeps}
use Rattle.prune_steps.specs.Searches.{part_searches, parts_search, choices_search, whole_searches}
use Rattle.prune_steps.proofs.CondTrees.{one_is, not_one, parts_step, of_and, of_or}
use Rattle.prune_steps.proofs.Knowing.{one_known}
use Rattle.prune_steps.proofs.Fitting.{pushed_long}

-- ---- trees

pub and_known : (g : Asking) (cond : Cond) (l : CondList) (xs : List Cond) → cond ≡ And l → listed (map cond_tree xs) ≡ cond_trees l → known_in g (cond_tree cond) ≡ all_of (all_known_in g (listed (map cond_tree xs)))
and_known g cond l xs is at = ap (known_in g) (of_and cond l xs is at)

pub or_known : (g : Asking) (cond : Cond) (l : CondList) (xs : List Cond) → cond ≡ Or l → listed (map cond_tree xs) ≡ cond_trees l → known_in g (cond_tree cond) ≡ any_of (all_known_in g (listed (map cond_tree xs)))
or_known g cond l xs is at = ap (known_in g) (of_or cond l xs is at)

pub is_one_known : (g : Asking) (xs : List Cond) → length xs ≡ 1 → is_one (all_known_in g (listed (map cond_tree xs))) ≡ true
is_one_known g xs one = one_known g (listed (map cond_tree xs)) ∙ one_is xs one

pub not_one_known : (g : Asking) (xs : List Cond) → (length xs ≡ 1 → ⊥) → is_one (all_known_in g (listed (map cond_tree xs))) ≡ false
not_one_known g xs many = one_known g (listed (map cond_tree xs)) ∙ not_one xs many

abbrev pub rest : Asking → List Cond → ℕ → CondTrees
rest g parts i = all_known_in g (listed (map cond_tree (drop i parts)))

abbrev pub whole : Asking → List Cond → CondTrees
whole g parts = all_known_in g (listed (map cond_tree parts))

pub rest_is : (g : Asking) (parts : List Cond) (i : ℕ) (x : Cond) → i < length parts → x ≡ get_or parts i x → rest g parts i ≡ and_more (known_in g (cond_tree x)) (rest g parts (i + 1))
rest_is g parts i x lt at = ap (all_known_in g) (parts_step parts i x lt at)

-- ---- what is given

pub given_one : (g : Asking) (nulls : Bool) (j : ℕ) (cond : Cond) (l : CondList) (xs : List Cond) → cond ≡ Or l → listed (map cond_tree xs) ≡ cond_trees l → length xs ≡ 1
    → first_given (asked_by g) nulls (whole g xs) j ≡ given (asked_by g) nulls (known_in g (cond_tree cond)) j
given_one g nulls j cond l xs is at one =
    sym (ap (λ t. given (asked_by g) nulls t j) (or_known g cond l xs is at) ∙ ap (λ (b : Bool). if b then first_given (asked_by g) nulls (whole g xs) j else None) (is_one_known g xs one))

pub given_many : (g : Asking) (nulls : Bool) (j : ℕ) (cond : Cond) (l : CondList) (xs : List Cond) → cond ≡ Or l → listed (map cond_tree xs) ≡ cond_trees l → (length xs ≡ 1 → ⊥)
    → None ≡ given (asked_by g) nulls (known_in g (cond_tree cond)) j
given_many g nulls j cond l xs is at many =
    sym (ap (λ t. given (asked_by g) nulls t j) (or_known g cond l xs is at) ∙ ap (λ (b : Bool). if b then first_given (asked_by g) nulls (whole g xs) j else None) (not_one_known g xs many))

pub none_given : (g : Asking) (nulls : Bool) (j : ℕ) (parts : List Cond) (i : ℕ) (x : Cond) → i < length parts → x ≡ get_or parts i x → None ≡ given (asked_by g) nulls (known_in g (cond_tree x)) j
    → first_given (asked_by g) nulls (rest g parts i) j ≡ first_given (asked_by g) nulls (rest g parts (i + 1)) j
none_given g nulls j parts i x lt at none =
    ap (λ ts. first_given (asked_by g) nulls ts j) (rest_is g parts i x lt at) ∙ ap (λ o. first_of o (first_given (asked_by g) nulls (rest g parts (i + 1)) j)) (sym none)

pub some_given : (g : Asking) (nulls : Bool) (j : ℕ) (parts : List Cond) (i : ℕ) (x : Cond) (v : Value) → i < length parts → x ≡ get_or parts i x → Some v ≡ given (asked_by g) nulls (known_in g (cond_tree x)) j
    → Some v ≡ first_given (asked_by g) nulls (rest g parts i) j
some_given g nulls j parts i x v lt at some =
    sym (ap (λ ts. first_given (asked_by g) nulls ts j) (rest_is g parts i x lt at) ∙ ap (λ o. first_of o (first_given (asked_by g) nulls (rest g parts (i + 1)) j)) (sym some))

-- ---- the values of the first key columns

added_none : (r : Option (List Value)) → None ≡ added r None
added_none None = refl
added_none (Some p) = refl

before_none : (f : ℕ → Option Value) (i j : ℕ) → None ≡ f i → i < j → None ≡ values_before f j
before_none f i zero e h = absurd (omega (arith, h))
before_none f i (suc j) e h = elim (cases_lt i j) [
  | inl less ↦ ap (λ r. added r (f j)) (before_none f i j e less)
  | inr at ↦
      let same : i ≡ j = omega (arith, h, at) in
      added_none (values_before f j) ∙ ap (λ o. added (values_before f j) o) (e ∙ ap f same)
]

added_value : (p : List Value) (o : Option Value) → (o ≡ None → ⊥) → added (Some p) o ≡ Some (p ++ unwrap_or o Null ∷ [])
added_value p None h = absurd (h refl)
added_value p (Some v) h = refl

pub first_more : (f : ℕ → Option Value) (i : ℕ) → (f i ≡ None → ⊥) → values_before f i ≡ Some (given_values f i) → values_before f (i + 1) ≡ Some (given_values f (i + 1))
first_more f i some told =
    ap (values_before f) (add-one i) ∙ (ap (λ r. added r (f i)) told ∙ (added_value (given_values f i) (f i) some ∙ ap (λ n. Some (given_values f n)) (sym (add-one i))))

pub first_none : (f : ℕ → Option Value) (i n : ℕ) → None ≡ f i → i < n → values_before f n ≡ None
first_none f i n none lt = sym (before_none f i n none lt)

pub some_there : (v : Value) (o : Option Value) → Some v ≡ o → o ≡ None → ⊥
some_there v None is none = absurd (cc)
some_there v (Some w) is none = absurd (cc)

pub first_all : (f : ℕ → Option Value) (i n : ℕ) → i ≤ n → n ≤ i → values_before f i ≡ Some (given_values f i) → values_before f n ≡ Some (given_values f n)
first_all f i n most least told = let same : i ≡ n = omega (arith, most, least) in subst (λ m. values_before f m ≡ Some (given_values f m)) same told

pub given_long : (f : ℕ → Option Value) (n : ℕ) → length (given_values f n) ≡ n
given_long f zero = refl
given_long f (suc n) = let ih = given_long f n in let l = pushed_long (given_values f n) (unwrap_or (f n) Null) in omega (arith, ih, l)

pub get_front : (p : List Value) (v : Value) (i : ℕ) → i < length p → slice_get (p ++ v ∷ []) i ≡ slice_get p i
get_front [] v i lt = absurd (omega arith)
get_front (w ∷ p) v zero lt = refl
get_front (w ∷ p) v (suc i) lt = get_front p v i (omega arith)

pub get_last : (p : List Value) (v : Value) (i : ℕ) → i ≡ length p → slice_get (p ++ v ∷ []) i ≡ Some v
get_last [] v i at = ap (λ n. slice_get (v ∷ []) n) at
get_last (w ∷ p) v zero at = absurd (omega (arith, at))
get_last (w ∷ p) v (suc i) at = get_last p v i (omega (arith, at))

pub given_at : (f : ℕ → Option Value) (n i : ℕ) → i < n → slice_get (given_values f n) i ≡ Some (unwrap_or (f i) Null)
given_at f zero i lt = absurd (omega arith)
given_at f (suc n) i lt = elim (cases_lt i n) [
  | inl less ↦ get_front (given_values f n) (unwrap_or (f n) Null) i (let long = given_long f n in omega (arith, less, long)) ∙ given_at f n i less
  | inr past ↦
      let same : i ≡ n = omega (arith, lt, past) in
      get_last (given_values f n) (unwrap_or (f n) Null) i (let long = given_long f n in omega (arith, same, long)) ∙ ap (λ k. Some (unwrap_or (f k) Null)) (sym same)
]

-- a key that ends with the value of a comparison
pub chain_long : (f : ℕ → Option Value) (n : ℕ) (v : Value) → length (given_values f n ++ v ∷ []) ≡ n + 1
chain_long f n v = let l = given_long f n in let m = pushed_long (given_values f n) v in omega (arith, l, m)

pub chain_last : (f : ℕ → Option Value) (n i : ℕ) (v : Value) → i < length (given_values f n ++ v ∷ []) → n ≤ i → slice_get (given_values f n ++ v ∷ []) i ≡ Some v
chain_last f n i v lt past =
    let l = given_long f n in
    let m = chain_long f n v in
    get_last (given_values f n) v i (omega (arith, lt, past, l, m))

pub chain_front : (f : ℕ → Option Value) (n i : ℕ) (v w : Value) → i < n → f i ≡ Some w → slice_get (given_values f n ++ v ∷ []) i ≡ Some w
chain_front f n i v w lt is =
    let l = given_long f n in
    get_front (given_values f n) v i (omega (arith, lt, l)) ∙ (given_at f n i lt ∙ ap (λ o. Some (unwrap_or o Null)) is)

pub chain_null : (f : ℕ → Option Value) (n i : ℕ) (v : Value) → i < n → f i ≡ None → slice_get (given_values f n ++ v ∷ []) i ≡ Some Null
chain_null f n i v lt is =
    let l = given_long f n in
    get_front (given_values f n) v i (omega (arith, lt, l)) ∙ (given_at f n i lt ∙ ap (λ o. Some (unwrap_or o Null)) is)

pub key_value : (f : ℕ → Option Value) (n i : ℕ) (w : Value) → i < length (given_values f n) → f i ≡ Some w → slice_get (given_values f n) i ≡ Some w
key_value f n i w lt is = let l = given_long f n in given_at f n i (omega (arith, lt, l)) ∙ ap (λ o. Some (unwrap_or o Null)) is

pub key_null : (f : ℕ → Option Value) (n i : ℕ) → i < length (given_values f n) → f i ≡ None → slice_get (given_values f n) i ≡ Some Null
key_null f n i lt is = let l = given_long f n in given_at f n i (omega (arith, lt, l)) ∙ ap (λ o. Some (unwrap_or o Null)) is

-- ---- AND and OR, one part more

abbrev pub PartsTold : Asking → List Bound → (ℕ → Option Value) → List Cond → ℕ → List ℕ → Type 0
PartsTold g bounds f parts i bits = (k : ℕ) → k < length bounds
    → (bit bits k && parts_keep (asked_by g) bounds f (rest g parts i) (get_or bounds k Default)) ≡ parts_keep (asked_by g) bounds f (whole g parts) (get_or bounds k Default)

abbrev pub ChoicesTold : Asking → List Bound → List Cond → ℕ → List ℕ → Type 0
ChoicesTold g bounds parts i bits = (k : ℕ) → k < length bounds
    → (bit bits k || choices_keep (asked_by g) bounds (rest g parts i) (get_or bounds k Default)) ≡ choices_keep (asked_by g) bounds (whole g parts) (get_or bounds k Default)

-- what was counted, with what the rest searches, is within the bounds
abbrev pub Costs : List Bound → (start now left all : ℕ) → Type 0
Costs bounds start now left all = (d : ℕ) → 2 * length (stored bounds) + 2 < 2 ^ (d + 1) → now + 2 * d * left ≤ start + 2 * d * all

abbrev pub Counts : List Bound → (start now left all : ℕ) → Type 0
Counts bounds start now left all = (d : ℕ) → 2 ^ d ≤ length (stored bounds) + 1 → start + d * all ≤ now + d * left

pub parts_told : (g : Asking) (bounds : List Bound) (f : ℕ → Option Value) (parts : List Cond) (i : ℕ) (x : Cond) (old own new : List ℕ) → i < length parts → x ≡ get_or parts i x → length bounds ≤ 1024
    → AreBits (length bounds) own (λ k. part_keeps (asked_by g) bounds f (known_in g (cond_tree x)) (get_or bounds k Default)) → AreBits 1024 new (λ k. bit old k && bit own k) → PartsTold g bounds f parts i old → PartsTold g bounds f parts (i + 1) new
parts_told g bounds f parts i x old own new lt at small mine both told k h =
    let b = get_or bounds k Default in
    let p = part_keeps (asked_by g) bounds f (known_in g (cond_tree x)) b in
    let split = ap (λ ts. bit old k && parts_keep (asked_by g) bounds f ts b) (rest_is g parts i x lt at) in
    ap (λ s. s && parts_keep (asked_by g) bounds f (rest g parts (i + 1)) b) (both k (omega (arith, h, small)) ∙ ap (λ s. bit old k && s) (mine k h))
    ∙ (by (bit old k) p (parts_keep (asked_by g) bounds f (rest g parts (i + 1)) b) ∙ (sym split ∙ told k h))
  where
    by : (s t u : Bool) → ((s && t) && u) ≡ (s && (t && u))
    by true t u = refl
    by false t u = refl

pub choices_told : (g : Asking) (bounds : List Bound) (parts : List Cond) (i : ℕ) (x : Cond) (old own new : List ℕ) → i < length parts → x ≡ get_or parts i x → length bounds ≤ 1024
    → AreBits (length bounds) own (λ k. whole_keeps (asked_by g) bounds (known_in g (cond_tree x)) (get_or bounds k Default)) → AreBits 1024 new (λ k. bit old k || bit own k) → ChoicesTold g bounds parts i old → ChoicesTold g bounds parts (i + 1) new
choices_told g bounds parts i x old own new lt at small mine both told k h =
    let b = get_or bounds k Default in
    let p = whole_keeps (asked_by g) bounds (known_in g (cond_tree x)) b in
    let split = ap (λ ts. bit old k || choices_keep (asked_by g) bounds ts b) (rest_is g parts i x lt at) in
    ap (λ s. s || choices_keep (asked_by g) bounds (rest g parts (i + 1)) b) (both k (omega (arith, h, small)) ∙ ap (λ s. bit old k || s) (mine k h))
    ∙ (by (bit old k) p (choices_keep (asked_by g) bounds (rest g parts (i + 1)) b) ∙ (sym split ∙ told k h))
  where
    by : (s t u : Bool) → ((s || t) || u) ≡ (s || (t || u))
    by true t u = refl
    by false t u = refl

pub costs_more : (bounds : List Bound) (start now after here left more all : ℕ) → left ≡ here + more → ((d : ℕ) → 2 * length (stored bounds) + 2 < 2 ^ (d + 1) → after ≤ now + 2 * d * here) → Costs bounds start now left all → Costs bounds start after more all
costs_more bounds start now after here left more all is mine before d most =
    let a = mine d most in
    let b = rw (is, mul-add (2 * d) here more) at (before d most) in
    omega (arith, a, b)

pub counts_more : (bounds : List Bound) (start now after here left more all : ℕ) → left ≡ here + more → ((d : ℕ) → 2 ^ d ≤ length (stored bounds) + 1 → now + d * here ≤ after) → Counts bounds start now left all → Counts bounds start after more all
counts_more bounds start now after here left more all is mine before d few =
    let a = mine d few in
    let b = rw (is, mul-add d here more) at (before d few) in
    omega (arith, a, b)

pub parts_split : (g : Asking) (f : ℕ → Option Value) (parts : List Cond) (i : ℕ) (x : Cond) → i < length parts → x ≡ get_or parts i x
    → parts_search (asked_by g) f (rest g parts i) ≡ part_searches (asked_by g) f (known_in g (cond_tree x)) + parts_search (asked_by g) f (rest g parts (i + 1))
parts_split g f parts i x lt at = ap (parts_search (asked_by g) f) (rest_is g parts i x lt at)

pub choices_split : (g : Asking) (parts : List Cond) (i : ℕ) (x : Cond) → i < length parts → x ≡ get_or parts i x
    → choices_search (asked_by g) (rest g parts i) ≡ whole_searches (asked_by g) (known_in g (cond_tree x)) + choices_search (asked_by g) (rest g parts (i + 1))
choices_split g parts i x lt at = ap (choices_search (asked_by g)) (rest_is g parts i x lt at)
