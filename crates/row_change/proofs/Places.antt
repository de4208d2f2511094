-- The places of targets by their leaves.
use Rattle.std.proofs.Common.{◌≡◌, ℕ, zero, suc, ◌+◌, ◌<◌, ◌==◌, ◌||◌, arith, ap, refl, sym, ◌∙◌, if◌then◌else◌, Bool, true, false, List, [], ◌∷◌, ◌++◌, Option, Some, None, find, length, subst, get_or, take, add-one}
use Rattle.std.specs.Prelude.{is_some, slice_get, slice_index_or}
use Rattle.std.specs.Option.{option_or}
use Rattle.std.specs.List.{list_any}
use Rattle.std.proofs.Math.Seq.{take-suc}
use Rattle.std.proofs.lemmas.List.{length-append, length-take-le}
use Rattle.std.proofs.lemmas.List.Folds.{find-append}
use Rattle.pg_values.specs.declared.ids.LeafId.{LeafId}
use Rattle.row_change.specs.declared.by_leaf.ByLeaf.{ByLeaf}
use Rattle.row_change.specs.declared.target.Target.{Target}
use Rattle.row_change.specs.Places.{noted, at_place, ArePlaces}
use Rattle.row_change.specs.Storing.{is_into}
use Rattle.row_change.specs.Targets.{HasTarget}

get_front : {X : Type 0} (xs ys : List X) (i : ℕ) → i < length xs → slice_get (xs ++ ys) i ≡ slice_get xs i
get_front [] ys i lt = absurd (omega arith)
get_front (x ∷ xs) ys zero lt = refl
get_front (x ∷ xs) ys (suc i) lt = get_front xs ys i (omega arith)

get_last : {X : Type 0} (xs : List X) (y : X) → slice_get (xs ++ y ∷ []) (length xs) ≡ Some y
get_last [] y = refl
get_last (x ∷ xs) y = get_last xs y

get_at : {X : Type 0} (xs : List X) (i : ℕ) (d : X) → i < length xs → slice_get xs i ≡ Some (slice_index_or xs i d)
get_at [] i d lt = absurd (omega arith)
get_at (x ∷ xs) zero d lt = refl
get_at (x ∷ xs) (suc i) d lt = get_at xs i d (omega arith)

first_got : {X : Type 0} (xs : List X) (i : ℕ) (o : Option X) → i < length xs → option_or (slice_get xs i) o ≡ slice_get xs i
first_got [] i o lt = absurd (omega arith)
first_got (x ∷ xs) zero o lt = refl
first_got (x ∷ xs) (suc i) o lt = first_got xs i o (omega arith)

-- ---- with a target more

abbrev IsWithin : ℕ → Option ℕ → Type 0
IsWithin n o = (k : ℕ) → o ≡ Some k → k < n

first_more : (leaf : LeafId) (targets : List Target) (t : Target) (o : Option ℕ) (b : Bool) → find (is_into leaf) targets ≡ at_place targets o → IsWithin (length targets) o
    → option_or (find (is_into leaf) targets) (if b then Some t else None) ≡ at_place (targets ++ t ∷ []) (option_or o (if b then Some (length targets) else None))
first_more leaf targets t None true is within = ap (λ f. option_or f (Some t)) is ∙ sym (get_last targets t)
first_more leaf targets t None false is within = ap (λ f. option_or f None) is
first_more leaf targets t (Some k) b is within =
    ap (λ f. option_or f (if b then Some t else None)) is ∙ (first_got targets k (if b then Some t else None) (within k refl) ∙ sym (get_front targets (t ∷ []) k (within k refl)))

within_more : (n k : ℕ) (o : Option ℕ) (b : Bool) → IsWithin n o → option_or o (if b then Some n else None) ≡ Some k → k < n + 1
within_more n k None true within is = let same : n ≡ k = cc in omega (arith, same)
within_more n k None false within is = absurd (cc)
within_more n k (Some j) b within is =
    let same : j ≡ k = cc in
    let lt = within j refl in
    omega (arith, same, lt)

pub places_more : (old new : ByLeaf ℕ) (targets : List Target) (t : Target) (leaf : LeafId) → ArePlaces old targets → t.leaf ≡ leaf
    → ((l : LeafId) → noted new l ≡ option_or (noted old l) (if leaf.number == l.number then Some (length targets) else None)) → ArePlaces new (targets ++ t ∷ [])
places_more old new targets t leaf are same notes =
    let is : (l : LeafId) → noted new l ≡ option_or (noted old l) (if is_into l t then Some (length targets) else None) = λ l. notes l ∙ ap (λ (x : LeafId). option_or (noted old l) (if x.number == l.number then Some (length targets) else None)) (sym same) in
    record {
      first = λ l. find-append (is_into l) targets (t ∷ []) ∙ (first_more l targets t (noted old l) (is_into l t) (are.first l) (are.within l) ∙ ap (at_place (targets ++ t ∷ [])) (sym (is l)));
      within = λ l k some.
          let long = length-append targets (t ∷ []) in
          let lt = within_more (length targets) k (noted old l) (is_into l t) (are.within l) (sym (is l) ∙ some) in
          omega (arith, long, lt);
    }

pub no_places : (new : ByLeaf ℕ) → ((l : LeafId) → noted new l ≡ None) → ArePlaces new []
no_places new none = record {
  first = λ l. ap (at_place []) (sym (none l));
  within = λ l k some. absurd (let no = none l in cc);
}

-- ---- what a place tells

pub target_there : (places : ByLeaf ℕ) (targets : List Target) (leaf : LeafId) (k : ℕ) (t : Target) → ArePlaces places targets → Some k ≡ noted places leaf → t ≡ slice_index_or targets k t → find (is_into leaf) targets ≡ Some t
target_there places targets leaf k t are is at =
    are.first leaf ∙ (ap (at_place targets) (sym is) ∙ (get_at targets k t (are.within leaf k (sym is)) ∙ ap (λ x. Some x) (sym at)))

pub no_target_there : (places : ByLeaf ℕ) (targets : List Target) (leaf : LeafId) → ArePlaces places targets → None ≡ noted places leaf → find (is_into leaf) targets ≡ None
no_target_there places targets leaf are is = are.first leaf ∙ ap (at_place targets) (sym is)

any_found : {X : Type 0} (p : X → Bool) (xs : List X) (x : X) → find p xs ≡ Some x → list_any p xs ≡ true
any_found p [] x is = absurd (cc)
any_found p (y ∷ xs) x is = by_first (p y) is (any_found p xs x)
  where
    by_first : (b : Bool) → (if b then Some y else find p xs) ≡ Some x → (find p xs ≡ Some x → list_any p xs ≡ true) → (b || list_any p xs) ≡ true
    by_first true is rest = refl
    by_first false is rest = rest is

pub has_place : (places : ByLeaf ℕ) (targets : List Target) (leaf : LeafId) (k : ℕ) → ArePlaces places targets → Some k ≡ noted places leaf → HasTarget targets leaf
has_place places targets leaf k are is = by_list targets are.first are.within
  where
    by_list : (ts : List Target) → ((l : LeafId) → find (is_into l) ts ≡ at_place ts (noted places l)) → ((l : LeafId) (j : ℕ) → noted places l ≡ Some j → j < length ts) → list_any (is_into leaf) ts ≡ true
    by_list [] first within = let lt = within leaf k (sym is) in absurd (omega (arith, lt))
    by_list (t ∷ ts) first within =
        any_found (is_into leaf) (t ∷ ts) (slice_index_or (t ∷ ts) k t) (first leaf ∙ (ap (at_place (t ∷ ts)) (sym is) ∙ get_at (t ∷ ts) k t (within leaf k (sym is))))

-- ---- the targets one after the other

pub places_next : (old new : ByLeaf ℕ) (targets : List Target) (t : Target) (i : ℕ) → i < length targets → t ≡ get_or targets i t → ArePlaces old (take i targets)
    → ((l : LeafId) → noted new l ≡ option_or (noted old l) (if (get_or targets i t).leaf.number == l.number then Some i else None)) → ArePlaces new (take (i + 1) targets)
places_next old new targets t i lt is are notes =
    let long : length (take i targets) ≡ i = length-take-le i targets (omega (arith, lt)) in
    let next : i + 1 ≡ suc i = add-one i in
    let more : take (i + 1) targets ≡ take i targets ++ t ∷ [] = rw next (take-suc targets i t lt ∙ ap (λ (x : Target). take i targets ++ x ∷ []) (sym is)) in
    let told : (l : LeafId) → noted new l ≡ option_or (noted old l) (if t.leaf.number == l.number then Some (length (take i targets)) else None) =
    λ l. notes l ∙ ap (λ (x : Target). option_or (noted old l) (if x.leaf.number == l.number then Some i else None)) (sym is) ∙ ap (λ (n : ℕ). option_or (noted old l) (if t.leaf.number == l.number then Some n else None)) (sym long) in
    subst (ArePlaces new) (sym more) (places_more old new (take i targets) t t.leaf are refl told)
