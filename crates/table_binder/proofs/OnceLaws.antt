-- Values of which each is kept once.
use Rattle.std.proofs.Common.{◌≡◌, Bool, true, false, not, ◌||◌, ◌&&◌, List, [], ◌∷◌, ◌++◌, refl, sym, ap, ◌∙◌, append_assoc, if◌then◌else◌}
use Rattle.std.specs.List.{filter}
use Rattle.std.proofs.lemmas.List.Elements.{filter_agree}
use Rattle.pg_values.specs.declared.value.Value.{Value}
use Rattle.bound_forms.specs.Listed.{is_same, lists}
use Rattle.table_binder.specs.RawBounds.{each_once}
use Rattle.bound_forms.proofs.ListedLaws.{same_trans}

filter_all : {A : Type 0} (p : A → Bool) (xs : List A) → ((x : A) → p x ≡ true) → filter p xs ≡ xs
filter_all p [] all = refl
filter_all p (x ∷ xs) all = rw (all x) (ap (λ ys. x ∷ ys) (filter_all p xs all))

filter_twice : {A : Type 0} (p q : A → Bool) (xs : List A) → filter p (filter q xs) ≡ filter (λ x. q x && p x) xs
filter_twice {A} p q [] = refl
filter_twice {A} p q (x ∷ xs) = by (q x) refl (p x) refl (filter_twice p q xs)
  where
    by : (s : Bool) → q x ≡ s → (t : Bool) → p x ≡ t → filter p (filter q xs) ≡ filter (λ x. q x && p x) xs → filter p (filter q (x ∷ xs)) ≡ filter (λ x. q x && p x) (x ∷ xs)
    by true e true f rest = rw (e, f) (ap (λ ys. x ∷ ys) rest)
    by true e false f rest = rw (e, f) rest
    by false e t f rest = rw e rest

-- the values of the second list that the first does not list, each once
abbrev pub further : List Value → List Value → List Value
further done rest = filter (λ w. not (lists done w)) (each_once rest)

pub further_start : (values : List Value) → further [] values ≡ each_once values
further_start values = filter_all (λ w. not (lists [] w)) (each_once values) (λ w. refl)

or_behind : (s t : Bool) → t ≡ true → s || t ≡ true
or_behind true t k = refl
or_behind false t k = k

pub once_start : (done values : List Value) → done ≡ [] → done ++ further done values ≡ each_once values
once_start done values none = rw none (further_start values)

-- a value that is the same as a listed one is listed
lists_same : (done : List Value) (v w : Value) → lists done v ≡ true → is_same v w ≡ true → lists done w ≡ true
lists_same [] v w h e = cc
lists_same (x ∷ done) v w h e = by (is_same x v) refl h (λ g. lists_same done v w g e)
  where
    by : (t : Bool) → is_same x v ≡ t → t || lists done v ≡ true → (lists done v ≡ true → lists done w ≡ true) → lists (x ∷ done) w ≡ true
    by true f g rest = rw (same_trans x v w f e) refl
    by false f g rest = or_behind (is_same x w) (lists done w) (rest g)

-- one that is listed adds nothing
pub further_known : (done : List Value) (v : Value) (rest : List Value) → lists done v ≡ true → further done (v ∷ rest) ≡ further done rest
further_known done v rest known = rw known (filter_twice (λ w. not (lists done w)) (λ w. not (is_same v w)) (each_once rest) ∙ filter_agree _ _ agree (each_once rest))
  where
    agree : (w : Value) → not (is_same v w) && not (lists done w) ≡ not (lists done w)
    agree w = by (is_same v w) refl
      where
        by : (t : Bool) → is_same v w ≡ t → not t && not (lists done w) ≡ not (lists done w)
        by true e = rw (lists_same done v w known e) refl
        by false e = refl

lists_more : (done : List Value) (v w : Value) → lists (done ++ v ∷ []) w ≡ lists done w || is_same v w
lists_more [] v w = by (is_same v w)
  where
    by : (t : Bool) → t || false ≡ t
    by true = refl
    by false = refl
lists_more (x ∷ done) v w = ap (λ t. is_same x w || t) (lists_more done v w) ∙ by (is_same x w)
  where
    by : (t : Bool) → t || (lists done w || is_same v w) ≡ (t || lists done w) || is_same v w
    by true = refl
    by false = refl

-- one that is not is the next
pub further_new : (done : List Value) (v : Value) (rest : List Value) → lists done v ≡ false → further done (v ∷ rest) ≡ v ∷ further (done ++ v ∷ []) rest
further_new done v rest new = rw new (ap (λ xs. v ∷ xs) (filter_twice (λ w. not (lists done w)) (λ w. not (is_same v w)) (each_once rest) ∙ filter_agree _ _ agree (each_once rest)))
  where
    agree : (w : Value) → not (is_same v w) && not (lists done w) ≡ not (lists (done ++ v ∷ []) w)
    agree w = rw (lists_more done v w) (by (is_same v w) (lists done w))
      where
        by : (s t : Bool) → not s && not t ≡ not (t || s)
        by true true = refl
        by true false = refl
        by false true = refl
        by false false = refl

-- one value more, added unless it is listed
pub added : (done : List Value) (v : Value) (rest more all : List Value) → more ≡ (if lists done v then done else done ++ v ∷ []) → done ++ further done (v ∷ rest) ≡ all → more ++ further more rest ≡ all
added done v rest more all is told = by (lists done v) refl is
  where
    by : (t : Bool) → lists done v ≡ t → more ≡ (if t then done else done ++ v ∷ []) → more ++ further more rest ≡ all
    by true e is = rw (is, ← (further_known done v rest e)) told
    by false e is = rw is (append_assoc done (v ∷ []) (further (done ++ v ∷ []) rest) ∙ ap (λ xs. done ++ xs) (sym (further_new done v rest e)) ∙ told)
