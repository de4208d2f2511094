-- What the places in a list of parts give, one part after the other.
use Rattle.std.proofs.Common.{◌≡◌, ℕ, ◌+◌, ◌<◌, ◌≤◌, List, [], ◌∷◌, ◌++◌, Option, map, drop, length, get_or, refl, sym, ap, ◌∙◌}
use Rattle.std.proofs.lemmas.List.{drop_all}
use Rattle.pg_values.specs.declared.value.Kind.{Kind}
use Rattle.expression_binder.proofs.Lists.{later_step}
use Rattle.prepared_statements.specs.Firsts.{noted}
use Rattle.prepared_statements.specs.ParameterPlaces.{Place}
use Rattle.prepared_statements.proofs.Firsts.{noted_both, noted_none}

-- the places of the first part are noted, and those behind it are left
pub is_noted : (before after : List (Option Kind)) (xs ys whole : List Place) (all : List (Option Kind)) → whole ≡ xs ++ ys → noted before whole ≡ all → after ≡ noted before xs → noted after ys ≡ all
is_noted before after xs ys whole all step so_far is = ap (λ ks. noted ks ys) is ∙ (sym (noted_both before xs ys) ∙ (ap (noted before) (sym step) ∙ so_far))

-- where the places of a list are those of its parts, one behind the other
pub part_noted : {A B : Type 0} (f : A → B) (P : List B → List Place) (part : B → List Place) (step : (b : B) (bs : List B) → P (b ∷ bs) ≡ part b ++ P bs) (before after : List (Option Kind))
    (xs : List A) (i : ℕ) (x : A) (all : List (Option Kind)) → i < length xs → x ≡ get_or xs i x → noted before (P (map f (drop i xs))) ≡ all → after ≡ noted before (part (f x)) → noted after (P (map f (drop (i + 1) xs))) ≡ all
part_noted f P part step before after xs i x all within is so_far noted_one =
    is_noted before after (part (f x)) (P (map f (drop (i + 1) xs))) (P (map f (drop i xs))) all (ap P (later_step f xs i x within is) ∙ step (f x) (map f (drop (i + 1) xs))) so_far noted_one

-- and at the end none are left
pub all_noted : {A B : Type 0} (f : A → B) (P : List B → List Place) → P [] ≡ [] → (now all : List (Option Kind)) (xs : List A) (i : ℕ) → length xs ≤ i → noted now (P (map f (drop i xs))) ≡ all → now ≡ all
all_noted f P nil now all xs i past is = noted_none now (P (map f (drop i xs))) (ap (λ ys. P (map f ys)) (drop_all i xs past) ∙ nil) ∙ is

pub map_later : {A B : Type 0} (f : A → B) (xs : List A) → map f (drop 1 xs) ≡ drop 1 (map f xs)
map_later f [] = refl
map_later f (x ∷ xs) = refl
