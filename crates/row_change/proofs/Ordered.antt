-- Rows whose values are those of all columns in their order.
use Rattle.std.proofs.Common.{◌≡◌, ℕ, zero, suc, ◌+◌, ◌<◌, ◌≤◌, ◌==◌, Bool, true, false, if◌then◌else◌, List, [], ◌∷◌, ◌++◌, length, get_or, map, take, refl, sym, ap, subst, ◌∙◌, arith, add-one}
use Rattle.std.specs.List.{range_with_len}
use Rattle.std.proofs.Math.Seq.{take-suc}
use Rattle.std.proofs.lemmas.List.{map_more, take_all}
use Rattle.std.proofs.lemmas.Bool.Decides.{nat_tests}
use Rattle.pg_values.specs.declared.value.Value.{Value}
use Rattle.row_change.specs.FullRows.{value_for, full_row}

same_over : (f g : ℕ → Value) (n m : ℕ) → ((x : ℕ) → n ≤ x → f x ≡ g x) → map f (range_with_len n m) ≡ map g (range_with_len n m)
same_over f g n zero same = refl
same_over f g n (suc m) same =
    ap (λ v. v ∷ map f (range_with_len (n + 1) m)) (same n (omega arith))
    ∙ ap (λ vs. g n ∷ vs) (same_over f g (n + 1) m (λ x le. same x (omega (arith, le))))

-- the first of the columns has the first of the values
here : (n column : ℕ) (v : Value) (ns : List ℕ) (vs : List Value) → n ≡ column → value_for (n ∷ ns) (v ∷ vs) column ≡ v
here n column v ns vs is = let e : (n == column) ≡ true = grind (arith, nat_tests, is) in ap (λ (b : Bool). if b then v else value_for ns vs column) e

-- and a later one has none of it
later : (n column : ℕ) (v : Value) (ns : List ℕ) (vs : List Value) → n < column → value_for (n ∷ ns) (v ∷ vs) column ≡ value_for ns vs column
later n column v ns vs lt = let e : (n == column) ≡ false = grind (arith, nat_tests, lt) in ap (λ (b : Bool). if b then v else value_for ns vs column) e

in_order_from : (n : ℕ) (named : List ℕ) (values : List Value) → length named ≡ length values → ((k : ℕ) → k < length named → get_or named k 0 ≡ n + k) → map (value_for named values) (range_with_len n (length values)) ≡ values
in_order_from n [] [] same each = refl
in_order_from n [] (v ∷ vs) same each = absurd (omega (arith, same))
in_order_from n (c ∷ cs) [] same each = absurd (omega (arith, same))
in_order_from n (c ∷ cs) (v ∷ vs) same each =
    let first : c ≡ n = each 0 (omega arith) ∙ omega arith in
    ap (λ w. w ∷ map (value_for (c ∷ cs) (v ∷ vs)) (range_with_len (n + 1) (length vs))) (here c n v cs vs first)
    ∙ ap (λ ws. v ∷ ws) (same_over (value_for (c ∷ cs) (v ∷ vs)) (value_for cs vs) (n + 1) (length vs) (λ x le. later c x v cs vs (omega (arith, le, first)))
    ∙ in_order_from (n + 1) cs vs (omega (arith, same)) (λ k lt. each (suc k) (omega (arith, lt)) ∙ omega arith))

pub in_order : (width : ℕ) (named : List ℕ) (values : List Value) → length named ≡ width → length values ≡ width → ((k : ℕ) → k < length named → get_or named k 0 ≡ k) → full_row width named values ≡ values
in_order width named values named_is values_are each =
    ap (λ w. full_row w named values) (sym values_are)
    ∙ in_order_from 0 named values (named_is ∙ sym values_are) (λ k lt. each k lt ∙ omega arith)

-- ---- rows that are full

pub full_more : (f : List Value → List Value) (rows : List (List Value)) (i : ℕ) (r : List Value) → i < length rows → r ≡ get_or rows i r → f r ≡ r → map f (take i rows) ≡ take i rows → map f (take (i + 1) rows) ≡ take (i + 1) rows
full_more f rows i r lt at same done =
    let next : i + 1 ≡ suc i = add-one i in
    let more : take (i + 1) rows ≡ take i rows ++ r ∷ [] = rw next (take-suc rows i r lt ∙ ap (λ (x : List Value). take i rows ++ x ∷ []) (sym at)) in
    map_more f rows i r lt
    ∙ ap (λ (x : List Value). map f (take i rows) ++ f x ∷ []) (sym at)
    ∙ ap (λ (x : List Value). map f (take i rows) ++ x ∷ []) same
    ∙ ap (λ (xs : List (List Value)). xs ++ r ∷ []) done
    ∙ sym more

pub full_done : (f : List Value → List Value) (rows : List (List Value)) (i : ℕ) → length rows ≤ i → map f (take i rows) ≡ take i rows → map f rows ≡ rows
full_done f rows i over done = subst (λ (xs : List (List Value)). map f xs ≡ xs) (take_all i rows over) done
