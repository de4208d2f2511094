-- Entries under the numbers of their places.
use Rattle.std.proofs.Common.{◌≡◌, ℕ, zero, suc, ◌+◌, ◌<◌, ◌++◌, arith, ap, refl, sym, subst, ◌∙◌, Bool, true, false, List, [], ◌∷◌, filter, map, length, get_or, inl, inr}
use Rattle.std.specs.List.{All}
use Rattle.std.proofs.lemmas.Bool.{cases_Bool}
use Rattle.history.specs.declared.catalogue.Entry.{Entry}
use Rattle.part_catalog.specs.declared.stored.StoredEntry.{StoredEntry}
use Rattle.part_catalog.specs.Kept.{entry_in, no_entry, with_place, placed_from, by_place, stored_at}
use Rattle.part_catalog.proofs.Renumbered.{renumbered}

length_from : (n : ℕ) (xs : List StoredEntry) → length (placed_from n xs) ≡ length xs
length_from n [] = refl
length_from n (x ∷ xs) = ap suc (length_from (suc n) xs)

pub length_by_place : (xs : List StoredEntry) → length (by_place xs) ≡ length xs
length_by_place xs = length_from 0 xs

at_from : (n : ℕ) (xs : List StoredEntry) (k : ℕ) (d : Entry) → k < length xs → get_or (placed_from n xs) k d ≡ with_place (n + k) (get_or xs k no_entry).entry
at_from n [] k d lt = absurd (omega (arith, lt))
at_from n (x ∷ xs) zero d lt = let same : n ≡ n + 0 = omega arith in ap (λ i. with_place i x.entry) same
at_from n (x ∷ xs) (suc k) d lt =
    let same : suc n + k ≡ n + suc k = omega arith in
    at_from (suc n) xs k d (omega (arith, lt)) ∙ ap (λ i. with_place i (get_or xs k no_entry).entry) same

pub at_by_place : (xs : List StoredEntry) (k : ℕ) (d : Entry) → k < length xs → get_or (by_place xs) k d ≡ with_place k (get_or xs k no_entry).entry
at_by_place xs k d lt = let same : 0 + k ≡ k = omega arith in at_from 0 xs k d lt ∙ ap (λ i. with_place i (get_or xs k no_entry).entry) same

more_from : (n : ℕ) (xs : List StoredEntry) (x : StoredEntry) → placed_from n (xs ++ x ∷ []) ≡ placed_from n xs ++ with_place (n + length xs) x.entry ∷ []
more_from n [] x = let same : n ≡ n + 0 = omega arith in ap (λ i. with_place i x.entry ∷ []) same
more_from n (y ∷ xs) x =
    let same : suc n + length xs ≡ n + suc (length xs) = omega arith in
    ap (λ es. with_place n y.entry ∷ es) (more_from (suc n) xs x ∙ ap (λ i. placed_from (suc n) xs ++ with_place i x.entry ∷ []) same)

pub more_by_place : (xs : List StoredEntry) (x : StoredEntry) → by_place (xs ++ x ∷ []) ≡ by_place xs ++ with_place (length xs) x.entry ∷ []
more_by_place xs x = let same : 0 + length xs ≡ length xs = omega arith in more_from 0 xs x ∙ ap (λ i. by_place xs ++ with_place i x.entry ∷ []) same

-- lists that differ in their ends and marks alone
same_from : (n : ℕ) (xs ys : List StoredEntry) → map entry_in xs ≡ map entry_in ys → placed_from n xs ≡ placed_from n ys
same_from n [] [] e = refl
same_from n [] (y ∷ ys) e = absurd (cc)
same_from n (x ∷ xs) [] e = absurd (cc)
same_from n (x ∷ xs) (y ∷ ys) e =
    let first : x.entry ≡ y.entry = cc in
    let rest : map entry_in xs ≡ map entry_in ys = cc in
    ap (λ (z : Entry). with_place n z ∷ placed_from (suc n) xs) first ∙ ap (λ es. with_place n y.entry ∷ es) (same_from (suc n) xs ys rest)

pub same_by_place : (xs ys : List StoredEntry) → map entry_in xs ≡ map entry_in ys → by_place xs ≡ by_place ys
same_by_place xs ys e = same_from 0 xs ys e

pub all_by_place : (P : Entry → Type 0) (xs : List StoredEntry) → ((k : ℕ) → k < length xs → P (with_place k (get_or xs k no_entry).entry)) → All P (by_place xs)
all_by_place P xs h k d lt =
    let within : k < length xs = omega (arith, lt, length_by_place xs) in
    subst P (sym (at_by_place xs k d within)) (h k within)

-- ---- under their own numbers

-- the number of the entry at a place
abbrev pub own_number : List StoredEntry → ℕ → ℕ
own_number entries k = (stored_at entries k).entry.id.number

meet_from : (f : Entry → Entry) (p q : Entry → Bool) (n : ℕ) (xs : List StoredEntry)
    → ((k : ℕ) → k < length xs → f (with_place (n + k) (get_or xs k no_entry).entry) ≡ (get_or xs k no_entry).entry)
    → ((k : ℕ) → k < length xs → p (with_place (n + k) (get_or xs k no_entry).entry) ≡ q (get_or xs k no_entry).entry)
    → map f (filter p (placed_from n xs)) ≡ filter q (map entry_in xs)
meet_from f p q n [] own same = refl
meet_from f p q n (x ∷ xs) own same =
    let here : n ≡ n + 0 = omega arith in
    let next : (k : ℕ) → suc n + k ≡ n + suc k = λ k. omega arith in
    let first : f (with_place n x.entry) ≡ x.entry = ap (λ i. f (with_place i x.entry)) here ∙ own 0 (omega arith) in
    let test : p (with_place n x.entry) ≡ q x.entry = ap (λ i. p (with_place i x.entry)) here ∙ same 0 (omega arith) in
    let rest = meet_from f p q (suc n) xs (λ k lt. ap (λ i. f (with_place i (get_or xs k no_entry).entry)) (next k) ∙ own (suc k) (omega (arith, lt))) (λ k lt. ap (λ i. p (with_place i (get_or xs k no_entry).entry)) (next k) ∙ same (suc k) (omega (arith, lt))) in
    elim (cases_Bool (q x.entry)) [
      | inl y ↦ let z : p (with_place n x.entry) ≡ true = test ∙ y in rw (y, z) (ap (λ e. e ∷ map f (filter p (placed_from (suc n) xs))) first ∙ ap (λ es. x.entry ∷ es) rest)
      | inr o ↦ let z : p (with_place n x.entry) ≡ false = test ∙ o in rw (o, z) rest
    ]

-- those that pass, under their own numbers
pub passed_meet : (p q : Entry → Bool) (xs : List StoredEntry) → ((k : ℕ) → k < length xs → p (with_place k (get_or xs k no_entry).entry) ≡ q (get_or xs k no_entry).entry) → map (renumbered (own_number xs)) (filter p (by_place xs)) ≡ filter q (map entry_in xs)
passed_meet p q xs same =
    let zero_on : (k : ℕ) → 0 + k ≡ k = λ k. omega arith in
    meet_from (renumbered (own_number xs)) p q 0 xs
    (λ k lt. ap (λ i. renumbered (own_number xs) (with_place i (get_or xs k no_entry).entry)) (zero_on k))
    (λ k lt. ap (λ i. p (with_place i (get_or xs k no_entry).entry)) (zero_on k) ∙ same k lt)

all_from : (f : Entry → Entry) (n : ℕ) (xs : List StoredEntry) → ((k : ℕ) → k < length xs → f (with_place (n + k) (get_or xs k no_entry).entry) ≡ (get_or xs k no_entry).entry) → map f (placed_from n xs) ≡ map entry_in xs
all_from f n [] own = refl
all_from f n (x ∷ xs) own =
    let here : n ≡ n + 0 = omega arith in
    let next : (k : ℕ) → suc n + k ≡ n + suc k = λ k. omega arith in
    let first : f (with_place n x.entry) ≡ x.entry = ap (λ i. f (with_place i x.entry)) here ∙ own 0 (omega arith) in
    let rest = all_from f (suc n) xs (λ k lt. ap (λ i. f (with_place i (get_or xs k no_entry).entry)) (next k) ∙ own (suc k) (omega (arith, lt))) in
    ap (λ e. e ∷ map f (placed_from (suc n) xs)) first ∙ ap (λ es. x.entry ∷ es) rest

-- all of them
pub own_entries : (xs : List StoredEntry) → map (renumbered (own_number xs)) (by_place xs) ≡ map entry_in xs
own_entries xs =
    let zero_on : (k : ℕ) → 0 + k ≡ k = λ k. omega arith in
    all_from (renumbered (own_number xs)) 0 xs (λ k lt. ap (λ i. renumbered (own_number xs) (with_place i (get_or xs k no_entry).entry)) (zero_on k))
