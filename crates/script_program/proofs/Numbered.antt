-- Parts of numbered items, as far as a loop has come.
use Rattle.std.proofs.Common.{◌≡◌, ℕ, zero, suc, ◌+◌, ◌<◌, List, [], ◌∷◌, ◌++◌, take, length, slice_index_or, refl, sym, ap, ◌∙◌, append_assoc, append-nil, map, zero-add, arith}
use Rattle.std.proofs.lemmas.List.FromFn.{map-range_with_len_more}
use Rattle.std.specs.List.{range_with_len}
use Rattle.script_program.specs.Steps.{numbered}

numbered_more : {A B : Type 0} (f : ℕ → A → List B) (n : ℕ) (xs : List A) (i : ℕ) (d : A) → i < length xs → numbered f n (take (suc i) xs) ≡ numbered f n (take i xs) ++ f (n + i) (slice_index_or xs i d)
numbered_more f n [] i d h = absurd (omega arith)
numbered_more f n (x ∷ xs) zero d h = let e : n + zero ≡ n = omega arith in rw e (append-nil (f n x))
numbered_more f n (x ∷ xs) (suc i) d h =
    let more = numbered_more f (suc n) xs i d (omega arith) in
    let e : n + suc i ≡ suc n + i = omega arith in
    rw e (ap (λ l. f n x ++ l) more ∙ sym (append_assoc (f n x) (numbered f (suc n) (take i xs)) (f (suc n + i) (slice_index_or xs i d))))

-- a loop that adds the part of the item at i, which has the number i + 1
pub one_more : {A B : Type 0} (f : ℕ → A → List B) (xs : List A) (i : ℕ) (x : A) (before after : List B) → i < length xs → slice_index_or xs i x ≡ x
    → before ≡ numbered f 1 (take i xs) → after ≡ before ++ f (i + 1) x → after ≡ numbered f 1 (take (i + 1) xs)
one_more f xs i x before after h s p q =
    let e : i + 1 ≡ suc i = omega arith in
    let k : i + 1 ≡ 1 + i = omega arith in
    let front = numbered f 1 (take i xs) in
    q ∙ ap (λ l. l ++ f (i + 1) x) p ∙ ap (λ y. front ++ f (i + 1) y) (sym s) ∙ ap (λ m. front ++ f m (slice_index_or xs i x)) k ∙ sym (numbered_more f 1 xs i x h) ∙ ap (λ m. numbered f 1 (take m xs)) (sym e)

pub one_more_behind : {A B : Type 0} (f : ℕ → A → List B) (xs : List A) (i : ℕ) (x : A) (start before after : List B) → i < length xs → slice_index_or xs i x ≡ x
    → before ≡ start ++ numbered f 1 (take i xs) → after ≡ before ++ f (i + 1) x → after ≡ start ++ numbered f 1 (take (i + 1) xs)
one_more_behind f xs i x start before after h s p q =
    let part = f (i + 1) x in
    q ∙ ap (λ l. l ++ part) p ∙ append_assoc start (numbered f 1 (take i xs)) part
    ∙ ap (λ l. start ++ l) (one_more f xs i x (numbered f 1 (take i xs)) (numbered f 1 (take i xs) ++ part) h s refl refl)

-- a loop that adds the part of the number n
pub range_more : {X : Type 0} (f : ℕ → X) (n : ℕ) (start before after : List X) → before ≡ start ++ map f (range_with_len 0 n) → after ≡ before ++ f n ∷ [] → after ≡ start ++ map f (range_with_len 0 (n + 1))
range_more f n start before after p q =
    let e = map-range_with_len_more f 0 n n (zero-add n) in
    let a = append_assoc start (map f (range_with_len 0 n)) (f n ∷ []) in
    cc
