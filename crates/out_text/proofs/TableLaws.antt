-- Columns joined by a byte, as far as a loop has come.
use Rattle.std.proofs.Common.{◌≡◌, ℕ, ◌+◌, ◌<◌, List, [], ◌∷◌, ◌++◌, take, length, get_or, zero, suc, refl, sym, ap, ◌∙◌, append_assoc, append-nil, add-one, zero-add, map, arith}
use Rattle.std.proofs.Math.Seq.{take-suc}
use Rattle.std.proofs.lemmas.List.{flat_map_more}
use Rattle.std.proofs.lemmas.List.FromFn.{map-range_with_len_more}
use Rattle.std.specs.List.{join_by, range_with_len}
use Rattle.out_text.specs.Table.{between}

-- one part more
pub join_by_more : {X : Type 0} (f : X → List ℕ) (byte : ℕ) (xs : List X) (i : ℕ) (d : X) → i < length xs
    → (join_by f (byte ∷ []) (take i xs) ++ between i byte) ++ f (get_or xs i d) ≡ join_by f (byte ∷ []) (take (suc i) xs)
join_by_more f byte [] i d h = absurd (omega arith)
join_by_more f byte (x ∷ xs) zero d h = sym (append-nil (f x))
join_by_more f byte (x ∷ xs) (suc i) d h =
    let within : i < length xs = omega arith in
    append_assoc (f x ++ _) (byte ∷ []) (f (get_or xs i d))
    ∙ flat_map_more (λ y. byte ∷ f y) (f x) (take i xs) (get_or xs i d)
    ∙ ap (λ l. join_by f (byte ∷ []) (x ∷ l)) (sym (take-suc xs i d within))

-- a loop that writes what stands before column i, and then the column
pub column_written : {X : Type 0} (f : X → List ℕ) (byte : ℕ) (xs : List X) (i : ℕ) (d : X) (start before middle after : List ℕ) → i < length xs
    → before ≡ start ++ join_by f (byte ∷ []) (take i xs) → middle ≡ before ++ between i byte → after ≡ middle ++ f (get_or xs i d)
    → after ≡ start ++ join_by f (byte ∷ []) (take (i + 1) xs)
column_written f byte xs i d start before middle after h p q r =
    let joined = join_by f (byte ∷ []) (take i xs) in
    let part = f (get_or xs i d) in
    r ∙ ap (λ l. l ++ part) (q ∙ ap (λ l. l ++ between i byte) p ∙ append_assoc start joined (between i byte))
    ∙ append_assoc start (joined ++ between i byte) part
    ∙ ap (λ l. start ++ l) (join_by_more f byte xs i d h)
    ∙ rw (add-one i) refl

-- a loop that adds the column at n
pub column_added : {X : Type 0} (f : ℕ → X) (n : ℕ) (before after : List X) (x : X) → before ≡ map f (range_with_len 0 n) → x ≡ f n
    → after ≡ before ++ x ∷ [] → after ≡ map f (range_with_len 0 (n + 1))
column_added f n before after x p q r = let e = map-range_with_len_more f 0 n n (zero-add n) in cc

pub ruleset joined = (column_written)

pub ruleset columns = (column_added)
