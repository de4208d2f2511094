-- One byte more of a text whose newlines are counted.
use Rattle.std.proofs.Common.{◌≡◌, ◌<◌, ◌≤◌, ℕ, zero, suc, ◌+◌, Bool, true, false, if◌then◌else◌, ◌==◌, filter, List, [], ◌∷◌, length, take, get_or, refl, sym, ◌∙◌, ap, arith, length-append}
use Rattle.spec_reader.specs.Specs.{newlines}
use Rattle.spec_reader.proofs.Filters.{filter_more, filter_end}

abbrev is_newline : ℕ → Bool
is_newline b = b == 10

one_long : (b : Bool) (x : ℕ) → length (if b then x ∷ [] else []) ≡ (if b then 1 else 0)
one_long true x = refl
one_long false x = refl

pub newlines_more : (text : List ℕ) (i : ℕ) → i < length text → newlines (take i text) + (if is_newline (get_or text i 0) then 1 else 0) ≡ newlines (take (i + 1) text)
newlines_more text i h =
    let x : ℕ = get_or text i 0 in
    ap (λ n. newlines (take i text) + n) (sym (one_long (is_newline x) x))
    ∙ (sym (length-append (filter is_newline (take i text)) (if is_newline x then x ∷ [] else []))
    ∙ ap length (filter_more is_newline text i x h (same text i h)))
  where
    same : (text : List ℕ) (i : ℕ) → i < length text → get_or text i (get_or text i 0) ≡ get_or text i 0
    same [] i h = absurd (omega arith)
    same (y ∷ ys) zero h = refl
    same (y ∷ ys) (suc i) h = same ys i (omega arith)

pub newlines_end : (text : List ℕ) (i : ℕ) → length text ≤ i → newlines (take i text) ≡ newlines text
newlines_end text i h = ap length (filter_end is_newline text i h)
