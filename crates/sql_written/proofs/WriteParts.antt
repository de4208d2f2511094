-- What is appended part by part is the text of a list.
use Rattle.std.proofs.Common.{take, ◌-◌, ◌≡◌, ℕ, ◌+◌, ◌<◌, ◌≤◌, List, [], ◌∷◌, ◌++◌, map, length, drop, get_or, refl, sym, ap, ◌∙◌, subst, append-nil}
use Rattle.sql_ast.specs.Expressions.{Tree, listed}
use Rattle.sql_written.specs.Marks.{Mark, blank, bytes_of, text_of}
use Rattle.sql_written.specs.Spelling as spelled
use Rattle.sql_written.proofs.WriteSteps.{behind, slice_split, slice_step}
use Rattle.sql_written.specs.Lists.{list_of, more_parts, parts}

pub list_there : (ts : List Tree) → list_of (listed ts) ≡ ts
list_there [] = refl
list_there (t ∷ ts) = ap (λ us. t ∷ us) (list_there ts)

pub one_mark : (m : Mark) (o0 o1 : List ℕ) → o1 ≡ o0 ++ bytes_of m → o1 ≡ o0 ++ text_of (m ∷ [])
one_mark m o0 o1 h = h ∙ ap (λ z. o0 ++ z) (sym (append-nil (bytes_of m)))

module _ {X A : Type 0} (tree : X → A) (marks : A → List Mark) where
  pub more_step : (xs : List X) (i : ℕ) (x : X) (o0 o1 o2 all : List ℕ) → i < length xs → x ≡ get_or xs i x → o1 ≡ o0 ++ text_of (spelled.comma ∷ blank ∷ []) → o2 ≡ o1 ++ text_of (marks (tree x)) →
      o0 ++ text_of (more_parts marks (map tree (drop i xs))) ≡ all → o2 ++ text_of (more_parts marks (map tree (drop (i + 1) xs))) ≡ all
  more_step xs i x o0 o1 o2 all l e h k w =
      let ms = spelled.comma ∷ blank ∷ marks (tree x) in
      let rest = more_parts marks (map tree (drop (i + 1) xs)) in
      let j : o2 ≡ o0 ++ text_of ms = behind (spelled.comma ∷ blank ∷ []) (marks (tree x)) o0 o1 o2 h k in
      behind ms rest o0 o2 (o2 ++ text_of rest) j refl ∙ (ap (λ (ys : List A). o0 ++ text_of (more_parts marks ys)) (sym (slice_step tree xs i x l e)) ∙ w)

  pub list_step : (xs : List X) (x : X) (o0 o1 o2 : List ℕ) → 1 ≤ length xs → x ≡ get_or xs 0 x → o1 ≡ o0 ++ text_of (marks (tree x)) → o2 ≡ o1 ++ text_of (more_parts marks (map tree (take (length xs - 1) (drop 1 xs)))) →
      o2 ≡ o0 ++ text_of (parts marks (map tree xs))
  list_step xs x o0 o1 o2 l e h k =
      subst (λ (ys : List A). o2 ≡ o0 ++ text_of (parts marks ys)) (sym (slice_split tree xs x l e))
      (behind (marks (tree x)) (more_parts marks (map tree (take (length xs - 1) (drop 1 xs)))) o0 o1 o2 h k)
