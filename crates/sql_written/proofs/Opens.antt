-- How many parentheses the marks of lists and names open.
use Rattle.std.proofs.Common.{◌≡◌, ℕ, suc, Bool, true, false, cond, ◌&&◌, not, List, [], ◌∷◌, refl, ◌∙◌, arith}
use Rattle.sql_tokens.specs.Words.{word_kind}
use Rattle.sql_tokens.specs.Written.{quoted}
use Rattle.sql_tokens.specs.declared.kind.TokenKind.{TokenKind}
use Rattle.sql_tokens.specs.declared.kind.TokenKind.TheVariants as kinds
use Rattle.sql_ast.specs.Expressions.{Tree, Trees}
use Rattle.sql_written.specs.Marks.{Mark, mark}
use Rattle.sql_written.specs.Spelling as spelled
use Rattle.sql_written.specs.Spelling.{is_plain}
use Rattle.sql_written.specs.Written.{marks}
use Rattle.sql_written.proofs.Costs.{opened_append, opened_by, opened_name, opened_plain}
use Rattle.sql_written.proofs.MarksApart.{plain_is}
use Rattle.sql_written.specs.Lists.{enclosed, list_of, more_parts, name_marks, names, parts, values}
use Rattle.sql_written.specs.Words.{name_unless}
use Rattle.sql_written.proofs.Gives.{free, total}
use Rattle.sql_written.proofs.Leaves.{first_of}

pub total_free : {A : Type 0} (xs : List A) → total free xs ≡ 0
total_free [] = refl
total_free (x ∷ xs) = omega (arith, total_free xs)

-- lists
module _ {A : Type 0} (f : A → List Mark) where
  opened_more : (xs : List A) → opened_by (more_parts f xs) ≡ total (λ x. opened_by (f x)) xs
  opened_more [] = refl
  opened_more (x ∷ xs) = omega (arith, opened_append (f x) (more_parts f xs), opened_more xs)

  pub opened_parts : (xs : List A) → opened_by (parts f xs) ≡ total (λ x. opened_by (f x)) xs
  opened_parts [] = refl
  opened_parts (x ∷ xs) = omega (arith, opened_append (f x) (more_parts f xs), opened_more xs)

pub opened_enclosed : (ms : List Mark) → opened_by (enclosed ms) ≡ suc (opened_by ms)
opened_enclosed ms = omega (arith, opened_append ms (spelled.closing ∷ []))

pub opened_values : (ts : Trees) → opened_by (values ts) ≡ total (λ (e : Tree). opened_by (marks e)) (list_of ts)
opened_values ts = opened_parts marks (list_of ts)

-- names
pub opened_names : (zs : List (List ℕ)) → opened_by (names zs) ≡ 0
opened_names zs = opened_parts name_marks zs ∙ no_names zs
  where
    no_names : (ys : List (List ℕ)) → total (λ (y : List ℕ). opened_by (name_marks y)) ys ≡ 0
    no_names [] = refl
    no_names (y ∷ ys) = omega (arith, opened_name y [], no_names ys)

unless_by : (z : List ℕ) (ms : List Mark) (f : Bool) → (f ≡ true → is_plain z ≡ true) → opened_by (cond f (mark (word_kind z) z) (mark kinds.QuotedName (quoted 34 z)) ∷ ms) ≡ opened_by ms
unless_by z ms true p = opened_plain (word_kind z) z ms (plain_is z (p refl)).named
unless_by z ms false p = omega arith

pub opened_unless : (c : TokenKind → Bool) (z : List ℕ) (ms : List Mark) → opened_by (name_unless c z ∷ ms) ≡ opened_by ms
opened_unless c z ms = unless_by z ms (is_plain z && not (c (word_kind z))) (λ e. first_of (is_plain z) (not (c (word_kind z))) e)
