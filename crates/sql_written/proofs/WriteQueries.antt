-- What is appended one after another is the text of a query.
use Rattle.std.proofs.Common.{◌≡◌, ℕ, ◌+◌, ◌-◌, ◌<◌, ◌≤◌, ◌==◌, false, List, [], ◌∷◌, ◌++◌, map, length, take, drop, get_or, refl, sym, ap, ◌∙◌, subst}
use Rattle.sql_tokens.specs.declared.kind.TokenKind.TheVariants as kinds
use Rattle.sql_ast.specs.Expressions.{Trees, listed, tree}
use Rattle.sql_ast.specs.declared.expr.Expr.{Expr}
use Rattle.sql_ast.specs.Queries.{Joined, joined_tree, RowTree, prepares}
use Rattle.sql_ast.specs.declared.select.FromItem.{FromItem}
use Rattle.sql_written.specs.Marks.{Mark, blank, bytes_of, text_of}
use Rattle.sql_written.specs.Spelling as spelled
use Rattle.sql_written.proofs.WriteSteps.{behind, slice_split, slice_step}
use Rattle.sql_written.specs.Lists.{enclosed, values}
use Rattle.sql_written.specs.Queries.{argument_marks, from_marks, is_transaction, joined_marks, kinds_marks, more_tables, query_marks, row_statement_marks, table_marks}
use Rattle.sql_written.specs.Words.{name_unless, word}
use Rattle.sql_written.proofs.WriteParts.{one_mark}

-- the same of two that are equal
pub same : {A : Type 0} (f : A → List ℕ) (x y : A) (o0 o1 : List ℕ) → x ≡ y → o1 ≡ o0 ++ f x → o1 ≡ o0 ++ f y
same f x y o0 o1 e h = subst (λ z. o1 ≡ o0 ++ f z) e h

-- FROM
pub tables_step : (xs : List FromItem) (i : ℕ) (x : FromItem) (o0 o1 all : List ℕ) → i < length xs → x ≡ get_or xs i x → o1 ≡ o0 ++ text_of (joined_marks (joined_tree x)) →
    o0 ++ text_of (more_tables (map joined_tree (drop i xs))) ≡ all → o1 ++ text_of (more_tables (map joined_tree (drop (i + 1) xs))) ≡ all
tables_step xs i x o0 o1 all l e h w =
    let rest = more_tables (map joined_tree (drop (i + 1) xs)) in
    behind (joined_marks (joined_tree x)) rest o0 o1 (o1 ++ text_of rest) h refl ∙ (ap (λ (ys : List Joined). o0 ++ text_of (more_tables ys)) (sym (slice_step joined_tree xs i x l e)) ∙ w)

pub from_text : (xs : List FromItem) (x : FromItem) (o0 o1 o2 o3 : List ℕ) → 1 ≤ length xs → x ≡ get_or xs 0 x → o1 ≡ o0 ++ text_of (blank ∷ word kinds.From ∷ blank ∷ []) → o2 ≡ o1 ++ text_of (table_marks x.table) →
    o3 ≡ o2 ++ text_of (more_tables (map joined_tree (take (length xs - 1) (drop 1 xs)))) → o3 ≡ o0 ++ text_of (from_marks (map joined_tree xs))
from_text xs x o0 o1 o2 o3 l e h1 h2 h3 =
    let rest = more_tables (map joined_tree (take (length xs - 1) (drop 1 xs))) in
    subst (λ (ys : List Joined). o3 ≡ o0 ++ text_of (from_marks ys)) (sym (slice_split joined_tree xs x l e))
    (behind (blank ∷ word kinds.From ∷ blank ∷ []) (table_marks x.table ++ rest) o0 o1 o3 h1 (behind (table_marks x.table) rest o1 o2 o3 h2 h3))

-- three one behind the other
pub three_texts : (xs ys zs : List Mark) (o0 o1 o2 o3 : List ℕ) → o1 ≡ o0 ++ text_of xs → o2 ≡ o1 ++ text_of ys → o3 ≡ o2 ++ text_of zs → o3 ≡ o0 ++ text_of (xs ++ (ys ++ zs))
three_texts xs ys zs o0 o1 o2 o3 h1 h2 h3 = behind xs (ys ++ zs) o0 o1 o3 h1 (behind ys zs o1 o2 o3 h2 h3)

pub select_text : (items from condition rest : List Mark) (o0 o1 o2 o3 o4 o5 : List ℕ) → o1 ≡ o0 ++ text_of (word kinds.Select ∷ blank ∷ []) → o2 ≡ o1 ++ text_of items → o3 ≡ o2 ++ text_of from → o4 ≡ o3 ++ text_of condition →
    o5 ≡ o4 ++ text_of rest → o5 ≡ o0 ++ text_of (word kinds.Select ∷ blank ∷ (items ++ (from ++ (condition ++ rest))))
select_text items from condition rest o0 o1 o2 o3 o4 o5 h1 h2 h3 h4 h5 =
    behind (word kinds.Select ∷ blank ∷ []) (items ++ (from ++ (condition ++ rest))) o0 o1 o5 h1 (behind items (from ++ (condition ++ rest)) o1 o2 o5 h2 (three_texts from condition rest o2 o3 o4 o5 h3 h4 h5))

pub insert_text : (z : List ℕ) (columns rows : List Mark) (o0 o1 o2 o3 o4 o5 : List ℕ) → o1 ≡ o0 ++ text_of (word kinds.Insert ∷ blank ∷ word kinds.Into ∷ blank ∷ []) → o2 ≡ o1 ++ bytes_of (spelled.name z) → o3 ≡ o2 ++ text_of columns →
    o4 ≡ o3 ++ text_of (blank ∷ word kinds.Values ∷ blank ∷ []) → o5 ≡ o4 ++ text_of rows →
    o5 ≡ o0 ++ text_of (word kinds.Insert ∷ blank ∷ word kinds.Into ∷ blank ∷ spelled.name z ∷ (columns ++ blank ∷ word kinds.Values ∷ blank ∷ rows))
insert_text z columns rows o0 o1 o2 o3 o4 o5 h1 h2 h3 h4 h5 =
    let values = blank ∷ word kinds.Values ∷ blank ∷ rows in
    behind (word kinds.Insert ∷ blank ∷ word kinds.Into ∷ blank ∷ []) (spelled.name z ∷ (columns ++ values)) o0 o1 o5 h1
    (behind (spelled.name z ∷ []) (columns ++ values) o1 o2 o5 (one_mark (spelled.name z) o1 o2 h2) (three_texts columns (blank ∷ word kinds.Values ∷ blank ∷ []) rows o2 o3 o4 o5 h3 h4 h5))

pub update_text : (table settings condition : List Mark) (o0 o1 o2 o3 o4 o5 : List ℕ) → o1 ≡ o0 ++ text_of (word kinds.Update ∷ blank ∷ []) → o2 ≡ o1 ++ text_of table → o3 ≡ o2 ++ text_of (blank ∷ word kinds.Set ∷ blank ∷ []) →
    o4 ≡ o3 ++ text_of settings → o5 ≡ o4 ++ text_of condition → o5 ≡ o0 ++ text_of (word kinds.Update ∷ blank ∷ (table ++ blank ∷ word kinds.Set ∷ blank ∷ (settings ++ condition)))
update_text table settings condition o0 o1 o2 o3 o4 o5 h1 h2 h3 h4 h5 =
    let rest = settings ++ condition in
    behind (word kinds.Update ∷ blank ∷ []) (table ++ blank ∷ word kinds.Set ∷ blank ∷ rest) o0 o1 o5 h1
    (three_texts table (blank ∷ word kinds.Set ∷ blank ∷ []) rest o1 o2 o3 o5 h2 h3 (behind settings condition o3 o4 o5 h4 h5))

named_text : (m : Mark) (types statement : List Mark) (o0 o1 o2 o3 o4 o5 : List ℕ) → o1 ≡ o0 ++ text_of (word kinds.Prepare ∷ blank ∷ []) → o2 ≡ o1 ++ bytes_of m → o3 ≡ o2 ++ text_of types →
    o4 ≡ o3 ++ text_of (blank ∷ word kinds.As ∷ blank ∷ []) → o5 ≡ o4 ++ text_of statement → o5 ≡ o0 ++ text_of (word kinds.Prepare ∷ blank ∷ m ∷ (types ++ blank ∷ word kinds.As ∷ blank ∷ statement))
named_text m types statement o0 o1 o2 o3 o4 o5 h1 h2 h3 h4 h5 =
    let rest = blank ∷ word kinds.As ∷ blank ∷ statement in
    behind (word kinds.Prepare ∷ blank ∷ []) (m ∷ (types ++ rest)) o0 o1 o5 h1
    (behind (m ∷ []) (types ++ rest) o1 o2 o5 (one_mark m o1 o2 h2) (three_texts types (blank ∷ word kinds.As ∷ blank ∷ []) statement o2 o3 o4 o5 h3 h4 h5))

pub prepare_text : (z : List ℕ) (types : List (List ℕ)) (t : RowTree) (o0 o1 o2 o3 o4 o5 : List ℕ) → o1 ≡ o0 ++ text_of (word kinds.Prepare ∷ blank ∷ []) → o2 ≡ o1 ++ bytes_of (name_unless is_transaction z) → o3 ≡ o2 ++ text_of (kinds_marks types) →
    o4 ≡ o3 ++ text_of (blank ∷ word kinds.As ∷ blank ∷ []) → o5 ≡ o4 ++ text_of (row_statement_marks t) → o5 ≡ o0 ++ text_of (query_marks (prepares z types t))
prepare_text z types t = named_text (name_unless is_transaction z) (kinds_marks types) (row_statement_marks t)

-- arguments: none, or those in parentheses
pub arguments_text : (xs : List Expr) (ts : Trees) (o0 o1 : List ℕ) → listed (map tree xs) ≡ ts → (length xs == 0) ≡ false → o1 ≡ o0 ++ text_of (enclosed (values ts)) → o1 ≡ o0 ++ text_of (argument_marks ts)
arguments_text [] ts o0 o1 e l h = cc
arguments_text (x ∷ xs) ts o0 o1 e l h =
    subst (λ (us : Trees). o1 ≡ o0 ++ text_of (enclosed (values us)) → o1 ≡ o0 ++ text_of (argument_marks us)) e (λ k. k) h
