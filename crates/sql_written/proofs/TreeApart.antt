-- The marks of a tree stand apart, so they are its tokens.
use Rattle.std.proofs.Common.{◌≡◌, ℕ, Bool, true, false, ◌==◌, List, [], ◌∷◌, ◌++◌, refl, sym, ap, ◌∙◌, subst}
use Rattle.sql_tokens.specs.Bytes.{belongs}
use Rattle.sql_tokens.specs.Tokens.{tokens_of}
use Rattle.sql_tokens.specs.declared.bytes.Class.TheVariants as class
use Rattle.sql_ast.specs.Expressions.{Tree, Trees, no_more, and_more, leaf, call, call_of_all, negated, binary, in_list, between, is_null, inverted, all_of, any_of}
use Rattle.sql_ast.specs.declared.leaf.Leaf.{Leaf}
use Rattle.sql_ast.specs.declared.leaf.Leaf.TheVariants.{Number, Text, Date, Null, Truth, Parameter, Column, ColumnOf, TableName, TableNameOf}
use Rattle.sql_ast.specs.declared.leaf.Operator.{Operator}
use Rattle.sql_ast.specs.declared.leaf.Operator.TheVariants as operator
use Rattle.sql_written.specs.Marks.{Mark, blank, bytes_of, text_of}
use Rattle.sql_written.specs.Precedence.{Level, disjunction, conjunction, negation, nullity, sum, unary, left_place, right_place, needs_parentheses}
use Rattle.sql_written.specs.Spelling as spelled
use Rattle.sql_written.specs.Writable.{HasOne, HasTwo, HasText, HaveTexts, IsLeaf, IsName}
use Rattle.sql_written.specs.Written.{and_between, behind_minus, behind_part, in_parentheses, marks, more, not_before, or_between, chain, written}
use Rattle.sql_written.proofs.MarkTokens.{StandApart, StandsApart, apart_append, next, next_append, text_append, tokens_written, tokens_at}
use Rattle.sql_written.proofs.MarksApart.{Ends, and_apart, between_apart, blank_ends, cast_apart, closing_apart, closing_ends, comma_apart, comma_ends, date_apart, dot_apart, end_ends, in_apart, is_apart, minus_apart, name_apart, name_first, not_apart, null_apart, number_apart, number_first, opening_apart, opening_ends, or_apart, parameter_apart, regclass_apart, sign_apart, star_apart, string_apart, tableoid_apart, truth_apart}

-- first bytes
pub record BeginWell (ms : List Mark) : Type 0 where
  pub at : (n : ℕ) → belongs class.Blank (next (text_of ms) n) ≡ false

-- one fact, then the others
infixr 10 ◌also◌
pub ◌also◌ : {A B : Type 0} → A → B → A × B
a also b = (a, b)

begin_append : (xs ys : List Mark) → BeginWell xs → BeginWell (xs ++ ys)
begin_append xs ys h = record { at = λ n. ap (λ z. belongs class.Blank (next z n)) (text_append xs ys) ∙ (ap (belongs class.Blank) (next_append (text_of xs) (text_of ys) n) ∙ h.at (next (text_of ys) n)) }

begin_mark : (m : Mark) (ms : List Mark) → ((n : ℕ) → belongs class.Blank (next (bytes_of m) n) ≡ false) → BeginWell (m ∷ ms)
begin_mark m ms h = record { at = λ n. ap (belongs class.Blank) (next_append (bytes_of m) (text_of ms) n) ∙ h (next (text_of ms) n) }

begin_name : (z : List ℕ) (ms : List Mark) → BeginWell (spelled.name z ∷ ms)
begin_name z ms = begin_mark (spelled.name z) ms (λ n. (name_first z n).blank)

begin_leaf : (l : Leaf) → IsLeaf l → BeginWell (spelled.leaf_marks l)
begin_leaf (Number m) w = begin_mark (spelled.number m) [] (λ n. (number_first m n w).0)
begin_leaf (Text z) w = record { at = λ n. refl }
begin_leaf (Date z) w = record { at = λ n. refl }
begin_leaf Null w = record { at = λ n. refl }
begin_leaf (Truth true) w = record { at = λ n. refl }
begin_leaf (Truth false) w = record { at = λ n. refl }
begin_leaf (Parameter m) w = record { at = λ n. refl }
begin_leaf (Column c) w = begin_name c []
begin_leaf (ColumnOf t c) w = begin_name t _
begin_leaf TableName w = record { at = λ n. refl }
begin_leaf (TableNameOf t) w = begin_name t _

begin_parentheses : (b : Bool) (ms : List Mark) → BeginWell ms → BeginWell (in_parentheses b ms)
begin_parentheses true ms h = record { at = λ n. refl }
begin_parentheses false ms h = h

pub two_one : (ts : Trees) → HasTwo ts → HasOne ts
two_one no_more h = h
two_one (and_more t ts) h = tt

mutual
  pub begins : (e : Tree) → HasText e → BeginWell (marks e)
  begins (leaf l) w = begin_leaf l w
  begins (call f ts) w = begin_name f _
  begins (call_of_all f) w = begin_name f _
  begins (negated e) w = record { at = λ n. refl }
  begins (binary op x y) w = begin_append (in_parentheses (needs_parentheses (left_place op) x) (marks x)) _ (begin_parentheses (needs_parentheses (left_place op) x) (marks x) (begins x w.0))
  begins (in_list b x ts) w = begin_append (in_parentheses (needs_parentheses sum x) (marks x)) _ (begin_parentheses (needs_parentheses sum x) (marks x) (begins x w.0))
  begins (between b x from to) w = begin_append (in_parentheses (needs_parentheses sum x) (marks x)) _ (begin_parentheses (needs_parentheses sum x) (marks x) (begins x w.0))
  begins (is_null b x) w = begin_append (in_parentheses (needs_parentheses nullity x) (marks x)) _ (begin_parentheses (needs_parentheses nullity x) (marks x) (begins x w))
  begins (inverted e) w = record { at = λ n. refl }
  begins (all_of ts) w = chain_begins and_between negation ts (two_one ts w.0) w.1
  begins (any_of ts) w = chain_begins or_between conjunction ts (two_one ts w.0) w.1

  chain_begins : (sign : List Mark) (place : Level) (ts : Trees) → HasOne ts → HaveTexts ts → BeginWell (chain sign place ts)
  chain_begins sign place no_more h w = absurd h
  chain_begins sign place (and_more t ts) h w = begin_append (in_parentheses (needs_parentheses place t) (marks t)) _ (begin_parentheses (needs_parentheses place t) (marks t) (begins t w.0))

-- names and constants
pub name_of : (z : List ℕ) (n : ℕ) → IsName z → Ends n → StandsApart (spelled.name z) n
name_of z n w h = name_apart z n w h.part h.name_quote

dot_of : (z : List ℕ) (ms : List Mark) (n : ℕ) → StandsApart spelled.dot (next (text_of (spelled.name z ∷ ms)) n)
dot_of z ms n = dot_apart _ (ap (belongs class.Digit) (next_append (bytes_of (spelled.name z)) (text_of ms) n) ∙ (name_first z (next (text_of ms) n)).digit)

table_apart : (n : ℕ) → Ends n → StandApart spelled.table_name n
table_apart n h = tableoid_apart 58 refl also (cast_apart 114 also (regclass_apart n h.part also tt))

leaf_apart : (l : Leaf) → IsLeaf l → (n : ℕ) → Ends n → StandApart (spelled.leaf_marks l) n
leaf_apart (Number m) w n h = (number_apart m n w h.number, tt)
leaf_apart (Text z) w n h = (string_apart z n w h.string_quote, tt)
leaf_apart (Date z) w n h = date_apart 32 refl also (refl also (string_apart z n w h.string_quote also tt))
leaf_apart Null w n h = (null_apart n h.part, tt)
leaf_apart (Truth b) w n h = (truth_apart b n h.part, tt)
leaf_apart (Parameter m) w n h = (parameter_apart m n w h.number, tt)
leaf_apart (Column c) w n h = (name_of c n w h, tt)
leaf_apart (ColumnOf t c) w n h = name_apart t 46 w.0 refl refl also (dot_of c [] n also (name_of c n w.1 h also tt))
leaf_apart TableName w n h = table_apart n h
leaf_apart (TableNameOf t) w n h = name_apart t 46 w refl refl also (dot_apart 116 refl also table_apart n h)

-- in parentheses
parentheses_apart : (b : Bool) (ms : List Mark) (n : ℕ) → Ends n → ((m : ℕ) → Ends m → StandApart ms m) → StandApart (in_parentheses b ms) n
parentheses_apart true ms n h on = (opening_apart _, apart_append ms (spelled.closing ∷ []) n (on 41 closing_ends) (closing_apart n, tt))
parentheses_apart false ms n h on = on n h

-- what stands between the parts of a chain
record Separates (sign : List Mark) : Type 0 where
  first : (n : ℕ) → Ends (next (text_of sign) n)
  apart : (n : ℕ) → belongs class.Blank n ≡ false → StandApart sign n

comma_separates : Separates behind_part
comma_separates = record { first = λ n. comma_ends; apart = λ n h. comma_apart 32 also (h also tt) }

and_separates : Separates and_between
and_separates = record { first = λ n. blank_ends; apart = λ n h. refl also (and_apart 32 refl also (h also tt)) }

or_separates : Separates or_between
or_separates = record { first = λ n. blank_ends; apart = λ n h. refl also (or_apart 32 refl also (h also tt)) }

-- a minus before its operand
name_minus : (z : List ℕ) (ms : List Mark) (n : ℕ) → (next (text_of (spelled.name z ∷ ms)) n == 45) ≡ false
name_minus z ms n = ap (λ b. b == 45) (next_append (bytes_of (spelled.name z)) (text_of ms) n) ∙ (name_first z (next (text_of ms) n)).minus

leaf_minus : (l : Leaf) → IsLeaf l → (n : ℕ) → (next (text_of (spelled.leaf_marks l)) n == 45) ≡ false
leaf_minus (Number m) w n = ap (λ b. b == 45) (next_append (bytes_of (spelled.number m)) [] n) ∙ (number_first m n w).1
leaf_minus (Text z) w n = refl
leaf_minus (Date z) w n = refl
leaf_minus Null w n = refl
leaf_minus (Truth true) w n = refl
leaf_minus (Truth false) w n = refl
leaf_minus (Parameter m) w n = refl
leaf_minus (Column c) w n = name_minus c [] n
leaf_minus (ColumnOf t c) w n = name_minus t (spelled.dot ∷ spelled.name c ∷ []) n
leaf_minus TableName w n = refl
leaf_minus (TableNameOf t) w n = name_minus t (spelled.dot ∷ spelled.table_name) n

operator_minus : (op : Operator) (x y : Tree) (n : ℕ) → (next (text_of (in_parentheses (needs_parentheses unary (binary op x y)) (marks (binary op x y)))) n == 45) ≡ false
operator_minus operator.Add x y n = refl
operator_minus operator.Subtract x y n = refl
operator_minus operator.Multiply x y n = refl
operator_minus operator.Divide x y n = refl
operator_minus operator.Remainder x y n = refl
operator_minus _ x y n = refl

minus_first : (e : Tree) → HasText e → (n : ℕ) → (next (text_of (behind_minus e ++ in_parentheses (needs_parentheses unary e) (marks e))) n == 45) ≡ false
minus_first (leaf l) w n = leaf_minus l w n
minus_first (call f ts) w n = name_minus f (spelled.opening ∷ (chain behind_part disjunction ts ++ spelled.closing ∷ [])) n
minus_first (call_of_all f) w n = name_minus f (spelled.opening ∷ spelled.star ∷ spelled.closing ∷ []) n
minus_first (negated e) w n = refl
minus_first (binary op x y) w n = operator_minus op x y n
minus_first (in_list b x ts) w n = refl
minus_first (between b x from to) w n = refl
minus_first (is_null b x) w n = refl
minus_first (inverted e) w n = refl
minus_first (all_of ts) w n = refl
minus_first (any_of ts) w n = refl

behind_apart : (e : Tree) (ms : List Mark) (n : ℕ) → StandApart ms n → BeginWell ms → StandApart (behind_minus e ++ ms) n
behind_apart (negated e) ms n h k = (k.at n, h)
behind_apart (leaf _) ms n h k = h
behind_apart (call _ _) ms n h k = h
behind_apart (call_of_all _) ms n h k = h
behind_apart (binary _ _ _) ms n h k = h
behind_apart (in_list _ _ _) ms n h k = h
behind_apart (between _ _ _ _) ms n h k = h
behind_apart (is_null _ _) ms n h k = h
behind_apart (inverted _) ms n h k = h
behind_apart (all_of _) ms n h k = h
behind_apart (any_of _) ms n h k = h

not_behind : (b : Bool) (ms : List Mark) (n : ℕ) → StandApart ms n → BeginWell ms → StandApart (blank ∷ (not_before b ++ ms)) n
not_behind true ms n h k = refl also (not_apart 32 refl also (k.at n also h))
not_behind false ms n h k = (k.at n, h)

sign_first : (op : Operator) (n : ℕ) → belongs class.Blank (next (bytes_of (spelled.sign op)) n) ≡ false
sign_first operator.Add n = refl
sign_first operator.Subtract n = refl
sign_first operator.Multiply n = refl
sign_first operator.Divide n = refl
sign_first operator.Remainder n = refl
sign_first operator.Equal n = refl
sign_first operator.NotEqual n = refl
sign_first operator.Less n = refl
sign_first operator.LessEqual n = refl
sign_first operator.Greater n = refl
sign_first operator.GreaterEqual n = refl

sign_between : (op : Operator) (ms : List Mark) (n : ℕ) → StandApart ms n → BeginWell ms → StandApart (blank ∷ spelled.sign op ∷ blank ∷ ms) n
sign_between op ms n h k = (begin_mark (spelled.sign op) (blank ∷ ms) (sign_first op)).at n also (sign_apart op also (k.at n also h))

more_first : (sign : List Mark) → Separates sign → (place : Level) (ts : Trees) (n : ℕ) → Ends n → Ends (next (text_of (more sign place ts)) n)
more_first sign s place no_more n h = h
more_first sign s place (and_more t ts) n h =
    let rest = in_parentheses (needs_parentheses place t) (marks t) ++ more sign place ts in
    subst Ends (sym (ap (λ z. next z n) (text_append sign rest) ∙ next_append (text_of sign) (text_of rest) n)) (s.first (next (text_of rest) n))

mutual
  pub apart : (e : Tree) → HasText e → (n : ℕ) → Ends n → StandApart (marks e) n
  apart (leaf l) w n h = leaf_apart l w n h
  apart (call f ts) w n h =
      name_of f 40 w.0 opening_ends also (opening_apart _ also apart_append (chain behind_part disjunction ts) (spelled.closing ∷ []) n (chain_apart behind_part comma_separates disjunction ts w.1 41 closing_ends) (closing_apart n, tt))
  apart (call_of_all f) w n h = name_of f 40 w opening_ends also (opening_apart _ also (star_apart _ also (closing_apart n also tt)))
  apart (negated e) w n h = (
    minus_apart _ (minus_first e w n),
    behind_apart e _ n (parentheses_apart (needs_parentheses unary e) (marks e) n h (λ m k. apart e w m k)) (begin_parentheses (needs_parentheses unary e) (marks e) (begins e w)),
  )
  apart (binary op x y) w n h =
      apart_append (in_parentheses (needs_parentheses (left_place op) x) (marks x)) _ n
      (parentheses_apart (needs_parentheses (left_place op) x) (marks x) 32 blank_ends (λ m k. apart x w.0 m k))
      (sign_between op _ n (parentheses_apart (needs_parentheses (right_place op) y) (marks y) n h (λ m k. apart y w.1 m k)) (begin_parentheses (needs_parentheses (right_place op) y) (marks y) (begins y w.1)))
  apart (in_list b x ts) w n h =
      apart_append (in_parentheses (needs_parentheses sum x) (marks x)) _ n
      (parentheses_apart (needs_parentheses sum x) (marks x) 32 blank_ends (λ m k. apart x w.0 m k))
      (not_behind b _ n
      (in_apart 32 refl also (refl also (opening_apart _ also apart_append (chain behind_part disjunction ts) (spelled.closing ∷ []) n (chain_apart behind_part comma_separates disjunction ts w.2 41 closing_ends) (closing_apart n, tt))))
      (record { at = λ m. refl }))
  apart (between b x from to) w n h =
      apart_append (in_parentheses (needs_parentheses sum x) (marks x)) _ n
      (parentheses_apart (needs_parentheses sum x) (marks x) 32 blank_ends (λ m k. apart x w.0 m k))
      (not_behind b _ n
      (between_apart 32 refl
      also ((begin_append (in_parentheses (needs_parentheses sum from) (marks from)) _ (begin_parentheses (needs_parentheses sum from) (marks from) (begins from w.1))).at n
      also apart_append (in_parentheses (needs_parentheses sum from) (marks from)) _ n
      (parentheses_apart (needs_parentheses sum from) (marks from) 32 blank_ends (λ m k. apart from w.1 m k))
      (refl also (and_apart 32 refl also ((begin_parentheses (needs_parentheses sum to) (marks to) (begins to w.2)).at n also parentheses_apart (needs_parentheses sum to) (marks to) n h (λ m k. apart to w.2 m k))))))
      (record { at = λ m. refl }))
  apart (is_null b x) w n h =
      apart_append (in_parentheses (needs_parentheses nullity x) (marks x)) _ n
      (parentheses_apart (needs_parentheses nullity x) (marks x) 32 blank_ends (λ m k. apart x w m k))
      (refl also (is_apart 32 refl also not_behind b (spelled.null_word ∷ []) n (null_apart n h.part, tt) (record { at = λ m. refl })))
  apart (inverted e) w n h =
      not_apart 32 refl also ((begin_parentheses (needs_parentheses negation e) (marks e) (begins e w)).at n also parentheses_apart (needs_parentheses negation e) (marks e) n h (λ m k. apart e w m k))
  apart (all_of ts) w n h = chain_apart and_between and_separates negation ts w.1 n h
  apart (any_of ts) w n h = chain_apart or_between or_separates conjunction ts w.1 n h

  chain_apart : (sign : List Mark) → Separates sign → (place : Level) (ts : Trees) → HaveTexts ts → (n : ℕ) → Ends n → StandApart (chain sign place ts) n
  chain_apart sign s place no_more w n h = tt
  chain_apart sign s place (and_more t ts) w n h =
      apart_append (in_parentheses (needs_parentheses place t) (marks t)) (more sign place ts) n
      (parentheses_apart (needs_parentheses place t) (marks t) _ (more_first sign s place ts n h) (λ m k. apart t w.0 m k))
      (more_apart sign s place ts w.1 n h)

  more_apart : (sign : List Mark) → Separates sign → (place : Level) (ts : Trees) → HaveTexts ts → (n : ℕ) → Ends n → StandApart (more sign place ts) n
  more_apart sign s place no_more w n h = tt
  more_apart sign s place (and_more t ts) w n h =
      apart_append sign (in_parentheses (needs_parentheses place t) (marks t) ++ more sign place ts) n
      (s.apart _ ((begin_append (in_parentheses (needs_parentheses place t) (marks t)) (more sign place ts) (begin_parentheses (needs_parentheses place t) (marks t) (begins t w.0))).at n))
      (apart_append (in_parentheses (needs_parentheses place t) (marks t)) (more sign place ts) n
      (parentheses_apart (needs_parentheses place t) (marks t) _ (more_first sign s place ts n h) (λ m k. apart t w.0 m k))
      (more_apart sign s place ts w.1 n h))

-- the tokens of the text of a tree are its marks
pub tree_tokens : (e : Tree) → HasText e → tokens_of (written e) ≡ tokens_at 0 (marks e)
tree_tokens e w = tokens_written (marks e) (apart e w 0 end_ends)
