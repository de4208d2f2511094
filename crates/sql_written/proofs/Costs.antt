-- How many parentheses are written of a tree, by its operands.
use Rattle.std.proofs.Common.{◌≡◌, ℕ, suc, ◌+◌, Bool, true, false, cond, not, ◌&&◌, List, [], ◌∷◌, ◌++◌, refl, ap, ◌∙◌, arith}
use Rattle.sql_tokens.specs.Words.{is, is_name, word_kind}
use Rattle.sql_tokens.specs.Written.{quoted}
use Rattle.sql_tokens.specs.declared.kind.TokenKind.{TokenKind}
use Rattle.sql_tokens.specs.declared.kind.TokenKind.TheVariants as kinds
use Rattle.sql_tokens.specs.declared.token.Token.{Token}
use Rattle.sql_tokens.proofs.EachKind.{each_kind}
use Rattle.sql_ast.specs.Expressions.{Tree, Trees, no_more, and_more, leaf, call, call_of_all, negated, binary, in_list, between, is_null, inverted, all_of, any_of}
use Rattle.sql_ast.specs.declared.leaf.Leaf.{Leaf}
use Rattle.sql_ast.specs.declared.leaf.Leaf.TheVariants.{Number, Text, Date, Null, Truth, Parameter, Column, ColumnOf, TableName, TableNameOf}
use Rattle.sql_ast.specs.declared.leaf.Operator.{Operator}
use Rattle.sql_ast.specs.declared.leaf.Operator.TheVariants as operator
use Rattle.sql_written.specs.Marks.{Mark, blank, mark}
use Rattle.sql_written.specs.Parentheses.{opened}
use Rattle.sql_written.specs.Precedence.{Level, disjunction, conjunction, negation, nullity, sum, unary, left_place, right_place, needs_parentheses}
use Rattle.sql_written.specs.Spelling as spelled
use Rattle.sql_written.specs.Spelling.{is_plain}
use Rattle.sql_written.specs.Writable.{deeper_by}
use Rattle.sql_written.specs.Written.{and_between, behind_minus, behind_part, in_parentheses, marks, more, not_before, or_between, chain}
use Rattle.sql_written.proofs.ShortMarks.{never_both}
use Rattle.sql_written.proofs.MarksApart.{plain_is}
use Rattle.sql_written.proofs.Said.{Are}

abbrev mutual
  pub opens : Tree → ℕ
  opens (leaf l) = 0
  opens (call f ts) = suc (chain_opens disjunction ts)
  opens (call_of_all f) = 1
  opens (negated e) = deeper_by (needs_parentheses unary e) (opens e)
  opens (binary op x y) = deeper_by (needs_parentheses (left_place op) x) (opens x) + deeper_by (needs_parentheses (right_place op) y) (opens y)
  opens (in_list b x ts) = suc (deeper_by (needs_parentheses sum x) (opens x) + chain_opens disjunction ts)
  opens (between b x from to) =
      deeper_by (needs_parentheses sum x) (opens x) + (deeper_by (needs_parentheses sum from) (opens from) + deeper_by (needs_parentheses sum to) (opens to))
  opens (is_null b x) = deeper_by (needs_parentheses nullity x) (opens x)
  opens (inverted e) = deeper_by (needs_parentheses negation e) (opens e)
  opens (all_of ts) = chain_opens negation ts
  opens (any_of ts) = chain_opens conjunction ts

  pub chain_opens : Level → Trees → ℕ
  chain_opens place no_more = 0
  chain_opens place (and_more t ts) = deeper_by (needs_parentheses place t) (opens t) + chain_opens place ts

-- of marks
abbrev one_if : Bool → ℕ
one_if b = cond b 1 0

abbrev pub opened_by : List Mark → ℕ
opened_by [] = 0
opened_by (blank ∷ ms) = opened_by ms
opened_by (mark k z ∷ ms) = one_if (is k kinds.OpenParenthesis) + opened_by ms

pub opened_append : (xs ys : List Mark) → opened_by (xs ++ ys) ≡ opened_by xs + opened_by ys
opened_append [] ys = omega arith
opened_append (blank ∷ xs) ys = opened_append xs ys
opened_append (mark k z ∷ xs) ys = omega (arith, opened_append xs ys)

pub opened_tokens : (text : List ℕ) (ms : List Mark) (ts : List Token) → Are text ts ms → opened ts ≡ opened_by ms
opened_tokens text [] ts h = ap opened h
opened_tokens text (blank ∷ ms) ts h = opened_tokens text ms ts h
opened_tokens text (mark k z ∷ ms) ts h = ap opened h.3 ∙ omega (arith, opened_tokens text ms h.2 h.5)

name_no_opening : (k : TokenKind) → is_name k ≡ true → is k kinds.OpenParenthesis ≡ false
name_no_opening k n = never_both (is_name k) (is k kinds.OpenParenthesis) (each_kind (λ j. not (is_name j && is j kinds.OpenParenthesis)) refl k) n

pub opened_plain : (k : TokenKind) (z : List ℕ) (ms : List Mark) → is_name k ≡ true → opened_by (mark k z ∷ ms) ≡ opened_by ms
opened_plain k z ms n = let e : is k kinds.OpenParenthesis ≡ false = name_no_opening k n in rw e (omega arith)

either_opened : (z : List ℕ) (ms : List Mark) (f : Bool) → is_plain z ≡ f → opened_by (cond f (mark (word_kind z) z) (mark kinds.QuotedName (quoted 34 z)) ∷ ms) ≡ opened_by ms
either_opened z ms true e = opened_plain (word_kind z) z ms (plain_is z e).named
either_opened z ms false e = opened_plain kinds.QuotedName (quoted 34 z) ms refl

pub opened_name : (z : List ℕ) (ms : List Mark) → opened_by (spelled.name z ∷ ms) ≡ opened_by ms
opened_name z ms = either_opened z ms (is_plain z) refl

opened_leaf : (l : Leaf) → opened_by (spelled.leaf_marks l) ≡ 0
opened_leaf (Number n) = refl
opened_leaf (Text z) = refl
opened_leaf (Date z) = refl
opened_leaf Null = refl
opened_leaf (Truth true) = refl
opened_leaf (Truth false) = refl
opened_leaf (Parameter n) = refl
opened_leaf (Column c) = opened_name c []
opened_leaf (ColumnOf t c) = opened_name t (spelled.dot ∷ spelled.name c ∷ []) ∙ omega (arith, opened_name c [])
opened_leaf TableName = refl
opened_leaf (TableNameOf t) = opened_name t (spelled.dot ∷ spelled.table_name)

opened_parentheses : (b : Bool) (ms : List Mark) (n : ℕ) → opened_by ms ≡ n → opened_by (in_parentheses b ms) ≡ deeper_by b n
opened_parentheses true ms n h = omega (arith, opened_append ms (spelled.closing ∷ []), h)
opened_parentheses false ms n h = h

opened_blank : (e : Tree) (ms : List Mark) → opened_by (behind_minus e ++ ms) ≡ opened_by ms
opened_blank (negated _) ms = refl
opened_blank (leaf _) ms = refl
opened_blank (call _ _) ms = refl
opened_blank (call_of_all _) ms = refl
opened_blank (binary _ _ _) ms = refl
opened_blank (in_list _ _ _) ms = refl
opened_blank (between _ _ _ _) ms = refl
opened_blank (is_null _ _) ms = refl
opened_blank (inverted _) ms = refl
opened_blank (all_of _) ms = refl
opened_blank (any_of _) ms = refl

opened_not : (b : Bool) (ms : List Mark) → opened_by (not_before b ++ ms) ≡ opened_by ms
opened_not true ms = omega arith
opened_not false ms = refl

opened_sign : (op : Operator) (ms : List Mark) → opened_by (spelled.sign op ∷ ms) ≡ opened_by ms
opened_sign operator.Add ms = omega arith
opened_sign operator.Subtract ms = omega arith
opened_sign operator.Multiply ms = omega arith
opened_sign operator.Divide ms = omega arith
opened_sign operator.Remainder ms = omega arith
opened_sign operator.Equal ms = omega arith
opened_sign operator.NotEqual ms = omega arith
opened_sign operator.Less ms = omega arith
opened_sign operator.LessEqual ms = omega arith
opened_sign operator.Greater ms = omega arith
opened_sign operator.GreaterEqual ms = omega arith

abbrev placed : Level → Tree → List Mark
placed place e = in_parentheses (needs_parentheses place e) (marks e)

abbrev pub cost : Level → Tree → ℕ
cost place e = deeper_by (needs_parentheses place e) (opens e)

opened_list : (ts : List Mark) → opened_by (ts ++ spelled.closing ∷ []) ≡ opened_by ts
opened_list ts = omega (arith, opened_append ts (spelled.closing ∷ []))

mutual
  pub opened_marks : (e : Tree) → opened_by (marks e) ≡ opens e
  opened_marks (leaf l) = opened_leaf l
  opened_marks (call f ts) =
      opened_name f (spelled.opening ∷ (chain behind_part disjunction ts ++ spelled.closing ∷ []))
      ∙ omega (arith, opened_list (chain behind_part disjunction ts), opened_chain behind_part disjunction ts refl)
  opened_marks (call_of_all f) = opened_name f (spelled.opening ∷ spelled.star ∷ spelled.closing ∷ [])
  opened_marks (negated e) =
      omega (arith, opened_blank e (placed unary e), opened_parentheses (needs_parentheses unary e) (marks e) (opens e) (opened_marks e))
  opened_marks (binary op x y) =
      opened_append (placed (left_place op) x) (blank ∷ spelled.sign op ∷ blank ∷ placed (right_place op) y)
      ∙ omega (
        arith,
        opened_sign op (blank ∷ placed (right_place op) y),
        opened_parentheses (needs_parentheses (left_place op) x) (marks x) (opens x) (opened_marks x),
        opened_parentheses (needs_parentheses (right_place op) y) (marks y) (opens y) (opened_marks y),
      )
  opened_marks (in_list b x ts) =
      let rest = spelled.in_word ∷ blank ∷ spelled.opening ∷ (chain behind_part disjunction ts ++ spelled.closing ∷ []) in
      opened_append (placed sum x) (blank ∷ (not_before b ++ rest))
      ∙ omega (
        arith,
        opened_not b rest,
        opened_parentheses (needs_parentheses sum x) (marks x) (opens x) (opened_marks x),
        opened_list (chain behind_part disjunction ts),
        opened_chain behind_part disjunction ts refl,
      )
  opened_marks (between b x from to) =
      let last = blank ∷ spelled.and_word ∷ blank ∷ placed sum to in
      let rest = spelled.between_word ∷ blank ∷ (placed sum from ++ last) in
      opened_append (placed sum x) (blank ∷ (not_before b ++ rest))
      ∙ omega (
        arith,
        opened_not b rest,
        opened_append (placed sum from) last,
        opened_parentheses (needs_parentheses sum x) (marks x) (opens x) (opened_marks x),
        opened_parentheses (needs_parentheses sum from) (marks from) (opens from) (opened_marks from),
        opened_parentheses (needs_parentheses sum to) (marks to) (opens to) (opened_marks to),
      )
  opened_marks (is_null b x) =
      opened_append (placed nullity x) (blank ∷ spelled.is_word ∷ blank ∷ (not_before b ++ spelled.null_word ∷ []))
      ∙ omega (arith, opened_not b (spelled.null_word ∷ []), opened_parentheses (needs_parentheses nullity x) (marks x) (opens x) (opened_marks x))
  opened_marks (inverted e) = omega (arith, opened_parentheses (needs_parentheses negation e) (marks e) (opens e) (opened_marks e))
  opened_marks (all_of ts) = opened_chain and_between negation ts refl
  opened_marks (any_of ts) = opened_chain or_between conjunction ts refl

  opened_chain : (sign : List Mark) (place : Level) (ts : Trees) → opened_by sign ≡ 0 → opened_by (chain sign place ts) ≡ chain_opens place ts
  opened_chain sign place no_more h = refl
  opened_chain sign place (and_more t ts) h =
      opened_append (placed place t) (more sign place ts)
      ∙ omega (arith, opened_parentheses (needs_parentheses place t) (marks t) (opens t) (opened_marks t), opened_more sign place ts h)

  opened_more : (sign : List Mark) (place : Level) (ts : Trees) → opened_by sign ≡ 0 → opened_by (more sign place ts) ≡ chain_opens place ts
  opened_more sign place no_more h = refl
  opened_more sign place (and_more t ts) h =
      opened_append sign (placed place t ++ more sign place ts)
      ∙ omega (arith, h, opened_append (placed place t) (more sign place ts), opened_parentheses (needs_parentheses place t) (marks t) (opens t) (opened_marks t), opened_more sign place ts h)
