-- No name and no string that is written passes its limit.
use Rattle.std.proofs.Common.{◌≡◌, ℕ, ◌≤◌, Bool, true, false, cond, not, ◌&&◌, List, [], ◌∷◌, ◌++◌, length, refl, sym, subst}
use Rattle.std.specs.Prelude.{nat_lt}
use Rattle.sql_tokens.specs.Quotes.{inside, undoubled}
use Rattle.sql_tokens.specs.Words.{is, is_name, word_kind}
use Rattle.sql_tokens.specs.Written.{quoted}
use Rattle.sql_tokens.specs.declared.kind.TokenKind.{TokenKind}
use Rattle.sql_tokens.specs.declared.kind.TokenKind.TheVariants as kinds
use Rattle.sql_tokens.specs.declared.token.Token.{Token}
use Rattle.sql_tokens.proofs.EachKind.{each_kind}
use Rattle.sql_expressions.specs.Limits.{IsShort}
use Rattle.sql_ast.specs.Expressions.{Tree, Trees, no_more, and_more, leaf, call, call_of_all, negated, binary, in_list, between, is_null, inverted, all_of, any_of}
use Rattle.sql_ast.specs.declared.leaf.Leaf.{Leaf}
use Rattle.sql_ast.specs.declared.leaf.Leaf.TheVariants.{Number, Text, Date, Null, Truth, Parameter, Column, ColumnOf, TableName, TableNameOf}
use Rattle.sql_ast.specs.declared.leaf.Operator.{Operator}
use Rattle.sql_ast.specs.declared.leaf.Operator.TheVariants as operator
use Rattle.sql_expressions.specs.declared.words.TheConstants.{MOST_NAME_BYTES, MOST_TEXT_BYTES}
use Rattle.sql_expressions.proofs.Limited.{Each}
use Rattle.sql_written.specs.Marks.{Mark, blank, mark}
use Rattle.sql_written.specs.Precedence.{Level, disjunction, conjunction, negation, nullity, sum, unary, left_place, right_place, needs_parentheses}
use Rattle.sql_written.specs.Spelling as spelled
use Rattle.sql_written.specs.Spelling.{is_plain}
use Rattle.sql_written.specs.Writable.{HasText, HaveTexts, IsLeaf, IsName, IsText}
use Rattle.sql_written.specs.Written.{and_between, behind_minus, behind_part, in_parentheses, marks, more, not_before, or_between, chain}
use Rattle.sql_written.proofs.MarksApart.{plain_is}
use Rattle.sql_written.proofs.Said.{Are, name_said, plain_said, quoted_said}
use Rattle.sql_written.proofs.TreeApart.{◌also◌}
use Rattle.sql_written.proofs.LeafTexts.{not_longer}

abbrev ShortMark : Mark → Type 0
ShortMark blank = Unit {0}
ShortMark (mark k z) =
    ((is_name k && nat_lt MOST_NAME_BYTES (length (name_said k z))) ≡ false) × ((is k kinds.Text && nat_lt MOST_TEXT_BYTES (length (undoubled 39 false (inside z)))) ≡ false)

abbrev Short : List Mark → Type 0
Short [] = Unit {0}
Short (m ∷ ms) = ShortMark m × Short ms

append : (xs ys : List Mark) → Short xs → Short ys → Short (xs ++ ys)
append [] ys h k = k
append (m ∷ xs) ys h k = (h.0, append xs ys h.1 k)

pub short_tokens : (text : List ℕ) (ms : List Mark) (ts : List Token) → Are text ts ms → Short ms → Each (IsShort text) ts
short_tokens text [] ts h w = subst (Each (IsShort text)) (sym h) tt
short_tokens text (blank ∷ ms) ts h w = short_tokens text ms ts h w.1
short_tokens text (mark k z ∷ ms) ts h w =
    let s = subst (λ (y : List ℕ). ShortMark (mark k y)) (sym h.4) w.0 in
    subst (Each (IsShort text)) (sym h.3) (s, short_tokens text ms h.2 h.5 w.1)

-- names and constants
not_both : (b c : Bool) → c ≡ false → (b && c) ≡ false
not_both true c h = h
not_both false c h = refl

no_text_of : (b : Bool) → b ≡ false → (c : Bool) → (b && c) ≡ false
no_text_of true h c = cc
no_text_of false h c = refl

name_short : (k : TokenKind) (w z : List ℕ) → is k kinds.Text ≡ false → name_said k w ≡ z → length z ≤ MOST_NAME_BYTES → ShortMark (mark k w)
name_short k w z t e l =
    let short : nat_lt MOST_NAME_BYTES (length (name_said k w)) ≡ false = rw e (not_longer MOST_NAME_BYTES (length z) l) in
    (not_both (is_name k) _ short, no_text_of (is k kinds.Text) t _)

pub never_both : (b c : Bool) → not (b && c) ≡ true → b ≡ true → c ≡ false
never_both true true h e = cc
never_both true false h e = refl
never_both false c h e = cc

pub name_is_no_text : (k : TokenKind) → is_name k ≡ true → is k kinds.Text ≡ false
name_is_no_text k n = never_both (is_name k) (is k kinds.Text) (each_kind (λ j. not (is_name j && is j kinds.Text)) refl k) n

either_name : (z : List ℕ) (f : Bool) → is_plain z ≡ f → length z ≤ MOST_NAME_BYTES → ShortMark (cond f (mark (word_kind z) z) (mark kinds.QuotedName (quoted 34 z)))
either_name z true e l = let p = plain_is z e in name_short (word_kind z) z z (name_is_no_text (word_kind z) p.named) (plain_said z p) l
either_name z false e l = name_short kinds.QuotedName (quoted 34 z) z refl (quoted_said 34 z refl) l

short_name : (z : List ℕ) → IsName z → ShortMark (spelled.name z)
short_name z w = either_name z (is_plain z) refl w.1

short_string : (z : List ℕ) → IsText z → ShortMark (spelled.string z)
short_string z w =
    let said : undoubled 39 false (inside (quoted 39 z)) ≡ z = quoted_said 39 z refl in
    (refl, rw said (not_longer MOST_TEXT_BYTES (length z) w.0))

short_table : Short spelled.table_name
short_table = (refl, refl) also ((refl, refl) also ((refl, refl) also tt))

short_leaf : (l : Leaf) → IsLeaf l → Short (spelled.leaf_marks l)
short_leaf (Number n) w = ((refl, refl), tt)
short_leaf (Text z) w = (short_string z w, tt)
short_leaf (Date z) w = (refl, refl) also (tt also (short_string z w also tt))
short_leaf Null w = ((refl, refl), tt)
short_leaf (Truth true) w = ((refl, refl), tt)
short_leaf (Truth false) w = ((refl, refl), tt)
short_leaf (Parameter n) w = ((refl, refl), tt)
short_leaf (Column c) w = (short_name c w, tt)
short_leaf (ColumnOf t c) w = short_name t w.0 also ((refl, refl) also (short_name c w.1 also tt))
short_leaf TableName w = short_table
short_leaf (TableNameOf t) w = short_name t w also ((refl, refl) also short_table)

short_sign : (op : Operator) → ShortMark (spelled.sign op)
short_sign operator.Add = (refl, refl)
short_sign operator.Subtract = (refl, refl)
short_sign operator.Multiply = (refl, refl)
short_sign operator.Divide = (refl, refl)
short_sign operator.Remainder = (refl, refl)
short_sign operator.Equal = (refl, refl)
short_sign operator.NotEqual = (refl, refl)
short_sign operator.Less = (refl, refl)
short_sign operator.LessEqual = (refl, refl)
short_sign operator.Greater = (refl, refl)
short_sign operator.GreaterEqual = (refl, refl)

short_not : (b : Bool) → Short (not_before b)
short_not true = (refl, refl) also (tt also tt)
short_not false = tt

short_blank : (e : Tree) → Short (behind_minus e)
short_blank (negated _) = (tt, tt)
short_blank (leaf _) = tt
short_blank (call _ _) = tt
short_blank (call_of_all _) = tt
short_blank (binary _ _ _) = tt
short_blank (in_list _ _ _) = tt
short_blank (between _ _ _ _) = tt
short_blank (is_null _ _) = tt
short_blank (inverted _) = tt
short_blank (all_of _) = tt
short_blank (any_of _) = tt

-- trees
parentheses : (b : Bool) (ms : List Mark) → Short ms → Short (in_parentheses b ms)
parentheses true ms h = ((refl, refl), append ms (spelled.closing ∷ []) h ((refl, refl), tt))
parentheses false ms h = h

mutual
  pub short : (e : Tree) → HasText e → Short (marks e)
  short (leaf l) w = short_leaf l w
  short (call f ts) w = short_name f w.0 also ((refl, refl) also append (chain behind_part disjunction ts) (spelled.closing ∷ []) (short_chain behind_part ((refl, refl) also (tt also tt)) disjunction ts w.1) ((refl, refl), tt))
  short (call_of_all f) w = short_name f w also ((refl, refl) also ((refl, refl) also ((refl, refl) also tt)))
  short (negated e) w = ((refl, refl), append (behind_minus e) _ (short_blank e) (parentheses (needs_parentheses unary e) (marks e) (short e w)))
  short (binary op x y) w =
      append (in_parentheses (needs_parentheses (left_place op) x) (marks x)) _ (parentheses (needs_parentheses (left_place op) x) (marks x) (short x w.0))
      (tt also (short_sign op also (tt also parentheses (needs_parentheses (right_place op) y) (marks y) (short y w.1))))
  short (in_list b x ts) w =
      append (in_parentheses (needs_parentheses sum x) (marks x)) _ (parentheses (needs_parentheses sum x) (marks x) (short x w.0))
      (tt also append (not_before b) _ (short_not b)
      ((refl, refl) also (tt also ((refl, refl) also append (chain behind_part disjunction ts) (spelled.closing ∷ []) (short_chain behind_part ((refl, refl) also (tt also tt)) disjunction ts w.2) ((refl, refl), tt)))))
  short (between b x from to) w =
      append (in_parentheses (needs_parentheses sum x) (marks x)) _ (parentheses (needs_parentheses sum x) (marks x) (short x w.0))
      (tt also append (not_before b) _ (short_not b)
      ((refl, refl) also (tt also append (in_parentheses (needs_parentheses sum from) (marks from)) _ (parentheses (needs_parentheses sum from) (marks from) (short from w.1))
      (tt also ((refl, refl) also (tt also parentheses (needs_parentheses sum to) (marks to) (short to w.2)))))))
  short (is_null b x) w =
      append (in_parentheses (needs_parentheses nullity x) (marks x)) _ (parentheses (needs_parentheses nullity x) (marks x) (short x w))
      (tt also ((refl, refl) also (tt also append (not_before b) (spelled.null_word ∷ []) (short_not b) ((refl, refl), tt))))
  short (inverted e) w = (refl, refl) also (tt also parentheses (needs_parentheses negation e) (marks e) (short e w))
  short (all_of ts) w = short_chain and_between (tt also ((refl, refl) also (tt also tt))) negation ts w.1
  short (any_of ts) w = short_chain or_between (tt also ((refl, refl) also (tt also tt))) conjunction ts w.1

  short_chain : (sign : List Mark) → Short sign → (place : Level) (ts : Trees) → HaveTexts ts → Short (chain sign place ts)
  short_chain sign s place no_more w = tt
  short_chain sign s place (and_more t ts) w =
      append (in_parentheses (needs_parentheses place t) (marks t)) (more sign place ts) (parentheses (needs_parentheses place t) (marks t) (short t w.0)) (short_more sign s place ts w.1)

  short_more : (sign : List Mark) → Short sign → (place : Level) (ts : Trees) → HaveTexts ts → Short (more sign place ts)
  short_more sign s place no_more w = tt
  short_more sign s place (and_more t ts) w =
      append sign (in_parentheses (needs_parentheses place t) (marks t) ++ more sign place ts) s
      (append (in_parentheses (needs_parentheses place t) (marks t)) (more sign place ts) (parentheses (needs_parentheses place t) (marks t) (short t w.0)) (short_more sign s place ts w.1))
