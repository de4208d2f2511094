-- What is written of an expression without operands is a text of it.
use Rattle.std.proofs.Common.{◌≡◌, ℕ, ◌≤◌, Bool, true, false, cond, List, [], ◌∷◌, ◌++◌, length, inl, inr, refl, sym, ap, ◌∙◌, subst, arith, append-nil}
use Rattle.std.specs.Fmt.{decimal}
use Rattle.std.specs.Prelude.{codes, nat_lt}
use Rattle.grammar.specs.Reading.{Rule, Class}
use Rattle.sql_tokens.specs.Contents.{bytes_of, name_in, number_in, string_in}
use Rattle.sql_tokens.specs.Numbers.{number_of_digits}
use Rattle.sql_tokens.specs.Quotes.{inside, undoubled}
use Rattle.sql_tokens.specs.Words.{is, is_name, word_kind}
use Rattle.sql_tokens.specs.Written.{quoted}
use Rattle.sql_tokens.specs.declared.kind.TokenKind.{TokenKind}
use Rattle.sql_tokens.specs.declared.kind.TokenKind.TheVariants as kinds
use Rattle.sql_tokens.specs.declared.token.Token.{Token}
use Rattle.sql_expressions.specs.Grammar.{any}
use Rattle.sql_ast.specs.Expressions.{leaf}
use Rattle.sql_tokens.specs.Classes.{a}
use Rattle.sql_expressions.specs.Words.{cast, column, column_of, either_if, literal, name, string}
use Rattle.sql_ast.specs.declared.leaf.Leaf.{Leaf}
use Rattle.sql_ast.specs.declared.leaf.Leaf.TheVariants.{Number, Text, Date, Null, Truth, Parameter, Column, ColumnOf, TableName, TableNameOf}
use Rattle.sql_expressions.specs.declared.words.TheConstants.{MOST_NAME_BYTES, MOST_TEXT_BYTES}
use Rattle.sql_expressions.proofs.DepthLaws.{unary_to}
use Rattle.sql_written.specs.Marks.{mark}
use Rattle.sql_written.specs.Spelling as spelled
use Rattle.sql_written.specs.Spelling.{is_plain}
use Rattle.sql_written.specs.Writable.{IsLeaf, IsName, IsText}
use Rattle.sql_written.proofs.MarksApart.{number_back, plain_is}
use Rattle.sql_written.proofs.Said.{Are, token, parted, name_said, plain_said, quoted_said}

pub not_longer : (m n : ℕ) → n ≤ m → nat_lt m n ≡ false
not_longer m n h = grind (arith, h)

module _ (text : List ℕ) where
  -- one token
  pub only : (k : TokenKind) (z : List ℕ) (ts : List Token) (h : Are text ts (mark k z ∷ [])) → ts ≡ token k h.0 h.1 ∷ []
  only k z ts h = h.3 ∙ ap (λ r. token k h.0 h.1 ∷ r) h.5

  -- names
  name_token : (k : TokenKind) (w z : List ℕ) (from to : ℕ) → is_name k ≡ true → name_said k w ≡ z → length z ≤ MOST_NAME_BYTES → bytes_of text (token k from to) ≡ w → (name text).free (token k from to ∷ []) (k, z)
  name_token k w z from to n e l b =
      let said : name_in text (token k from to) ≡ z = ap (name_said k) b ∙ e in
      let short : nat_lt MOST_NAME_BYTES (length z) ≡ false = not_longer MOST_NAME_BYTES (length z) l in
      (token k from to, inr (refl, rw (n, said, short) refl), ap (λ (x : List ℕ). (k, x)) (sym said))

  name_mark : (k : TokenKind) (w z : List ℕ) (ts : List Token) → is_name k ≡ true → name_said k w ≡ z → length z ≤ MOST_NAME_BYTES → Are text ts (mark k w ∷ []) → (name text).free ts (k, z)
  name_mark k w z ts n e l h = subst (λ x. (name text).free x (k, z)) (sym (only k w ts h)) (name_token k w z h.0 h.1 n e l h.4)

  either_name : (z : List ℕ) (ts : List Token) (f : Bool) → is_plain z ≡ f → length z ≤ MOST_NAME_BYTES → Are text ts (cond f (mark (word_kind z) z) (mark kinds.QuotedName (quoted 34 z)) ∷ []) → (k : TokenKind) × (name text).free ts (k, z)
  either_name z ts true e l h = let p = plain_is z e in (word_kind z, name_mark (word_kind z) z z ts p.named (plain_said z p) l h)
  either_name z ts false e l h = (kinds.QuotedName, name_mark kinds.QuotedName (quoted 34 z) z ts refl (quoted_said 34 z refl) l h)

  pub name_texts : (z : List ℕ) → IsName z → (ts : List Token) → Are text ts (spelled.name z ∷ []) → (k : TokenKind) × (name text).free ts (k, z)
  name_texts z w ts h = either_name z ts (is_plain z) refl w.1 h

  -- strings
  pub string_said : (z : List ℕ) (from to : ℕ) → bytes_of text (token kinds.Text from to) ≡ quoted 39 z → string_in text (token kinds.Text from to) ≡ z
  string_said z from to b = ap (λ y. undoubled 39 false (inside y)) b ∙ quoted_said 39 z refl

  pub long_text : (z : List ℕ) (from to : ℕ) → IsText z → bytes_of text (token kinds.Text from to) ≡ quoted 39 z → nat_lt MOST_TEXT_BYTES (length (string_in text (token kinds.Text from to))) ≡ false
  long_text z from to w b = let said : string_in text (token kinds.Text from to) ≡ z = string_said z from to b in rw said (not_longer MOST_TEXT_BYTES (length z) w.0)

  string_texts : (z : List ℕ) → IsText z → (ts : List Token) → Are text ts (spelled.string z ∷ []) → (string text).free ts z
  string_texts z w ts h =
      let t = token kinds.Text h.0 h.1 in
      let short : nat_lt MOST_TEXT_BYTES (length (string_in text (token kinds.Text h.0 h.1))) ≡ false = long_text z h.0 h.1 w h.4 in
      (t, inr (only kinds.Text (quoted 39 z) ts h, rw short refl), sym (string_said z h.0 h.1 h.4))

  -- an expression that begins with a name
  pub named : (k : TokenKind) (z : List ℕ) (x y ts : List Token) (l : Leaf) → ts ≡ x ++ y → (name text).free x (k, z) → (column text (k, z)).free y l → (any text).unary.texts ts (leaf l, 0)
  named k z x y ts l e n c = unary_to text ts (leaf l, 0) (inr (inl (((k, z), (leaf l, 0)), (x, y, e, n, inr (l, c, refl)), refl)))

  constant : (ts : List Token) (l : Leaf) → (literal text).free ts l → (any text).unary.texts ts (leaf l, 0)
  constant ts l h = unary_to text ts (leaf l, 0) (inr (inr (l, h, refl)))

  if_second : {A : Type 0} (b : Bool) (c : Class Token) (p q : Rule Token A) (ts : List Token) (x : A) → q.free ts x → (either_if b c p q).free ts x
  if_second true c p q ts x h = inr h
  if_second false c p q ts x h = h

  pub no_more_of : (k : TokenKind) (z : List ℕ) → (column text (k, z)).free [] (Column z)
  no_more_of k z = inr (if_second (is k kinds.Date) (a kinds.Text) _ _ [] (Column z) (if_second (is k kinds.Tableoid) (a kinds.TypeCast) _ _ [] (Column z) (refl, refl)))

  no_more_behind : (k : TokenKind) (t z : List ℕ) → (column_of t (k, z)).free [] (ColumnOf t z)
  no_more_behind k t z = if_second (is k kinds.Tableoid) (a kinds.TypeCast) _ _ [] (ColumnOf t z) (refl, refl)

  -- "::" "REGCLASS"
  cast_texts : (l : Leaf) (ts : List Token) → Are text ts (mark kinds.TypeCast (codes "::") ∷ mark kinds.Regclass (codes "regclass") ∷ []) → (cast l).free ts l
  cast_texts l ts h =
      let r = h.5 in
      let s = token kinds.TypeCast h.0 h.1 in
      let t = token kinds.Regclass r.0 r.1 in
      (t, ((s, t), (s ∷ [], h.2, h.3, (refl, refl), (only kinds.Regclass (codes "regclass") h.2 r, refl)), refl), refl)

  table_column : (ts : List Token) → Are text ts (mark kinds.TypeCast (codes "::") ∷ mark kinds.Regclass (codes "regclass") ∷ []) → (column text (kinds.Tableoid, codes "tableoid")).free ts TableName
  table_column ts h = inr (inl (cast_texts TableName ts h))

  date_column : (z : List ℕ) → IsText z → (ts : List Token) → Are text ts (spelled.string z ∷ []) → (column text (kinds.Date, codes "date")).free ts (Date z)
  date_column z w ts h = inr (inl (z, string_texts z w ts h, refl))

  table_of : (t : List ℕ) (ts : List Token) → Are text ts (mark kinds.TypeCast (codes "::") ∷ mark kinds.Regclass (codes "regclass") ∷ []) → (column_of t (kinds.Tableoid, codes "tableoid")).free ts (TableNameOf t)
  table_of t ts h = inl (cast_texts (TableNameOf t) ts h)

  -- "." and a name behind the name of a table
  dotted_texts : (k : TokenKind) (t : List ℕ) (j : TokenKind) (z : List ℕ) (from to : ℕ) (ts x y : List Token) (l : Leaf) → ts ≡ token kinds.Dot from to ∷ (x ++ y) → (name text).free x (j, z) → (column_of t (j, z)).free y l → (column text (k, t)).free ts l
  dotted_texts k t j z from to ts x y l e n c =
      let s = token kinds.Dot from to in
      inl ((s, l), (s ∷ [], x ++ y, e, (refl, refl), (((j, z), l), (x, y, refl, n, c), refl)), refl)

  pub leaf_texts : (l : Leaf) → IsLeaf l → (ts : List Token) → Are text ts (spelled.leaf_marks l) → (any text).unary.texts ts (leaf l, 0)
  leaf_texts (Number n) w ts h =
      let v : number_in text (token kinds.Number h.0 h.1) ≡ n = ap number_of_digits h.4 ∙ number_back n w in
      constant ts (Number n) (token kinds.Number h.0 h.1, inr (only kinds.Number (decimal n) ts h, refl), ap Number (sym v))
  leaf_texts (Text z) w ts h =
      let short : nat_lt MOST_TEXT_BYTES (length (string_in text (token kinds.Text h.0 h.1))) ≡ false = long_text z h.0 h.1 w h.4 in
      constant ts (Text z) (token kinds.Text h.0 h.1, inr (only kinds.Text (quoted 39 z) ts h, rw short refl), ap Text (sym (string_said z h.0 h.1 h.4)))
  leaf_texts (Date z) w ts h =
      named kinds.Date (codes "date") (token kinds.Date h.0 h.1 ∷ []) h.2 ts (Date z) h.3
      (name_token kinds.Date (codes "DATE") (codes "date") h.0 h.1 refl refl (omega arith) h.4) (date_column z w h.2 h.5)
  leaf_texts Null w ts h = constant ts Null (token kinds.Null h.0 h.1, inr (only kinds.Null (codes "NULL") ts h, refl), refl)
  leaf_texts (Truth true) w ts h = constant ts (Truth true) (token kinds.True h.0 h.1, inr (only kinds.True (codes "TRUE") ts h, refl), refl)
  leaf_texts (Truth false) w ts h = constant ts (Truth false) (token kinds.False h.0 h.1, inr (only kinds.False (codes "FALSE") ts h, refl), refl)
  leaf_texts (Parameter n) w ts h =
      let v : number_in text (token kinds.Parameter h.0 h.1) ≡ n = ap number_of_digits h.4 ∙ number_back n (omega arith) in
      constant ts (Parameter n) (token kinds.Parameter h.0 h.1, inr (only kinds.Parameter (36 ∷ decimal n) ts h, refl), ap Parameter (sym v))
  leaf_texts (Column c) w ts h =
      let n = name_texts c w ts h in
      named n.0 c ts [] ts (Column c) (sym (append-nil ts)) n.1 (no_more_of n.0 c)
  leaf_texts (ColumnOf t c) w ts h =
      let p = parted text ts (spelled.name t ∷ []) (spelled.dot ∷ spelled.name c ∷ []) h in
      let n = name_texts t w.0 p.0 p.3 in
      let m = name_texts c w.1 p.4.2 p.4.5 in
      named n.0 t p.0 p.1 ts (ColumnOf t c) p.2 n.1
      (dotted_texts n.0 t m.0 c p.4.0 p.4.1 p.1 p.4.2 [] (ColumnOf t c) (p.4.3 ∙ ap (λ r. token kinds.Dot p.4.0 p.4.1 ∷ r) (sym (append-nil p.4.2))) m.1 (no_more_behind m.0 t c))
  leaf_texts TableName w ts h =
      named kinds.Tableoid (codes "tableoid") (token kinds.Tableoid h.0 h.1 ∷ []) h.2 ts TableName h.3
      (name_token kinds.Tableoid (codes "tableoid") (codes "tableoid") h.0 h.1 refl refl (omega arith) h.4) (table_column h.2 h.5)
  leaf_texts (TableNameOf t) w ts h =
      let p = parted text ts (spelled.name t ∷ []) (spelled.dot ∷ spelled.table_name) h in
      let n = name_texts t w p.0 p.3 in
      let q = p.4.5 in
      named n.0 t p.0 p.1 ts (TableNameOf t) p.2 n.1
      (dotted_texts n.0 t kinds.Tableoid (codes "tableoid") p.4.0 p.4.1 p.1 (token kinds.Tableoid q.0 q.1 ∷ []) q.2 (TableNameOf t) (p.4.3 ∙ ap (λ r. token kinds.Dot p.4.0 p.4.1 ∷ r) q.3)
      (name_token kinds.Tableoid (codes "tableoid") (codes "tableoid") q.0 q.1 refl refl (omega arith) q.4) (table_of t q.2 q.5))
