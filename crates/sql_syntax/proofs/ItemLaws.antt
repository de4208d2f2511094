-- The items of a SELECT keep the law.
use Rattle.std.proofs.Common.{◌≡◌, ℕ, ◌-◌, Bool, true, false, cond, ◌&&◌, ◌||◌, not, List, [], ◌∷◌, ◌++◌, length, take, drop, Option, Some, None, Ok, Err, inl, inr, refl, sym, ◌∙◌, ap, subst, append_assoc, append-nil, take-append-drop}
use Rattle.grammar.specs.Reading.{Class, Reading, Stop, syntax_at, limit_at, Rule, one_texts, both_texts, value_texts, as_value, begins_in, given}
use Rattle.grammar.proofs.Laws.{Law, Reads, Took, Failed, Fails, Shape, Stops, SameHead, Within, head_eq, tail_eq, and_true}
use Rattle.grammar.proofs.Chain.{none, or_false}
use Rattle.grammar.proofs.Follow.{follow_shape}
use Rattle.grammar.proofs.Build.{token, valued, wide, alt, opt, after_token, before_token}
use Rattle.sql_tokens.specs.Contents.{name_in}
use Rattle.sql_tokens.specs.declared.kind.TokenKind.TheVariants as word
use Rattle.sql_tokens.specs.declared.token.Token.{Token}
use Rattle.sql_expressions.specs.Grammar.{expression}
use Rattle.sql_expressions.specs.Levels.{begins_expression}
use Rattle.sql_ast.specs.Expressions.{Tree}
use Rattle.sql_tokens.specs.Classes.{a, a_name}
use Rattle.sql_expressions.specs.Words.{is_long_name, no_longer, named}
use Rattle.sql_expressions.proofs.LevelLaws.{after_expression}
use Rattle.sql_expressions.proofs.Places as places
use Rattle.sql_expressions.proofs.RuleLaws.{expression_law}
use Rattle.sql_expressions.proofs.WordLaws.{sample, apart, within}
use Rattle.sql_expressions.specs.Lists as lists
use Rattle.sql_expressions.proofs.ListLaws.{plain_name_law, name_but_law}
use Rattle.sql_ast.specs.Queries.{Output, Item, columns_of, one_column}
use Rattle.sql_syntax.specs.Items.{maybe_alias, begins_operand, left_of, stop_at, ended_at, place_of_word, before_word, behind_output, output, starred, is_starred, all_of_them, starred_or_output, item}
use Rattle.sql_syntax.proofs.WordBehind.{Stands, whole_read, read_is, reads_both, lone_word, stops_there, stops_behind}
use Rattle.sql_syntax.proofs.Splits.{same_self, same_by_head, rest_begins}
use Rattle.sql_syntax.proofs.EndedLaws.{Ended, ended_at_is, placed, not_missed}

-- what begins an alias, and what may go on behind an item
abbrev pub begins_alias : Class Token
begins_alias t = a word.As t || a_name t

abbrev pub after_item : Class Token
after_item t = after_expression t || (begins_operand t || a word.As t)

first_true : (b d : Bool) → (b && d) ≡ true → b ≡ true
first_true true d h = refl
first_true false d h = cc

maybe_alias_law : (text : List ℕ) → Law (maybe_alias text) begins_alias true begins_alias
maybe_alias_law text =
    wide
    (alt (a word.As) (valued (λ (n : List ℕ). Some n) (after_token (a word.As) (sample word.As) refl (plain_name_law text))) (λ t h. h) (opt (name_but_law text word.Between refl)) (apart _ _ (λ t. refl) refl))
    (within _ _ (λ t. refl) refl) (within _ _ (λ t. refl) refl)

-- a word BETWEEN alone is an alias, however long
fits : (b l w : Bool) → b ≡ true → w ≡ true → (b && not (l && not w)) ≡ true
fits b true w h k = rw (h, k) refl
fits b false w h k = rw h refl

and_not : (b l : Bool) → b ≡ true → l ≡ false → (b && not l) ≡ true
and_not b l h k = rw (h, k) refl

stars : (b l d s : Bool) → b ≡ true → l ≡ false → d ≡ true → s ≡ true → ((b && not l) && (d && s)) ≡ true
stars b l d s h k i j = rw (h, k, i, j) refl

stops_none : (y : List Token) → Stops none y
stops_none [] = tt
stops_none (t ∷ y) = refl

between_is_name : Within (a word.Between) a_name
between_is_name = within (a word.Between) a_name (λ t. refl) refl

as_or_between : (t : Token) → a word.As t ≡ true → a word.Between t ≡ false
as_or_between = apart (a word.As) (a word.Between) (λ t. refl) refl

abbrev alias_and_expression : Class Token
alias_and_expression t = begins_alias t && after_expression t

only_between : Within alias_and_expression (a word.Between)
only_between = within alias_and_expression (a word.Between) (λ t. refl) refl

-- The three tokens of name "." "*".
record Three (c : Class Token) (x : List Token) : Type 0 where
  name : Token
  dot : Token
  star : Token
  is : x ≡ name ∷ dot ∷ star ∷ []
  is_name : c name ≡ true
  is_dot : a word.Dot dot ≡ true
  is_star : a word.Star star ≡ true

abbrev pointed : (List Token → List ℕ → Type 0) → List Token → Item → Type 0
pointed P = value_texts columns_of (value_texts (λ (x : List ℕ × Token). x.0) (both_texts (value_texts (λ (x : List ℕ × Token). x.0) (both_texts P (one_texts (a word.Dot)))) (one_texts (a word.Star))))

three : (P : List Token → List ℕ → Type 0) (c : Class Token) → ((y : List Token) (m : List ℕ) → P y m → (n : Token) × (y ≡ n ∷ []) × (c n ≡ true)) → (x : List Token) (b : Item) → pointed P x b → Three c x
three P c one_name x b w =
    let v = w.1.1 in
    let u = v.3.1 in
    let k = one_name u.0 v.3.0.0 u.3 in
    record {
      name = k.0;
      dot = v.3.0.1;
      star = w.1.0.1;
      is = v.2 ∙ ap (λ z. z ++ v.1) (u.2 ∙ ap (λ z. z ++ u.1) k.1 ∙ ap (λ z. k.0 ∷ z) u.4.0) ∙ ap (λ z. k.0 ∷ v.3.0.1 ∷ z) v.4.0;
      is_name = k.2;
      is_dot = u.4.1;
      is_star = v.4.1;
    }

module _ (text : List ℕ) where
  between_alone : (t : Token) (x : List Token) (b : Option (List ℕ)) → (maybe_alias text).free (t ∷ x) b → a word.Between t ≡ true → (x ≡ []) × (b ≡ Some (name_in text t))
  between_alone t x b (inl w) h =
      let v = w.1.1 in
      let k : a word.As t ≡ true = subst (λ (u : Token). a word.As u ≡ true) (sym (head_eq (v.2 ∙ ap (λ z. z ++ v.1) v.3.0))) v.3.1 in
      let l = as_or_between t k in cc
  between_alone t x b (inr (inl w)) h = by w.1.0 w.1.1 w.1.2
    where
      by : (u : Token) → (no_longer a_name (lists.is_long_but text word.Between)).free (t ∷ x) u → w.0 ≡ name_in text u → (x ≡ []) × (b ≡ Some (name_in text t))
      by u (inl v) q = (tail_eq v.0, w.2 ∙ ap (λ z. Some z) (q ∙ ap (name_in text) (sym (head_eq v.0))))
      by u (inr v) q = (tail_eq v.0, w.2 ∙ ap (λ z. Some z) (q ∙ ap (name_in text) (sym (head_eq v.0))))
  between_alone t x b (inr (inr w)) h = cc w.0

  stands : Stands (expression text) (maybe_alias text) after_expression begins_alias (a word.Between) begins_operand after_item (name_in text)
  stands = record {
    alone = λ t h. inr (inl (name_in text t, (t, (refl, fits (a_name t) (is_long_name text t) (a word.Between t) (between_is_name t h) h), refl), refl));
    only_alone = between_alone;
    empty = inr (inr (refl, refl));
    opens = places.opens_between text;
    goes_on = places.goes_on_between text;
    is_word = λ t h k. only_between t (and_true (begins_alias t) (after_expression t) h k);
    word_within = within (a word.Between) after_item (λ t. refl) refl;
    behind_within = within after_expression after_item (λ t. refl) refl;
    begun_within = within begins_alias after_item (λ t. refl) refl;
    operand_within = within begins_operand after_item (λ t. refl) refl;
  }

  -- a name behind an expression, or the word BETWEEN behind one that the reader passed by
  module _ (ts : List Token) where
    abbrev place : Stop → ℕ
    place stop = place_of_word (length ts - left_of stop) ts

    by_operand : (stop : Stop) → Fails (expression text).texts (expression text).free after_expression ts stop → (e : Tree) (t : Token) (rest : List Token) → Ended ((expression text).read (take (place stop) ts)) (drop (place stop) ts) e t rest →
        (b : Bool) → begins_in begins_operand rest ≡ b → Reads (output text).texts (output text).free after_item ts (cond b (Err (stop_at stop (length rest))) (given (e, Some (name_in text t)) rest))
    by_operand stop h e t rest i true d =
        stops_behind (expression_law text) (maybe_alias_law text) stands ts stop (take (place stop) ts) t rest e h (read_is (expression_law text) (take (place stop) ts) e i.is) i.word d
        (λ front after w l. placed text ts front after w (left_of stop) l e t rest i.next)
    by_operand stop h e t rest i false d =
        lone_word (expression_law text) (maybe_alias_law text) stands (take (place stop) ts) t rest e (read_is (expression_law text) (take (place stop) ts) e i.is) i.word ts
        (sym (take-append-drop (place stop) ts) ∙ ap (λ z. take (place stop) ts ++ z) i.next) d

    by_word : (stop : Stop) → Fails (expression text).texts (expression text).free after_expression ts stop → (found : Option ((Tree × Token) × List Token)) → ended_at text (place stop) ts ≡ found →
        Reads (output text).texts (output text).free after_item ts (before_word text stop found)
    by_word stop h None q =
        stops_there (expression_law text) (maybe_alias_law text) stands ts stop h
        (λ front after w l more x y t e k s st r p. not_missed text ts front after w (left_of stop) l after_item stands.word_within more x y t e k s st r p q)
    by_word stop h (Some ((e, t), rest)) q = by_operand stop h e t rest (ended_at_is text (place stop) ts e t rest q) (begins_in begins_operand rest) refl

    output_reads : (r : Reading Token Tree) → Reads (expression text).texts (expression text).free after_expression ts r → Reads (output text).texts (output text).free after_item ts (behind_output text ts r)
    output_reads (Ok (e, rest)) h = reads_both (expression_law text) (maybe_alias_law text) stands ts e rest h ((maybe_alias text).read rest) ((maybe_alias_law text).reads rest)
    output_reads (Err stop) h = by_word stop h (ended_at text (place stop) ts) refl

  output_shape : Shape (output text).texts (output text).free begins_expression false
  output_shape =
      let s = follow_shape (expression text).texts (expression text).free (λ _. (maybe_alias text).texts) (λ _. (maybe_alias text).free) begins_expression false begins_alias true (expression_law text).shape (λ _. (maybe_alias_law text).shape) in
      record {
        begins = λ t x e w. or_false (begins_expression t) (s.begins t x e w);
        empty = s.empty;
        within = s.within;
        text = s.text;
        value = s.value;
        sample = s.sample;
      }

  pub output_law : Law (output text) begins_expression false after_item
  output_law = record { shape = output_shape; reads = λ ts. output_reads ts ((expression text).read ts) ((expression_law text).reads ts) }

  -- name "." "*"
  abbrev columns : Rule Token Item
  columns = starred text

  abbrev column : Rule Token Item
  column = as_value one_column (output text)

  column_law : Law column begins_expression false after_item
  column_law = valued one_column output_law

  starred_law : Law columns a_name false none
  starred_law =
      wide
      (valued columns_of (before_token (a word.Star) (sample word.Star) refl (before_token (a word.Dot) (sample word.Dot) refl (plain_name_law text) (λ t h. refl)) (λ t h. refl)))
      (within _ _ (λ t. refl) refl) (within _ _ (λ t. refl) refl)

  starred_text : (n d s : Token) → a_name n ≡ true → is_long_name text n ≡ false → a word.Dot d ≡ true → a word.Star s ≡ true → columns.texts (n ∷ d ∷ s ∷ []) (columns_of (name_in text n))
  starred_text n d s h l h' h'' =
      let k : (a_name n && not (is_long_name text n)) ≡ true = and_not (a_name n) (is_long_name text n) h l in
      let v : (lists.plain_name text).texts (n ∷ []) (name_in text n) = (named text n, (n, (refl, k), refl), refl) in
      (name_in text n, ((name_in text n, s), (n ∷ d ∷ [], s ∷ [], refl, ((name_in text n, d), (n ∷ [], d ∷ [], refl, v, (refl, h')), refl), (refl, h'')), refl), refl)

  abbrev not_too_long : Class Token
  not_too_long t = a_name t && not (is_long_name text t)

  three_free : (x : List Token) (b : Item) → columns.free x b → Three a_name x
  three_free x b w = three (lists.plain_name text).free a_name one_name x b w
    where
      one_name : (y : List Token) (m : List ℕ) → (lists.plain_name text).free y m → (n : Token) × (y ≡ n ∷ []) × (a_name n ≡ true)
      one_name y m w = by w.1.0 w.1.1
        where
          by : (n : Token) → (no_longer a_name (is_long_name text)).free y n → (n : Token) × (y ≡ n ∷ []) × (a_name n ≡ true)
          by n (inl v) = (n, v.0, first_true (a_name n) _ v.1)
          by n (inr v) = (n, v.0, first_true (a_name n) _ v.1)

  three_within : (x : List Token) (b : Item) → columns.texts x b → Three not_too_long x
  three_within x b w = three (lists.plain_name text).texts not_too_long (λ y m w. (w.1.0, w.1.1.0, w.1.1.1)) x b w

  -- behind a name and a point, at their end or before a star, no output stops
  abbrev Starry : List Token → Type 0
  Starry m = (s : Token) (l : List Token) → m ≡ s ∷ l → a word.Star s ≡ true

  dot_goes_on : (d : Token) (m z y : List Token) (b : Option (List ℕ)) → a word.Dot d ≡ true → d ∷ m ≡ z ++ y → (maybe_alias text).free z b → Stops after_item y → ⊥
  dot_goes_on d m [] y b h q w st = let k : after_item d ≡ false = subst (Stops after_item) (sym q) st in let l : after_item d ≡ true = dot_in d h in cc
    where
      dot_in : Within (a word.Dot) after_item
      dot_in = within (a word.Dot) after_item (λ t. refl) refl
  dot_goes_on d m (u ∷ z) y b h q w st =
      let k : begins_alias d ≡ true = subst (λ (v : Token). begins_alias v ≡ true) (sym (head_eq q)) ((maybe_alias_law text).shape.begins u z b w) in
      let l : begins_alias d ≡ false = no_alias d h in cc
    where
      no_alias : (t : Token) → a word.Dot t ≡ true → begins_alias t ≡ false
      no_alias = apart (a word.Dot) begins_alias (λ t. refl) refl

  no_output : (n d : Token) (m x y : List Token) (v : Output) → a_name n ≡ true → a word.Dot d ≡ true → Starry m → n ∷ d ∷ m ≡ x ++ y → (output text).free x v → Stops after_item y → ⊥
  no_output n d m x y v h h' star q w st = by w.0 w.3 (q ∙ ap (λ z. z ++ y) w.2 ∙ append_assoc w.0 w.1 y)
    where
      by : (u : List Token) → (expression text).free u v.0 → n ∷ d ∷ m ≡ u ++ (w.1 ++ y) → ⊥
      by [] k r = let i = (expression_law text).shape.empty v.0 k in cc
      by (n' ∷ []) k r = dot_goes_on d m w.1 y v.1 h' (tail_eq r) w.4 st
      by (n' ∷ d' ∷ []) k r =
          places.not_dot_last text n' d' v.0 (subst (λ (i : Token). a_name i ≡ true) (head_eq r) h) (subst (λ (i : Token). a word.Dot i ≡ true) (head_eq (tail_eq r)) h') k
      by (n' ∷ d' ∷ s ∷ u) k r =
          places.not_starred text n' d' s u v.0 (subst (λ (i : Token). a_name i ≡ true) (head_eq r) h) (subst (λ (i : Token). a word.Dot i ≡ true) (head_eq (tail_eq r)) h') (star s (u ++ (w.1 ++ y)) (tail_eq (tail_eq r))) k

  starry : (s : Token) (m : List Token) → a word.Star s ≡ true → Starry (s ∷ m)
  starry s m h t l q = subst (λ (i : Token). a word.Star i ≡ true) (head_eq q) h

  -- no text within the limits begins with a name that is too long
  short_name : (n : Token) (m : List Token) (v : Item) → column.texts (n ∷ m) v → a_name n ≡ true → is_long_name text n ≡ false
  short_name n m v w h = by (is_long_name text n) refl
    where
      stopped : (u : List Token) (e : Tree) → (expression text).texts (n ∷ u) e → is_long_name text n ≡ true → ⊥
      stopped u e k l =
          let r = whole_read (expression_law text) (n ∷ u) [] e e ((expression_law text).shape.within (n ∷ u) e k) (subst (λ z. (expression text).texts z e) (sym (append-nil (n ∷ u))) k) in
          let i = sym (places.long_name_stops text n u h l) ∙ r.1 in cc i

      begun : (u : List Token) → (expression text).texts u w.0.0 → n ∷ m ≡ u ++ w.1.1 → is_long_name text n ≡ true → ⊥
      begun [] k q l = let i = (expression_law text).shape.empty w.0.0 ((expression_law text).shape.within [] w.0.0 k) in cc
      begun (p ∷ u) k q l = stopped u w.0.0 (subst (λ (i : Token). (expression text).texts (i ∷ u) w.0.0) (sym (head_eq q)) k) l

      by : (b : Bool) → is_long_name text n ≡ b → is_long_name text n ≡ false
      by true e = absurd (begun w.1.0 w.1.3 w.1.2 e)
      by false e = e

  -- all columns of a table
  module _ (n d s : Token) (rest : List Token) (h : a_name n ≡ true) (l : is_long_name text n ≡ false) (h' : a word.Dot d ≡ true) (h'' : a word.Star s ≡ true) where
    abbrev all : List Token
    all = n ∷ d ∷ s ∷ rest

    no_column : (v : Item) (left : List Token) (k : Took columns.texts columns.free none all v left) (more x y : List Token) (b : Item) → k.front ++ more ≡ x ++ y → column.free x b → Stops after_item y → ⊥
    no_column v left k more x y b e w st =
        let t = three_within k.front v k.is in
        no_output t.name t.dot (t.star ∷ more) x y w.0 (first_true (a_name t.name) _ t.is_name) t.is_dot (starry t.star more t.is_star) (ap (λ z. z ++ more) (sym t.is) ∙ e) w.1 st

    columns_reads : (r : Reading Token Item) → Reads columns.texts columns.free none all r → Reads (starred_or_output text).texts (starred_or_output text).free after_item all r
    columns_reads (Ok (v, left)) k = record {
      front = k.front;
      whole = k.whole;
      is = inl k.is;
      only = λ more x y b e q w st. elim w [
        | inl u ↦ k.only more x y b e q u (stops_none y)
        | inr u ↦ absurd (no_column v left k more x y b q u st)
      ];
    }
    columns_reads (Err (syntax_at m)) k =
        absurd (k.dead k.rest (n ∷ d ∷ s ∷ []) rest (columns_of (name_in text n)) (same_self k.rest) (sym k.whole) (starred_law.shape.within (n ∷ d ∷ s ∷ []) (columns_of (name_in text n)) (starred_text n d s h l h' h'')) (stops_none rest))
    columns_reads (Err (limit_at m)) k =
        absurd (k.0.dead k.0.rest (n ∷ d ∷ s ∷ []) rest (columns_of (name_in text n)) (same_self k.0.rest) (sym k.0.whole) (starred_text n d s h l h' h'') (stops_none rest))

  -- one column
  abbrev dotted_tokens : Token → Token → List Token
  dotted_tokens n d = n ∷ d ∷ sample word.Name ∷ []

  dotted_column : (n d : Token) → a_name n ≡ true → a word.Dot d ≡ true → (b : Item) × column.free (dotted_tokens n d) b
  dotted_column n d h h' =
      let k = places.dotted text n d h h' in
      (one_column (k.0, None), ((k.0, None), (dotted_tokens n d, [], refl, k.1, inr (inr (refl, refl))), refl))

  dotted_column_within : (n d : Token) → a_name n ≡ true → is_long_name text n ≡ false → a word.Dot d ≡ true → (b : Item) × column.texts (dotted_tokens n d) b
  dotted_column_within n d h l h' =
      let k = places.dotted_within text n d h h' l in
      (one_column (k.0, None), ((k.0, None), (dotted_tokens n d, [], refl, k.1, inr (inr (refl, refl))), refl))

  module _ (c : Class Token) (x : List Token) (t : Three c x) (name : a_name t.name ≡ true) where
    no_column_of_two : (n d : Token) (v : Item) → n ≡ t.name → d ≡ t.dot → column.free (n ∷ d ∷ []) v → ⊥
    no_column_of_two n d v e e' w =
        no_output t.name t.dot [] (n ∷ d ∷ []) [] w.0 name t.is_dot (λ s l q. cc q) (ap (λ z. z ∷ t.dot ∷ []) (sym e) ∙ ap (λ z. n ∷ z ∷ []) (sym e')) w.1 tt

    no_column_of_three : (n d s : Token) (m : List Token) (v : Item) → n ≡ t.name → d ≡ t.dot → s ≡ t.star → column.free (n ∷ d ∷ s ∷ m) v → ⊥
    no_column_of_three n d s m v e e' e'' w =
        no_output t.name t.dot (s ∷ m) (n ∷ d ∷ s ∷ m) [] w.0 name t.is_dot (starry s m (subst (λ (i : Token). a word.Star i ≡ true) (sym e'') t.is_star))
        (ap (λ z. z ∷ t.dot ∷ s ∷ m) (sym e) ∙ ap (λ z. n ∷ z ∷ s ∷ m) (sym e') ∙ sym (append-nil (n ∷ d ∷ s ∷ m))) w.1 tt

    took_apart : (ts : List Token) (v : Item) (left : List Token) (h : Took column.texts column.free after_item ts v left) (more y : List Token) → SameHead left more → h.front ++ more ≡ t.name ∷ t.dot ∷ t.star ∷ y → ⊥
    took_apart ts v left h more y same q = by h.front refl
      where
        there : (front : List Token) → h.front ≡ front → column.free front v
        there front p = column_law.shape.within front v (subst (λ z. column.texts z v) p h.is)

        as_front : (front : List Token) → h.front ≡ front → front ++ more ≡ t.name ∷ t.dot ∷ t.star ∷ y
        as_front front p = ap (λ z. z ++ more) (sym p) ∙ q

        by : (front : List Token) → h.front ≡ front → ⊥
        by [] p = let k = column_law.shape.empty v (there [] p) in cc
        by (n ∷ []) p =
            let i = as_front (n ∷ []) p in
            let k = dotted_column t.name t.dot name t.is_dot in
            let o = h.only (t.dot ∷ sample word.Name ∷ []) (dotted_tokens t.name t.dot) [] k.0 (same_by_head left more t.dot (sample word.Name ∷ []) (t.star ∷ y) (tail_eq i) same)
            (ap (λ z. z ++ t.dot ∷ sample word.Name ∷ []) p ∙ ap (λ z. z ∷ t.dot ∷ sample word.Name ∷ []) (head_eq i)) k.1 tt in
            cc o.0
        by (n ∷ d ∷ []) p = let i = as_front (n ∷ d ∷ []) p in no_column_of_two n d v (head_eq i) (head_eq (tail_eq i)) (there (n ∷ d ∷ []) p)
        by (n ∷ d ∷ s ∷ m) p =
            let i = as_front (n ∷ d ∷ s ∷ m) p in no_column_of_three n d s m v (head_eq i) (head_eq (tail_eq i)) (head_eq (tail_eq (tail_eq i))) (there (n ∷ d ∷ s ∷ m) p)

    failed_apart : (D : List Token → Item → Type 0) (b : Item) → D (dotted_tokens t.name t.dot) b → (ts : List Token) (left : ℕ) → is_starred text ts ≡ false → (h : Failed column.texts D after_item ts left) (more y : List Token) → SameHead h.rest more → h.front ++ more ≡ t.name ∷ t.dot ∷ t.star ∷ y → ⊥
    failed_apart D b k ts left is_not h more y same q = by h.front refl
      where
        there : (front : List Token) → h.front ≡ front → column.texts (front ++ h.more) h.value
        there front p = subst (λ z. column.texts (z ++ h.more) h.value) p h.viable

        as_front : (front : List Token) → h.front ≡ front → front ++ more ≡ t.name ∷ t.dot ∷ t.star ∷ y
        as_front front p = ap (λ z. z ++ more) (sym p) ∙ q

        starred_there : (n d : Token) (rest : List Token) → ts ≡ n ∷ d ∷ t.star ∷ rest → n ≡ t.name → d ≡ t.dot → column.texts (n ∷ d ∷ h.more) h.value → ⊥
        starred_there n d rest e p p' w =
            let name' : a_name n ≡ true = subst (λ (i : Token). a_name i ≡ true) (sym p) name in
            let l = short_name n (d ∷ h.more) h.value w name' in
            let j : is_starred text (n ∷ d ∷ t.star ∷ rest) ≡ true =
            stars (a_name n) (is_long_name text n) (a word.Dot d) (a word.Star t.star) name' l (subst (λ (i : Token). a word.Dot i ≡ true) (sym p') t.is_dot) t.is_star in
            let j' : is_starred text ts ≡ true = subst (λ z. is_starred text z ≡ true) (sym e) j in cc

        by : (front : List Token) → h.front ≡ front → ⊥
        by [] p =
            h.dead (dotted_tokens t.name t.dot) (dotted_tokens t.name t.dot) [] b (same_by_head h.rest more t.name (t.dot ∷ sample word.Name ∷ []) (t.dot ∷ t.star ∷ y) (as_front [] p) same)
            (ap (λ z. z ++ dotted_tokens t.name t.dot) p) k tt
        by (n ∷ []) p =
            let i = as_front (n ∷ []) p in
            h.dead (t.dot ∷ sample word.Name ∷ []) (dotted_tokens t.name t.dot) [] b (same_by_head h.rest more t.dot (sample word.Name ∷ []) (t.star ∷ y) (tail_eq i) same)
            (ap (λ z. z ++ t.dot ∷ sample word.Name ∷ []) p ∙ ap (λ z. z ∷ t.dot ∷ sample word.Name ∷ []) (head_eq i)) k tt
        by (n ∷ d ∷ []) p =
            let i = as_front (n ∷ d ∷ []) p in
            let j = rest_begins h.rest more y t.star same (tail_eq (tail_eq i)) in
            starred_there n d j.0 (h.whole ∙ ap (λ z. z ++ h.rest) p ∙ ap (λ z. n ∷ d ∷ z) j.1) (head_eq i) (head_eq (tail_eq i)) (there (n ∷ d ∷ []) p)
        by (n ∷ d ∷ s ∷ m) p =
            let i = as_front (n ∷ d ∷ s ∷ m) p in
            no_column_of_three n d s (m ++ h.more) h.value (head_eq i) (head_eq (tail_eq i)) (head_eq (tail_eq (tail_eq i)))
            (column_law.shape.within (n ∷ d ∷ s ∷ (m ++ h.more)) h.value (there (n ∷ d ∷ s ∷ m) p))

  not_long : (n : Token) → not_too_long n ≡ true → is_long_name text n ≡ false
  not_long n h = by (a_name n) (is_long_name text n) h
    where
      by : (b l : Bool) → (b && not l) ≡ true → l ≡ false
      by b false h = refl
      by true true h = cc
      by false true h = cc

  column_reads : (ts : List Token) (r : Reading Token Item) → is_starred text ts ≡ false → Reads column.texts column.free after_item ts r → Reads (starred_or_output text).texts (starred_or_output text).free after_item ts r
  column_reads ts (Ok (v, left)) is_not h = record {
    front = h.front;
    whole = h.whole;
    is = inr h.is;
    only = λ more x y b e q w st. elim w [
      | inl u ↦ let t = three_free x b u in absurd (took_apart a_name x t t.is_name ts v left h more y e (q ∙ ap (λ z. z ++ y) t.is))
      | inr u ↦ h.only more x y b e q u st
    ];
  }
  column_reads ts (Err (syntax_at m)) is_not h = record {
    front = h.front;
    rest = h.rest;
    whole = h.whole;
    left_is = h.left_is;
    more = h.more;
    value = h.value;
    viable = inr h.viable;
    dead = λ more x y b e q w st. elim w [
      | inl u ↦
          let t = three_free x b u in
          let k = dotted_column t.name t.dot t.is_name t.is_dot in
          failed_apart a_name x t t.is_name column.free k.0 k.1 ts m is_not h more y e (q ∙ ap (λ z. z ++ y) t.is)
      | inr u ↦ h.dead more x y b e q u st
    ];
  }
  column_reads ts (Err (limit_at m)) is_not h = (
    record {
      front = h.0.front;
      rest = h.0.rest;
      whole = h.0.whole;
      left_is = h.0.left_is;
      more = h.0.more;
      value = h.0.value;
      viable = inr h.0.viable;
      dead = λ more x y b e q w st. elim w [
        | inl u ↦
            let t = three_within x b u in
            let i = first_true (a_name t.name) _ t.is_name in
            let k = dotted_column_within t.name t.dot i (not_long t.name t.is_name) t.is_dot in
            failed_apart not_too_long x t i column.texts k.0 k.1 ts m is_not h.0 more y e (q ∙ ap (λ z. z ++ y) t.is)
        | inr u ↦ h.0.dead more x y b e q u st
      ];
    },
    record { front = h.1.front; next = h.1.next; rest = h.1.rest; whole = h.1.whole; left_is = h.1.left_is; more = h.1.more; value = h.1.value; alive = inr h.1.alive },
  )

  -- either of the two
  abbrev chosen : Bool → List Token → Reading Token Item
  chosen b ts = cond b (columns.read ts) (column.read ts)

  chosen_reads : (ts : List Token) (b : Bool) → is_starred text ts ≡ b → Reads (starred_or_output text).texts (starred_or_output text).free after_item ts (chosen b ts)
  chosen_reads ts false e = column_reads ts (column.read ts) e (column_law.reads ts)
  chosen_reads [] true e = cc e
  chosen_reads (n ∷ []) true e = cc e
  chosen_reads (n ∷ d ∷ []) true e = cc e
  chosen_reads (n ∷ d ∷ s ∷ ts) true e =
      let k = parts (a_name n) (is_long_name text n) (a word.Dot d) (a word.Star s) e in
      columns_reads n d s ts k.0 k.1 k.2 k.3 (columns.read (n ∷ d ∷ s ∷ ts)) (starred_law.reads (n ∷ d ∷ s ∷ ts))
    where
      parts : (b l d s : Bool) → ((b && not l) && (d && s)) ≡ true → (b ≡ true) × (l ≡ false) × (d ≡ true) × (s ≡ true)
      parts true false true true h = (refl, refl, refl, refl)
      parts true false true false h = cc h
      parts true false false s h = cc h
      parts true true d s h = cc h
      parts false l d s h = cc h

  name_begins : Within a_name begins_expression
  name_begins = within a_name begins_expression (λ t. refl) refl

  either_begins : (t : Token) (x : List Token) (v : Item) → (starred_or_output text).free (t ∷ x) v → begins_expression t ≡ true
  either_begins t x v (inl w) = name_begins t (starred_law.shape.begins t x v w)
  either_begins t x v (inr w) = column_law.shape.begins t x v w

  either_empty : (v : Item) → (starred_or_output text).free [] v → false ≡ true
  either_empty v (inl w) = starred_law.shape.empty v w
  either_empty v (inr w) = column_law.shape.empty v w

  either_within : (x : List Token) (v : Item) → (starred_or_output text).texts x v → (starred_or_output text).free x v
  either_within x v (inl w) = inl (starred_law.shape.within x v w)
  either_within x v (inr w) = inr (column_law.shape.within x v w)

  starred_or_output_law : Law (starred_or_output text) begins_expression false after_item
  starred_or_output_law = record {
    shape = record { begins = either_begins; empty = either_empty; within = either_within; text = column_law.shape.text; value = column_law.shape.value; sample = inr column_law.shape.sample };
    reads = λ ts. chosen_reads ts (is_starred text ts) refl;
  }

  pub item_law : Law (item text) (λ t. a word.Star t || begins_expression t) false after_item
  item_law =
      wide (alt (a word.Star) (valued all_of_them (token (a word.Star) (sample word.Star) refl)) (λ t h. h) starred_or_output_law (apart _ _ (λ t. refl) refl))
      (λ t h. h) (within _ _ (λ t. refl) refl)
