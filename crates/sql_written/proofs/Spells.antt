-- Marks that spell a value by a rule: their tokens are a text of it, and each of them stands apart. So do those of each
-- combination of rules.
use Rattle.std.proofs.Common.{◌≡◌, ℕ, arith, true, false, slice_index, List, [], ◌∷◌, ◌++◌, length, inl, inr, refl, sym, ap, ◌∙◌, subst, append_assoc, append-nil}
use Rattle.std.specs.List.{prefix_len}
use Rattle.std.specs.Prelude.{codes}
use Rattle.grammar.specs.Reading.{Class, one_texts, nothing_texts, both_texts, follow_texts, value_texts, either_texts}
use Rattle.grammar.specs.Repeats.{repeats_texts, always}
use Rattle.sql_tokens.specs.Bytes.{belongs}
use Rattle.sql_tokens.specs.Words.{is, word_kind}
use Rattle.sql_tokens.specs.declared.bytes.Class.TheVariants as class
use Rattle.sql_tokens.specs.declared.kind.TokenKind.{TokenKind}
use Rattle.sql_tokens.specs.declared.kind.TokenKind.TheVariants as kinds
use Rattle.sql_tokens.specs.declared.token.Token.{Token}
use Rattle.sql_tokens.specs.Classes.{a}
use Rattle.sql_ast.specs.declared.leaf.Operator.TheVariants.{Equal}
use Rattle.grammar.specs.Words.{snoc, only as alone}
use Rattle.sql_written.specs.Marks.{Mark, blank, mark, text_of}
use Rattle.sql_written.specs.Spelling as spelled
use Rattle.sql_written.proofs.Fronts.{ascii_utf8, is_ascii}
use Rattle.sql_written.proofs.LeafTexts.{only}
use Rattle.sql_written.proofs.LevelTexts.{Of, chain_texts}
use Rattle.sql_written.proofs.MarkTokens.{StandApart, StandsApart, apart_append, next, next_append, text_append}
use Rattle.sql_written.proofs.MarksApart.{Ends, blank_ends, closing_apart, closing_ends, comma_apart, comma_ends, opening_apart, sign_apart, word_apart}
use Rattle.sql_written.proofs.Said.{Are, parted, token}
use Rattle.sql_written.specs.Lists.{Each, SomeAre, enclosed, more_parts, parts}
use Rattle.sql_written.specs.Words.{capitals, word}
use Rattle.sql_written.proofs.EachWord.{IsWord, is_written, word_is}

-- what begins where a blank may stand before it
abbrev pub Begins : ℕ → Type 0
Begins b = belongs class.Blank b ≡ false

-- The value may hold places of tokens: one of those that g gives is read. F is what the first byte is.
pub record Spells (F : ℕ → Type 0) (text : List ℕ) {I A : Type 0} (P : List Token → A → Type 0) (ms : List Mark) (g : I → A) : Type 0 where
  pub reads : (ts : List Token) → Are text ts ms → (i : I) × P ts (g i)
  pub apart : (n : ℕ) → Ends n → StandApart ms n
  pub first : (n : ℕ) → Ends n → F (next (text_of ms) n)

-- one value
abbrev pub Exactly : (F : ℕ → Type 0) (text : List ℕ) {A : Type 0} (P : List Token → A → Type 0) → List Mark → A → Type 0
Exactly F text {A} P ms x = Spells F text P ms (λ (u : Unit {0}). x)

first_behind : (F : ℕ → Type 0) (xs ys : List Mark) (n : ℕ) → F (next (text_of xs) (next (text_of ys) n)) → F (next (text_of (xs ++ ys)) n)
first_behind F xs ys n h = subst F (sym (ap (λ z. next z n) (text_append xs ys) ∙ next_append (text_of xs) (text_of ys) n)) h

word_stands : (k : TokenKind) (z : List ℕ) → z ≡ capitals k → belongs class.NameStart (slice_index z 0) ≡ true → IsWord k → (n : ℕ) → belongs class.NamePart n ≡ false → StandsApart (mark k z) n
word_stands k [] e s w n h = let f : false ≡ true = s in cc
word_stands k (b ∷ z) e s w n h =
    let parts = subst (λ y. prefix_len (belongs class.NamePart) y ≡ length y) (sym e) w.parts in
    let ascii = subst (λ y. is_ascii y ≡ true) (sym e) w.ascii in
    let kind = subst (λ y. word_kind y ≡ k) (sym e) w.kind in
    word_apart k b z n s parts (ascii_utf8 (b ∷ z) ascii) kind h

start_begins : (b : ℕ) → belongs class.NameStart b ≡ true → Begins b
start_begins b h = grind (arith, h)

word_begins : (z : List ℕ) (n : ℕ) → belongs class.NameStart (slice_index z 0) ≡ true → Begins (next z n)
word_begins [] n s = let f : false ≡ true = s in cc
word_begins (b ∷ z) n s = start_begins b s

pub word_there : (k : TokenKind) → is_written k ≡ true → (n : ℕ) → belongs class.NamePart n ≡ false → StandsApart (word k) n
word_there k e n h = let w = word_is k e in word_stands k (capitals k) refl w.start w n h

module _ {F : ℕ → Type 0} {text : List ℕ} where
  -- values
  pub valued : {I A B : Type 0} {P : Of A} {ms : List Mark} {g : I → A} (f : A → B) → Spells F text P ms g → Spells F text (value_texts f P) ms (λ i. f (g i))
  valued {g = g} f h = record {
    reads = λ ts w. let r = h.reads ts w in (r.0, (g r.0, r.1, refl));
    apart = h.apart;
    first = h.first;
  }

  pub exactly : {I A : Type 0} {P : Of A} {ms : List Mark} {g : I → A} (x : A) → Spells F text P ms g → ((i : I) → g i ≡ x) → Exactly F text P ms x
  exactly {P = P} x h e = record {
    reads = λ ts w. let r = h.reads ts w in (tt, subst (λ y. P ts y) (e r.0) r.1);
    apart = h.apart;
    first = h.first;
  }

  -- one of two
  pub left : {I A : Type 0} {P : Of A} {ms : List Mark} {g : I → A} (Q : Of A) → Spells F text P ms g → Spells F text (either_texts P Q) ms g
  left Q h = record { reads = λ ts w. let r = h.reads ts w in (r.0, inl r.1); apart = h.apart; first = h.first }

  pub right : {I A : Type 0} {Q : Of A} {ms : List Mark} {g : I → A} (P : Of A) → Spells F text Q ms g → Spells F text (either_texts P Q) ms g
  right P h = record { reads = λ ts w. let r = h.reads ts w in (r.0, inr r.1); apart = h.apart; first = h.first }

  -- one behind the other
  pub both : {I J A B : Type 0} {P : Of A} {Q : Of B} {xs ys : List Mark} {g : I → A} {h : J → B} → Spells F text P xs g → Spells Ends text Q ys h →
      Spells F text (both_texts P Q) (xs ++ ys) (λ (i : I × J). (g i.0, h i.1))
  both {xs = xs} {ys = ys} p q = record {
    reads = λ ts w.
        let s = parted text ts xs ys w in
        let x = p.reads s.0 s.3 in
        let y = q.reads s.1 s.4 in
        ((x.0, y.0), (s.0, s.1, s.2, x.1, y.1));
    apart = λ n e. apart_append xs ys n (p.apart (next (text_of ys) n) (q.first n e)) (q.apart n e);
    first = λ n e. first_behind F xs ys n (p.first (next (text_of ys) n) (q.first n e));
  }

  pub followed : {J A B : Type 0} {P : Of A} {xs ys : List Mark} (x : A) {h : J → B} (Q : A → Of B) → Exactly F text P xs x → Spells Ends text (Q x) ys h →
      Spells F text (follow_texts P Q) (xs ++ ys) (λ (j : J). (x, h j))
  followed {xs = xs} {ys = ys} x Q p q = record {
    reads = λ ts w.
        let s = parted text ts xs ys w in
        let y = q.reads s.1 s.4 in
        (y.0, (s.0, s.1, s.2, (p.reads s.0 s.3).1, y.1));
    apart = λ n e. apart_append xs ys n (p.apart (next (text_of ys) n) (q.first n e)) (q.apart n e);
    first = λ n e. first_behind F xs ys n (p.first (next (text_of ys) n) (q.first n e));
  }

  -- what may be missing, and is
  pub missing : {J A B : Type 0} {Q : Of B} {ys : List Mark} {h : J → B} (P : Of A) (x : A) → Spells F text Q ys h → Spells F text (both_texts (either_texts P (nothing_texts x)) Q) ys (λ (j : J). (x, h j))
  missing P x q = record {
    reads = λ ts w. let y = q.reads ts w in (y.0, ([], ts, refl, inr (refl, refl), y.1));
    apart = q.apart;
    first = q.first;
  }

  pub missing_first : {J A B : Type 0} {ys : List Mark} {h : J → B} (P : Of A) (x : A) (Q : A → Of B) → Spells F text (Q x) ys h → Spells F text (follow_texts (either_texts P (nothing_texts x)) Q) ys (λ (j : J). (x, h j))
  missing_first P x Q q = record {
    reads = λ ts w. let y = q.reads ts w in (y.0, ([], ts, refl, inr (refl, refl), y.1));
    apart = q.apart;
    first = q.first;
  }

  -- nothing behind
  pub ended : {I A : Type 0} {P : Of A} {g : I → A} (ms : List Mark) → Spells F text P (ms ++ []) g → Spells F text P ms g
  ended {P = P} {g = g} ms h = subst (λ xs. Spells F text P xs g) (append-nil ms) h

module _ {text : List ℕ} where
  -- behind a blank
  pub spaced : {I A : Type 0} {P : Of A} {ms : List Mark} {g : I → A} → Spells Begins text P ms g → Spells Ends text P (blank ∷ ms) g
  spaced h = record { reads = h.reads; apart = λ n e. (h.first n e, h.apart n e); first = λ n e. blank_ends }

  -- nothing
  pub none : {A : Type 0} (x : A) → Exactly Ends text (nothing_texts x) [] x
  none x = record { reads = λ ts w. (tt, (w, refl)); apart = λ n e. tt; first = λ n e. e }

  -- a word of a class
  pub one_of : (k : TokenKind) → is_written k ≡ true → (c : Class Token) → ((i j : ℕ) → c (token k i j) ≡ true) → Spells Begins text (one_texts c) (word k ∷ []) (λ (i : ℕ × ℕ). token k i.0 i.1)
  one_of k e c h = record {
    reads = λ ts w. ((w.0, w.1), (only text k (capitals k) ts w, h w.0 w.1));
    apart = λ n i. (word_there k e n i.part, tt);
    first = λ n i. subst (λ b. Begins b) (sym (next_append (capitals k) [] n)) (word_begins (capitals k) n (word_is k e).start);
  }

  -- a token of a kind, then a text
  behind_mark : {F G : ℕ → Type 0} {I A : Type 0} {P : Of A} {ms : List Mark} {g : I → A} (k : TokenKind) (z : List ℕ) → is k k ≡ true → ((n : ℕ) → G n → StandsApart (mark k z) n) → ((n : ℕ) → F (next z n)) → Spells G text P ms g →
      Spells F text (value_texts (λ (x : Token × A). x.1) (both_texts (one_texts (a k)) P)) (mark k z ∷ ms) g
  behind_mark {F = F} {ms = ms} {g = g} k z s st f h = record {
    reads = λ ts w.
        let t = token k w.0 w.1 in
        let r = h.reads w.2 w.5 in
        (r.0, ((t, g r.0), (t ∷ [], w.2, w.3, (refl, s), r.1), refl));
    apart = λ n e. (st (next (text_of ms) n) (h.first n e), h.apart n e);
    first = λ n e. subst F (sym (next_append z (text_of ms) n)) (f (next (text_of ms) n));
  }

  pub behind : {I A : Type 0} {P : Of A} {ms : List Mark} {g : I → A} (k : TokenKind) → is_written k ≡ true → Spells Ends text P ms g →
      Spells Begins text (value_texts (λ (x : Token × A). x.1) (both_texts (one_texts (a k)) P)) (word k ∷ ms) g
  behind k e h = let w = word_is k e in behind_mark k (capitals k) w.self (λ n i. word_there k e n i.part) (λ n. word_begins (capitals k) n w.start) h

  pub behind_opening : {I A : Type 0} {P : Of A} {ms : List Mark} {g : I → A} (F : ℕ → Type 0) → F 40 → Spells Begins text P ms g →
      Spells F text (value_texts (λ (x : Token × A). x.1) (both_texts (one_texts (a kinds.OpenParenthesis)) P)) (spelled.opening ∷ ms) g
  behind_opening F f h = behind_mark kinds.OpenParenthesis (codes "(") refl (λ n i. opening_apart n) (λ n. f) h

  pub behind_comma : {I A : Type 0} {P : Of A} {ms : List Mark} {g : I → A} → Spells Ends text P ms g →
      Spells Ends text (value_texts (λ (x : Token × A). x.1) (both_texts (one_texts (a kinds.Comma)) P)) (spelled.comma ∷ ms) g
  behind_comma h = behind_mark kinds.Comma (codes ",") refl (λ n i. comma_apart n) (λ n. comma_ends) h

  pub behind_equal : {I A : Type 0} {P : Of A} {ms : List Mark} {g : I → A} → Spells Begins text P ms g →
      Spells Begins text (value_texts (λ (x : Token × A). x.1) (both_texts (one_texts (a kinds.Equal)) P)) (spelled.sign Equal ∷ blank ∷ ms) g
  behind_equal {P = P} {ms = ms} {g = g} h =
      let on : Spells (λ n. n ≡ 32) text P (blank ∷ ms) g = record { reads = h.reads; apart = λ n e. (h.first n e, h.apart n e); first = λ n e. refl } in
      behind_mark kinds.Equal (codes "=") refl (λ n e. subst (λ m. StandsApart (spelled.sign Equal) m) (sym e) (sign_apart Equal)) (λ n. refl) on

  -- a token that closes
  pub closes : Spells Ends text (one_texts (a kinds.CloseParenthesis)) (spelled.closing ∷ []) (λ (i : ℕ × ℕ). token kinds.CloseParenthesis i.0 i.1)
  closes = record {
    reads = λ ts w. ((w.0, w.1), (only text kinds.CloseParenthesis (codes ")") ts w, refl));
    apart = λ n i. (closing_apart n, tt);
    first = λ n i. closing_ends;
  }

  pub enclosing : {I A : Type 0} {P : Of A} {ms : List Mark} {g : I → A} (F : ℕ → Type 0) → F 40 → Spells Begins text P ms g →
      Spells F text (value_texts (λ (x : Token × A). x.1) (both_texts (one_texts (a kinds.OpenParenthesis)) (value_texts (λ (x : A × Token). x.0) (both_texts P (one_texts (a kinds.CloseParenthesis)))))) (enclosed ms) (λ (i : I × (ℕ × ℕ)). g i.0)
  enclosing F f h = behind_opening F f (valued (λ x. x.0) (both h closes))

  -- lists
  module _ {A : Type 0} (W : A → Type 0) (P : Of A) (f : A → List Mark) (part : (x : A) → W x → Exactly Begins text P (f x) x) where
    abbrev more_texts : List A → Of (List A)
    more_texts done = repeats_texts always snoc (λ (l : List A). both_texts (one_texts (a kinds.Comma)) P) done

    more_read : (done xs : List A) → Each W xs → (ts : List Token) → Are text ts (more_parts f xs) → more_texts done ts (done ++ xs)
    more_read done [] w ts h = ([], (h, append-nil done))
    more_read done (x ∷ xs) w ts h =
        let r = parted text h.2 (f x) (more_parts f xs) h.5 in
        let c = token kinds.Comma h.0 h.1 in
        let on = more_read (done ++ x ∷ []) xs w.1 r.1 r.4 in
        subst (λ (v : List A). more_texts done ts v) (append_assoc done (x ∷ []) xs) (
          (c, x) ∷ on.0,
          (refl, c ∷ r.0, r.1, h.3 ∙ ap (λ z. c ∷ z) r.2, (c ∷ [], r.0, refl, (refl, refl), ((part x w.0).reads r.0 r.3).1), on.1),
        )

    more_first : (xs : List A) (n : ℕ) → Ends n → Ends (next (text_of (more_parts f xs)) n)
    more_first [] n h = h
    more_first (x ∷ xs) n h = comma_ends

    more_apart : (xs : List A) → Each W xs → (n : ℕ) → Ends n → StandApart (more_parts f xs) n
    more_apart [] w n h = tt
    more_apart (x ∷ xs) w n h =
        let m = next (text_of (more_parts f xs)) n in
        let e = more_first xs n h in
        let p = part x w.0 in
        (comma_apart 32, (first_behind Begins (f x) (more_parts f xs) n (p.first m e), apart_append (f x) (more_parts f xs) n (p.apart m e) (more_apart xs w.1 n h)))

    list_read : (x : A) (xs : List A) → W x → Each W xs → (ts : List Token) → Are text ts (parts f (x ∷ xs)) → chain_texts (a kinds.Comma) alone snoc P P ts (x ∷ xs)
    list_read x xs w ws ts h =
        let r = parted text ts (f x) (more_parts f xs) h in
        ((x, x ∷ xs), (r.0, r.1, r.2, ((part x w).reads r.0 r.3).1, more_read (x ∷ []) xs ws r.1 r.4), refl)

    pub listed : (xs : List A) → SomeAre W xs → Exactly Begins text (chain_texts (a kinds.Comma) alone snoc P P) (parts f xs) xs
    listed [] w = absurd w
    listed (x ∷ xs) w = record {
      reads = λ ts h. (tt, list_read x xs w.0 w.1 ts h);
      apart = λ n h. apart_append (f x) (more_parts f xs) n ((part x w.0).apart (next (text_of (more_parts f xs)) n) (more_first xs n h)) (more_apart xs w.1 n h);
      first = λ n h. first_behind Begins (f x) (more_parts f xs) n ((part x w.0).first (next (text_of (more_parts f xs)) n) (more_first xs n h));
    }
