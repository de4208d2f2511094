-- What the texts of a rule give: no text of a value opens fewer parentheses than its cost, and W holds of the value where the
-- tokens are the text's own. So do those of each combination of rules.
use Rattle.std.proofs.Common.{◌≡◌, ℕ, suc, ◌+◌, ◌≤◌, true, List, [], ◌∷◌, ◌++◌, inl, inr, sym, subst, arith}
use Rattle.std.specs.Prelude.{Contains}
use Rattle.grammar.specs.Reading.{Class, one_texts, nothing_texts, both_texts, follow_texts, value_texts, either_texts}
use Rattle.grammar.specs.Repeats.{all_repeats, always, many_texts}
use Rattle.sql_tokens.specs.Tokens.{tokens_of}
use Rattle.sql_tokens.specs.declared.kind.TokenKind.{TokenKind}
use Rattle.sql_tokens.specs.declared.kind.TokenKind.TheVariants as kinds
use Rattle.sql_tokens.specs.declared.token.Token.{Token}
use Rattle.sql_tokens.specs.Classes.{a}
use Rattle.sql_expressions.proofs.Limited.{Each as EachToken}
use Rattle.grammar.specs.Words.{snoc, only as alone}
use Rattle.sql_written.specs.Parentheses.{opened}
use Rattle.sql_written.proofs.Least.{opened_of, opened_one}
use Rattle.sql_written.proofs.LeastTexts.{parted}
use Rattle.sql_written.proofs.LevelTexts.{Of, chain_texts}
use Rattle.sql_written.specs.Lists.{Each, SomeAre}

-- a token of the text
abbrev pub Own : List ℕ → Token → Type 0
Own text t = Contains (tokens_of text) t

pub record Gives (text : List ℕ) {A : Type 0} (P : List Token → A → Type 0) (cost : A → ℕ) (W : A → Type 0) : Type 0 where
  pub fewest : (ts : List Token) (x : A) → P ts x → cost x ≤ opened ts
  pub fits : (ts : List Token) (x : A) → EachToken (Own text) ts → P ts x → W x

-- nothing is opened
abbrev pub free : {A : Type 0} → A → ℕ
free x = 0

-- the cost of a list
abbrev pub total : {A : Type 0} → (A → ℕ) → List A → ℕ
total cost [] = 0
total cost (x ∷ xs) = cost x + total cost xs

pub parts_of : (R : Token → Type 0) (ts x y : List Token) → ts ≡ x ++ y → EachToken R ts → EachToken R x × EachToken R y
parts_of R ts x y e h = parted R x y (subst (EachToken R) e h)

at_most : (n m k : ℕ) → n ≤ m → m ≤ k → n ≤ k
at_most n m k h g = omega (arith, h, g)

module _ {A : Type 0} (cost : A → ℕ) where
  total_end : (xs : List A) (x : A) → total cost (xs ++ x ∷ []) ≡ total cost xs + cost x
  total_end [] x = omega arith
  total_end (y ∷ xs) x = omega (arith, total_end xs x)

module _ {A : Type 0} (W : A → Type 0) where
  each_end : (xs : List A) (x : A) → Each W xs → W x → Each W (xs ++ x ∷ [])
  each_end [] x h w = (w, tt)
  each_end (y ∷ xs) x h w = (h.0, each_end xs x h.1 w)

  some_end : (xs : List A) (x : A) → SomeAre W xs → W x → SomeAre W (xs ++ x ∷ [])
  some_end [] x h w = absurd h
  some_end (y ∷ xs) x h w = (h.0, each_end xs x h.1 w)

module _ {text : List ℕ} where
  -- one value of another
  pub valued : {A B : Type 0} {P : Of A} {cost : A → ℕ} {W : A → Type 0} (f : A → B) (other : B → ℕ) (V : B → Type 0) → ((x : A) → other (f x) ≤ cost x) → ((x : A) → W x → V (f x)) → Gives text P cost W →
      Gives text (value_texts f P) other V
  valued {cost = cost} f other V less has g = record {
    fewest = λ ts y h. subst (λ z. other z ≤ opened ts) (sym h.2) (at_most (other (f h.0)) (cost h.0) (opened ts) (less h.0) (g.fewest ts h.0 h.1));
    fits = λ ts y e h. subst V (sym h.2) (has h.0 (g.fits ts h.0 e h.1));
  }

  -- less is said of the same texts
  pub weakened : {A : Type 0} {P : Of A} {cost : A → ℕ} {W : A → Type 0} (other : A → ℕ) (V : A → Type 0) → ((x : A) → other x ≤ cost x) → ((x : A) → W x → V x) → Gives text P cost W → Gives text P other V
  weakened {cost = cost} other V less has g = record {
    fewest = λ ts x h. at_most (other x) (cost x) (opened ts) (less x) (g.fewest ts x h);
    fits = λ ts x e h. has x (g.fits ts x e h);
  }

  -- one of two
  module _ {A : Type 0} {P Q : Of A} {cost : A → ℕ} {W : A → Type 0} (g : Gives text P cost W) (h : Gives text Q cost W) where
    either_fewest : (ts : List Token) (x : A) → either_texts P Q ts x → cost x ≤ opened ts
    either_fewest ts x (inl w) = g.fewest ts x w
    either_fewest ts x (inr w) = h.fewest ts x w

    either_fits : (ts : List Token) (x : A) → EachToken (Own text) ts → either_texts P Q ts x → W x
    either_fits ts x e (inl w) = g.fits ts x e w
    either_fits ts x e (inr w) = h.fits ts x e w

    pub either : Gives text (either_texts P Q) cost W
    either = record { fewest = either_fewest; fits = either_fits }

  -- nothing
  pub nothing : {A : Type 0} (x : A) (cost : A → ℕ) (W : A → Type 0) → cost x ≡ 0 → W x → Gives text (nothing_texts x) cost W
  nothing x cost W e w = record {
    fewest = λ ts y h. subst (λ z. cost z ≤ opened ts) (sym h.1) (omega (arith, e));
    fits = λ ts y i h. subst W (sym h.1) w;
  }

  -- a token
  pub one : (c : Class Token) → Gives text (one_texts c) free (λ (t : Token). Own text t × (c t ≡ true))
  one c = record {
    fewest = λ ts t h. omega arith;
    fits = λ ts t e h. ((subst (EachToken (Own text)) h.0 e).0, h.1);
  }

  opening : Gives text (one_texts (a kinds.OpenParenthesis)) (λ (t : Token). 1) (λ (t : Token). Unit {0})
  opening = record { fewest = λ ts t h. omega (arith, opened_one t ts h.0 h.1); fits = λ ts t e h. tt }

  -- one behind the other
  pub both : {A B : Type 0} {P : Of A} {Q : Of B} {cost : A → ℕ} {other : B → ℕ} {W : A → Type 0} {V : B → Type 0} → Gives text P cost W → Gives text Q other V →
      Gives text (both_texts P Q) (λ (x : A × B). cost x.0 + other x.1) (λ (x : A × B). W x.0 × V x.1)
  both g h = record {
    fewest = λ ts x w. omega (arith, opened_of ts w.0 w.1 w.2, g.fewest w.0 x.0 w.3, h.fewest w.1 x.1 w.4);
    fits = λ ts x e w. let p = parts_of (Own text) ts w.0 w.1 w.2 e in (g.fits w.0 x.0 p.0 w.3, h.fits w.1 x.1 p.1 w.4);
  }

  pub follow : {A B : Type 0} {P : Of A} {Q : A → Of B} {cost : A → ℕ} {other : A → B → ℕ} {W : A → Type 0} {V : A → B → Type 0} → Gives text P cost W → ((x : A) → Gives text (Q x) (other x) (V x)) →
      Gives text (follow_texts P Q) (λ (x : A × B). cost x.0 + other x.0 x.1) (λ (x : A × B). W x.0 × V x.0 x.1)
  follow g h = record {
    fewest = λ ts x w. omega (arith, opened_of ts w.0 w.1 w.2, g.fewest w.0 x.0 w.3, (h x.0).fewest w.1 x.1 w.4);
    fits = λ ts x e w. let p = parts_of (Own text) ts w.0 w.1 w.2 e in (g.fits w.0 x.0 p.0 w.3, (h x.0).fits w.1 x.1 p.1 w.4);
  }

  -- behind or before a word or a sign
  pub behind : {A : Type 0} {P : Of A} {cost : A → ℕ} {W : A → Type 0} (k : TokenKind) → Gives text P cost W → Gives text (value_texts (λ (x : Token × A). x.1) (both_texts (one_texts (a k)) P)) cost W
  behind {cost = cost} {W = W} k g = valued (λ x. x.1) cost W (λ x. omega arith) (λ x w. w.1) (both (one (a k)) g)

  pub before : {A : Type 0} {P : Of A} {cost : A → ℕ} {W : A → Type 0} (k : TokenKind) → Gives text P cost W → Gives text (value_texts (λ (x : A × Token). x.0) (both_texts P (one_texts (a k)))) cost W
  before {cost = cost} {W = W} k g = valued (λ x. x.0) cost W (λ x. omega arith) (λ x w. w.0) (both g (one (a k)))

  -- behind an opening parenthesis, and in parentheses
  pub behind_opening : {A : Type 0} {P : Of A} {cost : A → ℕ} {W : A → Type 0} → Gives text P cost W →
      Gives text (value_texts (λ (x : Token × A). x.1) (both_texts (one_texts (a kinds.OpenParenthesis)) P)) (λ (x : A). suc (cost x)) W
  behind_opening {cost = cost} {W = W} g = valued (λ x. x.1) (λ x. suc (cost x)) W (λ x. omega arith) (λ x w. w.1) (both opening g)

  pub enclosed : {A : Type 0} {P : Of A} {cost : A → ℕ} {W : A → Type 0} → Gives text P cost W →
      Gives text (value_texts (λ (x : Token × A). x.1) (both_texts (one_texts (a kinds.OpenParenthesis)) (value_texts (λ (x : A × Token). x.0) (both_texts P (one_texts (a kinds.CloseParenthesis)))))) (λ (x : A). suc (cost x)) W
  enclosed g = behind_opening (before kinds.CloseParenthesis g)

  -- any text, of which nothing is said
  pub anything : {A : Type 0} {P : Of A} → Gives text P free (λ (x : A). Unit {0})
  anything = record { fewest = λ ts x h. omega arith; fits = λ ts x e h. tt }

  -- lists
  module _ {A : Type 0} {P : Of A} {cost : A → ℕ} {W : A → Type 0} (g : Gives text P cost W) where
    repeats_fewest : (l : List A) (xs : List (Token × A)) (ts : List Token) (y : List A) → all_repeats always snoc (λ (l : List A). both_texts (one_texts (a kinds.Comma)) P) l xs ts y → total cost y ≤ total cost l + opened ts
    repeats_fewest l [] ts y h = subst (λ z. total cost z ≤ total cost l + opened ts) (sym h.1) (omega arith)
    repeats_fewest l (x ∷ xs) ts y h =
        let u = h.1 in
        let b = h.4 in
        let on = repeats_fewest (l ++ x.1 ∷ []) xs h.2 y h.5 in
        omega (arith, on, total_end cost l x.1, opened_of ts u h.2 h.3, opened_of u b.0 b.1 b.2, g.fewest b.1 x.1 b.4)

    repeats_fit : (l : List A) (xs : List (Token × A)) (ts : List Token) (y : List A) → EachToken (Own text) ts → SomeAre W l → all_repeats always snoc (λ (l : List A). both_texts (one_texts (a kinds.Comma)) P) l xs ts y → SomeAre W y
    repeats_fit l [] ts y e w h = subst (SomeAre W) (sym h.1) w
    repeats_fit l (x ∷ xs) ts y e w h =
        let b = h.4 in
        let p = parts_of (Own text) ts h.1 h.2 h.3 e in
        let q = parts_of (Own text) h.1 b.0 b.1 b.2 p.0 in
        repeats_fit (l ++ x.1 ∷ []) xs h.2 y p.1 (some_end W l x.1 w (g.fits b.1 x.1 q.1 b.4)) h.5

    pub commas : Gives text (chain_texts (a kinds.Comma) alone snoc P P) (total cost) (SomeAre W)
    commas = record {
      fewest = λ ts y h.
          let f = h.1 in
          let first : total cost (h.0.0 ∷ []) ≡ cost h.0.0 = omega arith in
          let on = repeats_fewest (h.0.0 ∷ []) f.4.0 f.1 h.0.1 f.4.1 in
          subst (λ z. total cost z ≤ opened ts) (sym h.2) (omega (arith, first, on, opened_of ts f.0 f.1 f.2, g.fewest f.0 h.0.0 f.3));
      fits = λ ts y e h.
          let f = h.1 in
          let p = parts_of (Own text) ts f.0 f.1 f.2 e in
          subst (SomeAre W) (sym h.2) (repeats_fit (h.0.0 ∷ []) f.4.0 f.1 h.0.1 p.1 (g.fits f.0 h.0.0 p.0 f.3, tt) f.4.1);
    }

    many_fewest : (ts : List Token) (xs : List A) → many_texts P xs ts → total cost xs ≤ opened ts
    many_fewest ts [] h = omega arith
    many_fewest ts (x ∷ xs) h = omega (arith, opened_of ts h.0 h.1 h.2, g.fewest h.0 x h.3, many_fewest h.1 xs h.4)

    many_fit : (ts : List Token) (xs : List A) → EachToken (Own text) ts → many_texts P xs ts → Each W xs
    many_fit ts [] e h = tt
    many_fit ts (x ∷ xs) e h = let p = parts_of (Own text) ts h.0 h.1 h.2 e in (g.fits h.0 x p.0 h.3, many_fit h.1 xs p.1 h.4)

    pub many : Gives text (λ (ts : List Token) (xs : List A). many_texts P xs ts) (total cost) (Each W)
    many = record { fewest = many_fewest; fits = many_fit }
