-- Rules of a grammar over any type of token: which lists of tokens are texts of which values, within
-- the limits and without them, and how one text is read from the left with one token of look-ahead.
use Rattle.std.specs.Prelude.{◌≡◌, ℕ, suc, Bool, true, false, List, [], ◌∷◌, ◌++◌, length, Result, Ok, Err, if◌then◌else◌, ◌⊎◌, Option, Some, None}

-- A class of tokens: a test.
abbrev pub Class : Type 0 → Type 0
Class T = T → Bool

-- Where a reader stopped: how many tokens were left at the first that does not fit, and whether it
-- would fit without limits.
pub data Stop : Type 0 where
  syntax_at : ℕ → Stop
  limit_at : ℕ → Stop

-- What was read, and the tokens after it; or where the reader stopped.
abbrev pub Reading : Type 0 → Type 0 → Type 0
Reading T A = Result (A × List T) Stop

-- The value a, with the tokens ts after it.
abbrev pub given : {T A : Type 0} → A → List T → Reading T A
given a ts = Ok (a, ts)

-- One reader after another.
infixl 10 ◌>>=◌
abbrev pub ◌>>=◌ : {A B : Type 0} → Result A Stop → (A → Result B Stop) → Result B Stop
(Ok x) >>= f = f x
(Err e) >>= f = Err e

-- The texts of each value; the same without limits; and the reader.
pub record Rule (T A : Type 0) : Type 1 where
  pub texts : List T → A → Type 0
  pub free : List T → A → Type 0
  pub read : List T → Reading T A

-- Whether a token of the class comes next.
abbrev pub begins_in : {T : Type 0} → Class T → List T → Bool
begins_in c [] = false
begins_in c (t ∷ ts) = c t

-- One token of a class.
abbrev pub one_texts : {T : Type 0} → Class T → List T → T → Type 0
one_texts c x t = (x ≡ t ∷ []) × (c t ≡ true)

abbrev pub read_one : {T : Type 0} → Class T → List T → Reading T T
read_one c [] = Err (syntax_at 0)
read_one c (t ∷ ts) = if c t then Ok (t, ts) else Err (syntax_at (suc (length ts)))

abbrev pub one : {T : Type 0} → Class T → Rule T T
one c = record { texts = one_texts c; free = one_texts c; read = read_one c }

-- No token, for the value a.
abbrev pub nothing_texts : {T A : Type 0} → A → List T → A → Type 0
nothing_texts a x b = (x ≡ []) × (b ≡ a)

abbrev pub nothing : {T A : Type 0} → A → Rule T A
nothing a = record { texts = nothing_texts a; free = nothing_texts a; read = λ ts. Ok (a, ts) }

-- One text after another.
abbrev pub both_texts : {T A B : Type 0} → (List T → A → Type 0) → (List T → B → Type 0) → List T → A × B → Type 0
both_texts {T} p q ts ab = (x : List T) × (y : List T) × (ts ≡ x ++ y) × p x ab.0 × q y ab.1

abbrev pub both : {T A B : Type 0} → Rule T A → Rule T B → Rule T (A × B)
both p q = record {
  texts = both_texts p.texts q.texts;
  free = both_texts p.free q.free;
  read = λ ts. p.read ts >>= λ x. q.read x.1 >>= λ y. Ok ((x.0, y.0), y.1);
}

-- One text after another, which may be other texts for each value of the first.
abbrev pub follow_texts : {T A B : Type 0} → (List T → A → Type 0) → (A → List T → B → Type 0) → List T → A × B → Type 0
follow_texts {T} p q ts ab = (x : List T) × (y : List T) × (ts ≡ x ++ y) × p x ab.0 × q ab.0 y ab.1

abbrev pub follow : {T A B : Type 0} → Rule T A → (A → Rule T B) → Rule T (A × B)
follow p q = record {
  texts = follow_texts p.texts (λ a. (q a).texts);
  free = follow_texts p.free (λ a. (q a).free);
  read = λ ts. p.read ts >>= λ x. (q x.0).read x.1 >>= λ y. Ok ((x.0, y.0), y.1);
}

-- The same texts, of other values.
abbrev pub value_texts : {T A B : Type 0} → (A → B) → (List T → A → Type 0) → List T → B → Type 0
value_texts {A = A} f p ts b = (a : A) × p ts a × (b ≡ f a)

abbrev pub as_value : {T A B : Type 0} → (A → B) → Rule T A → Rule T B
as_value f p = record {
  texts = value_texts f p.texts;
  free = value_texts f p.free;
  read = λ ts. p.read ts >>= λ x. Ok (f x.0, x.1);
}

-- A text of one of two; the first is read where a token of its class comes.
abbrev pub either_texts : {T A : Type 0} → (List T → A → Type 0) → (List T → A → Type 0) → List T → A → Type 0
either_texts p q ts a = p ts a ⊎ q ts a

abbrev pub either : {T A : Type 0} → Class T → Rule T A → Rule T A → Rule T A
either c p q = record {
  texts = either_texts p.texts q.texts;
  free = either_texts p.free q.free;
  read = λ ts. if begins_in c ts then p.read ts else q.read ts;
}

-- The texts of p, or none.
abbrev pub optional : {T A : Type 0} → Class T → Rule T A → Rule T (Option A)
optional c p = either c (as_value Some p) (nothing None)

-- p behind a token of the class, which has no part in the value.
abbrev pub behind : {T A : Type 0} → Class T → Rule T A → Rule T A
behind {T} {A} c p = as_value (λ (x : T × A). x.1) (both (one c) p)

-- p before a token of the class, which has no part in the value.
abbrev pub before : {T A : Type 0} → Class T → Rule T A → Rule T A
before {T} {A} c p = as_value (λ (x : A × T). x.0) (both p (one c))

-- q, where a token of the class c would begin a text of u that only the limits bar.
abbrev pub barred : {T A : Type 0} → Class T → (List T → A → Type 0) → Rule T A → Rule T A
barred c u q = record {
  texts = q.texts;
  free = either_texts u q.free;
  read = λ ts. if begins_in c ts then Err (limit_at (length ts)) else q.read ts;
}

-- All of the tokens: the value where none is left.
abbrev pub end_of : {T A : Type 0} → A → List T → Result A Stop
end_of a [] = Ok a
end_of a (t ∷ ts) = Err (syntax_at (suc (length ts)))

abbrev pub whole_of : {T A : Type 0} → A × List T → Result A Stop
whole_of x = end_of x.0 x.1

unfoldable pub read_whole : {T A : Type 0} → Rule T A → List T → Result A Stop
read_whole p ts = p.read ts >>= λ x. whole_of x
