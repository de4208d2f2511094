-- Texts within limits: those without limits whose value and whose tokens keep them. Each combinator keeps that it is so.
use Rattle.std.proofs.Common.{◌≡◌, Bool, true, false, ◌&&◌, not, List, [], ◌∷◌, ◌++◌, inl, inr, refl, sym, ◌∙◌, subst}
use Rattle.std.proofs.lemmas.List.Elements.{All-nil, All-cons, All-head, All-tail}
use Rattle.std.specs.Prelude.{All}
use Rattle.grammar.specs.Reading.{Class, one_texts, nothing_texts, both_texts, follow_texts, value_texts, either_texts}
use Rattle.grammar.specs.Repeats.{all_repeats, repeats_texts, always, step_to, second_of}
use Rattle.grammar.proofs.Depths.{Inside}
use Rattle.sql_tokens.specs.declared.token.Token.{Token}
use Rattle.sql_expressions.specs.Levels.{room_texts}
use Rattle.sql_expressions.specs.Words.{no_longer}

-- the texts of each value
abbrev pub Of : Type 0 → Type 1
Of A = List Token → A → Type 0

-- R holds of each token
abbrev pub Each : (Token → Type 0) → List Token → Type 0
Each R [] = Unit {0}
Each R (t ∷ ts) = R t × Each R ts

pub each_of_all : (R : Token → Type 0) (ts : List Token) → All R ts → Each R ts
each_of_all R [] h = tt
each_of_all R (t ∷ ts) h = (All-head R t ts h, each_of_all R ts (All-tail R t ts h))

pub all_of_each : (R : Token → Type 0) (ts : List Token) → Each R ts → All R ts
all_of_each R [] h = All-nil R
all_of_each R (t ∷ ts) h = All-cons R t ts h.0 (all_of_each R ts h.1)

pub append : (R : Token → Type 0) (xs ys : List Token) → Each R xs → Each R ys → Each R (xs ++ ys)
append R [] ys h k = k
append R (x ∷ xs) ys h k = (h.0, append R xs ys h.1 k)

split : (R : Token → Type 0) (xs ys : List Token) → Each R (xs ++ ys) → Each R xs × Each R ys
split R [] ys h = (tt, h)
split R (x ∷ xs) ys h = let p = split R xs ys h.1 in ((h.0, p.0), p.1)

joined : (R : Token → Type 0) (ts xs ys : List Token) → ts ≡ xs ++ ys → Each R xs → Each R ys → Each R ts
joined R ts xs ys e h k = subst (Each R) (sym e) (append R xs ys h k)

parted : (R : Token → Type 0) (ts xs ys : List Token) → ts ≡ xs ++ ys → Each R ts → Each R xs × Each R ys
parted R ts xs ys e h = split R xs ys (subst (Each R) e h)

-- What is joined keeps the limits H just if its parts do and the guard lets it grow. N holds of all that is joined.
pub record Joins {A B : Type 0} (guard : A → Bool) (join : A → Token → B → A) (N H : A → Type 0) (K : B → Type 0) : Type 0 where
  pub keep : (l : A) (s : Token) (b : B) → N l → N (join l s b)
  pub grow : (l : A) (s : Token) (b : B) → N l → guard l ≡ true → H l → K b → H (join l s b)
  pub back : (l : A) (s : Token) (b : B) → N l → H (join l s b) → (guard l ≡ true) × H l × K b

-- Under F the texts P are those of U whose value keeps G: S holds of the tokens of those, and those of which R holds
-- are texts of P.
pub record Limited {A : Type 0} (S R : Token → Type 0) (F : Type 0) (G : A → Type 0) (P U : List Token → A → Type 0) : Type 0 where
  pub bounded : F → (ts : List Token) (a : A) → P ts a → G a × Each S ts
  pub covered : (ts : List Token) (a : A) → U ts a → G a → Each R ts → F × P ts a

module _ {S R : Token → Type 0} where
  -- other limits, or other texts without limits
  pub adapt : {A : Type 0} {F : Type 0} {G G' : A → Type 0} {P U : Of A} → Limited S R F G P U → ((a : A) → G a → G' a) → ((a : A) → G' a → G a) → Limited S R F G' P U
  adapt l to from = record {
    bounded = λ f ts a w. let p = l.bounded f ts a w in (to a p.0, p.1);
    covered = λ ts a w g h. l.covered ts a w (from a g) h;
  }

  pub over : {A : Type 0} {F : Type 0} {G : A → Type 0} {P U U' : Of A} → Inside U' U → Limited S R F G P U → Limited S R F G P U'
  over i l = record { bounded = l.bounded; covered = λ ts a w g h. l.covered ts a (i ts a w) g h }

  -- F is known
  pub given : {A : Type 0} {F : Type 0} {G : A → Type 0} {P U : Of A} → F → Limited S R (Unit {0}) G P U → Limited S R F G P U
  given f l = record { bounded = λ g ts a w. l.bounded tt ts a w; covered = λ ts a w g h. (f, (l.covered ts a w g h).1) }

  pub granted : {A : Type 0} {F : Type 0} {G : A → Type 0} {P U : Of A} → F → Limited S R F G P U → Limited S R (Unit {0}) G P U
  granted f l = record { bounded = λ u ts a w. l.bounded f ts a w; covered = λ ts a w g h. (tt, (l.covered ts a w g h).1) }

  -- tokens
  pub one_limited : (c : Class Token) → ((t : Token) → c t ≡ true → S t) → Limited S R (Unit {0}) (λ (t : Token). Unit {0}) (one_texts c) (one_texts c)
  one_limited c s = record { bounded = λ f ts t w. (tt, subst (Each S) (sym w.0) (s t w.1, tt)); covered = λ ts t w g h. (tt, w) }

  module _ (c long : Class Token) (short : (t : Token) → (c t && not (long t)) ≡ true → S t) (no : (t : Token) → R t → long t ≡ false) where
    not_long : (ts : List Token) (t : Token) → (no_longer c long).free ts t → Each R ts → (no_longer c long).texts ts t
    not_long ts t (inl w) h =
        let r = subst (Each R) w.0 h in
        let e : true ≡ false = sym w.1 ∙ no t r.0 in cc
    not_long ts t (inr w) h = w

    pub no_longer_limited : Limited S R (Unit {0}) (λ (t : Token). Unit {0}) (no_longer c long).texts (no_longer c long).free
    no_longer_limited = record { bounded = (one_limited (λ t. c t && not (long t)) short).bounded; covered = λ ts t w g h. (tt, not_long ts t w h) }

  pub nothing_limited : {A : Type 0} (G : A → Type 0) (a : A) → Limited S R (G a) G (nothing_texts a) (nothing_texts a)
  nothing_limited G a = record {
    bounded = λ g ts b w. (subst G (sym w.1) g, subst (Each S) (sym w.0) tt);
    covered = λ ts b w g h. (subst G w.1 g, w);
  }

  -- one text after another
  pub both_limited : {A B : Type 0} {G : A → Type 0} {H : B → Type 0} {P U : Of A} {Q V : Of B} → Limited S R (Unit {0}) G P U → Limited S R (Unit {0}) H Q V →
      Limited S R (Unit {0}) (λ (x : A × B). G x.0 × H x.1) (both_texts P Q) (both_texts U V)
  both_limited p q = record {
    bounded = λ f ts x w.
        let i = p.bounded tt w.0 x.0 w.3 in
        let j = q.bounded tt w.1 x.1 w.4 in
        ((i.0, j.0), joined S ts w.0 w.1 w.2 i.1 j.1);
    covered = λ ts x w g h.
        let s = parted R ts w.0 w.1 w.2 h in
        (tt, (w.0, w.1, w.2, (p.covered w.0 x.0 w.3 g.0 s.0).1, (q.covered w.1 x.1 w.4 g.1 s.1).1));
  }

  pub follow_limited : {A B : Type 0} {E : Type 0} {F : A → Type 0} {G : B → Type 0} {P U : Of A} {Q V : A → Of B} → Limited S R E F P U → ((a : A) → Limited S R (F a) G (Q a) (V a)) →
      Limited S R E (λ (x : A × B). G x.1) (follow_texts P Q) (follow_texts U V)
  follow_limited p q = record {
    bounded = λ e ts x w.
        let i = p.bounded e w.0 x.0 w.3 in
        let j = (q x.0).bounded i.0 w.1 x.1 w.4 in
        (j.0, joined S ts w.0 w.1 w.2 i.1 j.1);
    covered = λ ts x w g h.
        let s = parted R ts w.0 w.1 w.2 h in
        let j = (q x.0).covered w.1 x.1 w.4 g s.1 in
        let i = p.covered w.0 x.0 w.3 j.0 s.0 in
        (i.0, (w.0, w.1, w.2, i.1, j.1));
  }

  -- other values
  pub value_limited : {A B : Type 0} {F : Type 0} {G : B → Type 0} {P U : Of A} (f : A → B) → Limited S R F (λ a. G (f a)) P U → Limited S R F G (value_texts f P) (value_texts f U)
  value_limited {G = G} f l = record {
    bounded = λ e ts b w. let p = l.bounded e ts w.0 w.1 in (subst G (sym w.2) p.0, p.1);
    covered = λ ts b w g h. let p = l.covered ts w.0 w.1 (subst G w.2 g) h in (p.0, (w.0, p.1, w.2));
  }

  -- a token before a text, or behind one
  pub sign_limited : {A : Type 0} {G : A → Type 0} {P U : Of A} (c : Class Token) → ((t : Token) → c t ≡ true → S t) → Limited S R (Unit {0}) G P U →
      Limited S R (Unit {0}) (λ (x : Token × A). G x.1) (both_texts (one_texts c) P) (both_texts (one_texts c) U)
  sign_limited c s l = adapt (both_limited (one_limited c s) l) (λ x g. g.1) (λ x g. (tt, g))

  pub behind_limited : {A : Type 0} {G : A → Type 0} {P U : Of A} (c : Class Token) → ((t : Token) → c t ≡ true → S t) → Limited S R (Unit {0}) G P U →
      Limited S R (Unit {0}) G (value_texts (λ (x : Token × A). x.1) (both_texts (one_texts c) P)) (value_texts (λ (x : Token × A). x.1) (both_texts (one_texts c) U))
  behind_limited {A} {G = G} c s l = value_limited {G = G} (λ (x : Token × A). x.1) (sign_limited c s l)

  pub before_limited : {A : Type 0} {G : A → Type 0} {P U : Of A} (c : Class Token) → ((t : Token) → c t ≡ true → S t) → Limited S R (Unit {0}) G P U →
      Limited S R (Unit {0}) G (value_texts (λ (x : A × Token). x.0) (both_texts P (one_texts c))) (value_texts (λ (x : A × Token). x.0) (both_texts U (one_texts c)))
  before_limited {A} {G = G} c s l = value_limited {G = G} (λ (x : A × Token). x.0) (adapt (both_limited l (one_limited c s)) (λ x g. g.0) (λ x g. (g, tt)))

  -- one of two, the first perhaps where there is room alone
  no_room : {A : Type 0} {F : Type 0} {G : A → Type 0} {U Q V : Of A} → Limited S R F G Q V → ((ts : List Token) (a : A) → U ts a → G a → ⊥) →
      (ts : List Token) (a : A) → either_texts U V ts a → G a → Each R ts → F × Q ts a
  no_room q deep ts a (inl w) g h = absurd (deep ts a w g)
  no_room q deep ts a (inr w) g h = q.covered ts a w g h

  module _ {A : Type 0} {F : Type 0} {G : A → Type 0} {P U Q V : Of A} (q : Limited S R F G Q V) where
    either_bounded : Limited S R F G P U → F → (ts : List Token) (a : A) → either_texts P Q ts a → G a × Each S ts
    either_bounded p f ts a (inl w) = p.bounded f ts a w
    either_bounded p f ts a (inr w) = q.bounded f ts a w

    either_covered : Limited S R F G P U → (ts : List Token) (a : A) → either_texts U V ts a → G a → Each R ts → F × either_texts P Q ts a
    either_covered p ts a (inl w) g h = let i = p.covered ts a w g h in (i.0, inl i.1)
    either_covered p ts a (inr w) g h = let i = q.covered ts a w g h in (i.0, inr i.1)

    pub either_limited : Limited S R F G P U → Limited S R F G (either_texts P Q) (either_texts U V)
    either_limited p = record { bounded = either_bounded p; covered = either_covered p }

    pub room_limited : (b : Bool) → (b ≡ true → Limited S R F G P U) → ((ts : List Token) (a : A) → U ts a → G a → b ≡ true) → Limited S R F G (room_texts b P Q) (either_texts U V)
    room_limited true p deep = either_limited (p refl)
    room_limited false p deep = record { bounded = q.bounded; covered = no_room q (λ ts a w g. let e : false ≡ true = deep ts a w g in cc) }

  -- chains
  module _ {A B : Type 0} {guard : A → Bool} {join : A → Token → B → A} {N H : A → Type 0} {K : B → Type 0} (j : Joins guard join N H K)
      {P U : A → List Token → Token × B → Type 0} (step : (l : A) → guard l ≡ true → Limited S R (Unit {0}) (λ (x : Token × B). K x.1) (P l) (U l)) where
    all_bounded : (l : A) (xs : List (Token × B)) (ts : List Token) (a : A) → N l → H l → all_repeats guard join P l xs ts a → H a × Each S ts
    all_bounded l [] ts a n h w = (subst H (sym w.1) h, subst (Each S) (sym w.0) tt)
    all_bounded l (x ∷ xs) ts a n h w =
        let p = (step l w.0).bounded tt w.1 x w.4 in
        let q = all_bounded (step_to join l x) xs w.2 a (j.keep l x.0 x.1 n) (j.grow l x.0 x.1 n w.0 h p.0) w.5 in
        (q.0, joined S ts w.1 w.2 w.3 p.1 q.1)

    all_covered : (l : A) (xs : List (Token × B)) (ts : List Token) (a : A) → N l → all_repeats always join U l xs ts a → H a → Each R ts → H l × all_repeats guard join P l xs ts a
    all_covered l [] ts a n w g h = (subst H w.1 g, w)
    all_covered l (x ∷ xs) ts a n w g h =
        let s = parted R ts w.1 w.2 w.3 h in
        let q = all_covered (step_to join l x) xs w.2 a (j.keep l x.0 x.1 n) w.5 g s.1 in
        let b = j.back l x.0 x.1 n q.0 in
        let p = (step l b.0).covered w.1 x w.4 b.2 s.0 in
        (b.1, (b.0, w.1, w.2, w.3, p.1, q.1))

    repeats_limited : (l : A) → N l → Limited S R (H l) H (repeats_texts guard join P l) (repeats_texts always join U l)
    repeats_limited l n = record {
      bounded = λ h ts a w. all_bounded l w.0 ts a n h w.1;
      covered = λ ts a w g h. let p = all_covered l w.0 ts a n w.1 g h in (p.0, (w.0, p.1));
    }

    pub chain_limited : {C : Type 0} {Q V : Of C} (first : C → A) → ((c : C) → N (first c)) → Limited S R (Unit {0}) (λ c. H (first c)) Q V →
        Limited S R (Unit {0}) H (value_texts second_of (follow_texts Q (λ c. repeats_texts guard join P (first c)))) (value_texts second_of (follow_texts V (λ c. repeats_texts always join U (first c))))
    chain_limited first n q = value_limited {G = H} second_of (follow_limited q (λ c. repeats_limited (first c) (n c)))
