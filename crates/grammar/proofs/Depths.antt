-- Texts within a depth: each combinator keeps that they grow with the depth, and that a relation is
-- the union over all depths. So a rule that recurs has one relation without limits: where U is
-- `AtSome` of a growing family whose next member is built from the one before, the same combinators
-- over U give U again (`same_union`), and `said` takes it from there.
use Rattle.std.proofs.Common.{ℕ, zero, suc, ◌+◌, ◌-◌, ◌≤◌, Bool, List, [], ◌∷◌, inl, inr, arith, subst}
use Rattle.grammar.specs.Reading.{follow_texts, both_texts, value_texts, either_texts}
use Rattle.grammar.specs.Repeats.{all_repeats, repeats_texts, many_texts, step_to}
use Rattle.grammar.specs.Depths.{AtSome}

-- Each text of P is one of Q.
abbrev pub Inside : {T A : Type 0} → (P Q : List T → A → Type 0) → Type 0
Inside {T} {A} P Q = (ts : List T) (a : A) → P ts a → Q ts a

-- The texts of a larger number are more.
abbrev pub Grows : {T A : Type 0} → (ℕ → List T → A → Type 0) → Type 0
Grows P = (m k : ℕ) → m ≤ k → Inside (P m) (P k)

-- P is the union of a family that grows.
pub record Union {T A : Type 0} (G : ℕ → List T → A → Type 0) (P : List T → A → Type 0) : Type 0 where
  pub grows : Grows G
  pub to : Inside P (AtSome G)
  pub from : Inside (AtSome G) P

-- Two unions of one family have the same texts.
pub same_union : {T A : Type 0} {G : ℕ → List T → A → Type 0} {P Q : List T → A → Type 0} → Union G P → Union G Q → Inside P Q
same_union u v ts a w = v.from ts a (u.to ts a w)

-- A family grows if each member is inside the next.
module _ {T A : Type 0} (G : ℕ → List T → A → Type 0) (step : (n : ℕ) → Inside (G n) (G (suc n))) where
  up : (m d : ℕ) → Inside (G m) (G (d + m))
  up m zero ts a w = subst (λ n. G n ts a) (omega arith) w
  up m (suc d) ts a w = subst (λ n. G n ts a) (omega arith) (step (d + m) ts a (up m d ts a w))

  pub grows_by : Grows G
  grows_by m k h ts a w = subst (λ n. G n ts a) (omega (arith, h)) (up m (k - m) ts a w)

-- What stays the same at all depths.
pub fixed : {T A : Type 0} (P : List T → A → Type 0) → Union (λ _. P) P
fixed P = record { grows = λ m k h ts a w. w; to = λ ts a w. (0, w); from = λ ts a w. w.1 }

-- The rules one depth below, and those at this depth.
pub below : {T A : Type 0} {G : ℕ → List T → A → Type 0} → Grows G → Union G (AtSome G)
below g = record { grows = g; to = λ ts a w. w; from = λ ts a w. w }

pub here : {T A : Type 0} {G : ℕ → List T → A → Type 0} → Grows G → Union (λ n. G (suc n)) (AtSome G)
here g = record {
  grows = λ m k h ts a w. g (suc m) (suc k) (omega (arith, h)) ts a w;
  to = λ ts a w. (w.0, g w.0 (suc w.0) (omega arith) ts a w.1);
  from = λ ts a w. (suc w.0, w.1);
}

-- one text after another
pub follow_inside : {T A B : Type 0} {P P' : List T → A → Type 0} {Q Q' : A → List T → B → Type 0} → Inside P P' → ((a : A) → Inside (Q a) (Q' a)) → Inside (follow_texts P Q) (follow_texts P' Q')
follow_inside i j ts ab w = (w.0, w.1, w.2, i w.0 ab.0 w.3, j ab.0 w.1 ab.1 w.4)

pub follow_union : {T A B : Type 0} {G : ℕ → List T → A → Type 0} {P : List T → A → Type 0} {H : ℕ → A → List T → B → Type 0} {Q : A → List T → B → Type 0} → Union G P → ((a : A) → Union (λ n. H n a) (Q a)) → Union (λ n. follow_texts (G n) (H n)) (follow_texts P Q)
follow_union {G = G} {H = H} u v = record {
  grows = λ m k h. follow_inside (u.grows m k h) (λ a. (v a).grows m k h);
  to = λ ts ab w.
      let p = u.to w.0 ab.0 w.3 in
      let q = (v ab.0).to w.1 ab.1 w.4 in
      (p.0 + q.0, (w.0, w.1, w.2, u.grows p.0 (p.0 + q.0) (omega arith) w.0 ab.0 p.1, (v ab.0).grows q.0 (p.0 + q.0) (omega arith) w.1 ab.1 q.1));
  from = λ ts ab w. (w.1.0, w.1.1, w.1.2, u.from w.1.0 ab.0 (w.0, w.1.3), (v ab.0).from w.1.1 ab.1 (w.0, w.1.4));
}

pub both_inside : {T A B : Type 0} {P P' : List T → A → Type 0} {Q Q' : List T → B → Type 0} → Inside P P' → Inside Q Q' → Inside (both_texts P Q) (both_texts P' Q')
both_inside i j ts ab w = (w.0, w.1, w.2, i w.0 ab.0 w.3, j w.1 ab.1 w.4)

pub both_union : {T A B : Type 0} {G : ℕ → List T → A → Type 0} {P : List T → A → Type 0} {H : ℕ → List T → B → Type 0} {Q : List T → B → Type 0} → Union G P → Union H Q → Union (λ n. both_texts (G n) (H n)) (both_texts P Q)
both_union {G = G} {P = P} {H = H} {Q = Q} u v =
    let f = follow_union {G = G} {P = P} {H = λ n _. H n} {Q = λ _. Q} u (λ _. v) in
    record { grows = f.grows; to = f.to; from = f.from }

-- other values
pub value_inside : {T A B : Type 0} {P P' : List T → A → Type 0} (f : A → B) → Inside P P' → Inside (value_texts f P) (value_texts f P')
value_inside f i ts b w = (w.0, i ts w.0 w.1, w.2)

pub value_union : {T A B : Type 0} {G : ℕ → List T → A → Type 0} {P : List T → A → Type 0} (f : A → B) → Union G P → Union (λ n. value_texts f (G n)) (value_texts f P)
value_union f u = record {
  grows = λ m k h. value_inside f (u.grows m k h);
  to = λ ts b w. let p = u.to ts w.0 w.1 in (p.0, (w.0, p.1, w.2));
  from = λ ts b w. (w.1.0, u.from ts w.1.0 (w.0, w.1.1), w.1.2);
}

-- one of two
pub either_inside : {T A : Type 0} {P P' Q Q' : List T → A → Type 0} → Inside P P' → Inside Q Q' → Inside (either_texts P Q) (either_texts P' Q')
either_inside i j ts a (inl w) = inl (i ts a w)
either_inside i j ts a (inr w) = inr (j ts a w)

module _ {T A : Type 0} {G : ℕ → List T → A → Type 0} {P : List T → A → Type 0} {H : ℕ → List T → A → Type 0} {Q : List T → A → Type 0} (u : Union G P) (v : Union H Q) where
  either_to : Inside (either_texts P Q) (AtSome (λ n. either_texts (G n) (H n)))
  either_to ts a (inl w) = let p = u.to ts a w in (p.0, inl p.1)
  either_to ts a (inr w) = let p = v.to ts a w in (p.0, inr p.1)

  either_from : (n : ℕ) → Inside (either_texts (G n) (H n)) (either_texts P Q)
  either_from n ts a (inl w) = inl (u.from ts a (n, w))
  either_from n ts a (inr w) = inr (v.from ts a (n, w))

  pub either_union : Union (λ n. either_texts (G n) (H n)) (either_texts P Q)
  either_union = record {
    grows = λ m k h. either_inside (u.grows m k h) (v.grows m k h);
    to = either_to;
    from = λ ts a w. either_from w.0 ts a w.1;
  }

-- repeats
module _ {T A B : Type 0} (guard : A → Bool) (join : A → T → B → A) where
  all_inside : (P Q : A → List T → T × B → Type 0) → ((a : A) → Inside (P a) (Q a)) → (l : A) (xs : List (T × B)) → Inside (all_repeats guard join P l xs) (all_repeats guard join Q l xs)
  all_inside P Q i l [] ts a w = w
  all_inside P Q i l (x ∷ xs) ts a w = (w.0, w.1, w.2, w.3, i l w.1 x w.4, all_inside P Q i (step_to join l x) xs w.2 a w.5)

  pub repeats_inside : {P Q : A → List T → T × B → Type 0} → ((a : A) → Inside (P a) (Q a)) → (l : A) → Inside (repeats_texts guard join P l) (repeats_texts guard join Q l)
  repeats_inside {P = P} {Q = Q} i l ts a w = (w.0, all_inside P Q i l w.0 ts a w.1)

  module _ (G : ℕ → A → List T → T × B → Type 0) (P : A → List T → T × B → Type 0) (u : (a : A) → Union (λ n. G n a) (P a)) where
    all_grows : (l : A) (xs : List (T × B)) (m k : ℕ) → m ≤ k → Inside (all_repeats guard join (G m) l xs) (all_repeats guard join (G k) l xs)
    all_grows l xs m k h = all_inside (G m) (G k) (λ a. (u a).grows m k h) l xs

    all_to : (l : A) (xs : List (T × B)) (ts : List T) (a : A) → all_repeats guard join P l xs ts a → (n : ℕ) × all_repeats guard join (G n) l xs ts a
    all_to l [] ts a w = (0, w)
    all_to l (x ∷ xs) ts a w =
        let p = (u l).to w.1 x w.4 in
        let q = all_to (step_to join l x) xs w.2 a w.5 in
        (p.0 + q.0, (w.0, w.1, w.2, w.3, (u l).grows p.0 (p.0 + q.0) (omega arith) w.1 x p.1, all_grows (step_to join l x) xs q.0 (p.0 + q.0) (omega arith) w.2 a q.1))

    pub repeats_union : (l : A) → Union (λ n. repeats_texts guard join (G n) l) (repeats_texts guard join P l)
    repeats_union l = record {
      grows = λ m k h ts a w. (w.0, all_grows l w.0 m k h ts a w.1);
      to = λ ts a w. let p = all_to l w.0 ts a w.1 in (p.0, (w.0, p.1));
      from = λ ts a w. (w.1.0, all_inside (G w.0) P (λ a ts x v. (u a).from ts x (w.0, v)) l w.1.0 ts a w.1.1);
    }

-- any number
module _ {T A : Type 0} where
  pub many_inside : (P Q : List T → A → Type 0) → Inside P Q → (xs : List A) (ts : List T) → many_texts P xs ts → many_texts Q xs ts
  many_inside P Q i [] ts w = w
  many_inside P Q i (x ∷ xs) ts w = (w.0, w.1, w.2, i w.0 x w.3, many_inside P Q i xs w.1 w.4)

  module _ (G : ℕ → List T → A → Type 0) (P : List T → A → Type 0) (u : Union G P) where
    many_to : (xs : List A) (ts : List T) → many_texts P xs ts → (n : ℕ) × many_texts (G n) xs ts
    many_to [] ts w = (0, w)
    many_to (x ∷ xs) ts w =
        let p = u.to w.0 x w.3 in
        let q = many_to xs w.1 w.4 in
        (p.0 + q.0, (w.0, w.1, w.2, u.grows p.0 (p.0 + q.0) (omega arith) w.0 x p.1, many_inside (G q.0) (G (p.0 + q.0)) (u.grows q.0 (p.0 + q.0) (omega arith)) xs w.1 q.1))

    pub many_union : Union (λ n ts xs. many_texts (G n) xs ts) (λ ts xs. many_texts P xs ts)
    many_union = record {
      grows = λ m k h ts xs w. many_inside (G m) (G k) (u.grows m k h) xs ts w;
      to = λ ts xs w. many_to xs ts w;
      from = λ ts xs w. many_inside (G w.0) P (λ ts x v. u.from ts x (w.0, v)) xs ts w.1;
    }
