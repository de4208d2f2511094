-- With each token of a class some text begins.
use Rattle.std.proofs.Common.{◌≡◌, Bool, true, false, ◌||◌, List, [], ◌∷◌, ◌++◌, inl, inr, refl}
use Rattle.grammar.specs.Reading.{Class, one_texts, both_texts, value_texts, either_texts}
use Rattle.sql_tokens.specs.declared.token.Token.{Token}

abbrev Of : Type 0 → Type 1
Of A = List Token → A → Type 0

pub record Starts {A : Type 0} (P : Of A) (c : Class Token) : Type 0 where
  pub text : (t : Token) → c t ≡ true → (more : List Token) × (x : A) × P (t ∷ more) x

pub starts_value : {A B : Type 0} {P : Of A} {c : Class Token} (f : A → B) → Starts P c → Starts (value_texts f P) c
starts_value f s = record { text = λ t h. let w = s.text t h in (w.0, f w.1, (w.1, w.2, refl)) }

pub starts_either : {A : Type 0} {P Q : Of A} {c d : Class Token} → Starts P c → Starts Q d → Starts (either_texts P Q) (λ t. c t || d t)
starts_either {A} {P = P} {Q = Q} {c = c} {d = d} s s' = record { text = λ t h. go t (c t) refl h }
  where
    right_of : (u v : Bool) → u ≡ false → (u || v) ≡ true → v ≡ true
    right_of true v e h = cc
    right_of false v e h = h

    go : (t : Token) (b : Bool) → c t ≡ b → (c t || d t) ≡ true → (more : List Token) × (x : A) × either_texts P Q (t ∷ more) x
    go t true e h = let w = s.text t e in (w.0, w.1, inl w.2)
    go t false e h = let w = s'.text t (right_of (c t) (d t) e h) in (w.0, w.1, inr w.2)

-- a text of the second is there
pub starts_both : {A B : Type 0} {P : Of A} (Q : Of B) {c : Class Token} (y : List Token) (b : B) → Q y b → Starts P c → Starts (both_texts P Q) c
starts_both Q y b q s = record { text = λ t h. let w = s.text t h in (w.0 ++ y, (w.1, b), (t ∷ w.0, y, refl, w.2, q)) }

pub starts_one : (c : Class Token) → Starts (one_texts c) c
starts_one c = record { text = λ t h. ([], t, (refl, h)) }

-- behind any token of the class, a text that is there
pub starts_behind : {A : Type 0} (P : Of A) (c : Class Token) (y : List Token) (b : A) → P y b → Starts (value_texts (λ (x : Token × A). x.1) (both_texts (one_texts c) P)) c
starts_behind P c y b p = record { text = λ t h. (y, b, ((t, b), (t ∷ [], y, refl, (refl, h), p), refl)) }

-- the same, from a text of the whole
pub restart : {A : Type 0} (P : Of A) (c : Class Token) (ts : List Token) (x : A) → value_texts (λ (y : Token × A). y.1) (both_texts (one_texts c) P) ts x → Starts (value_texts (λ (y : Token × A). y.1) (both_texts (one_texts c) P)) c
restart P c ts x w = starts_behind P c w.1.1 w.0.1 w.1.4
