-- What the reader of a rule owes to its texts.
use Rattle.std.proofs.Common.{◌≡◌, ℕ, Bool, true, false, ◌&&◌, ◌||◌, List, [], ◌∷◌, ◌++◌, length, Ok, Err, refl, ◌∙◌, ap}
use Rattle.grammar.specs.Reading.{Class, Reading, Stop, syntax_at, limit_at, Rule}

-- no token of the class comes next
abbrev pub Stops : {T : Type 0} → Class T → List T → Type 0
Stops c [] = Unit {0}
Stops c (t ∷ ts) = c t ≡ false

-- the same token comes next, or the end
abbrev pub SameHead : {T : Type 0} → List T → List T → Type 0
SameHead [] more = more ≡ []
SameHead {T} (t ∷ ts) more = (m : List T) × (more ≡ t ∷ m)

-- A value was read: a front is its text, and whatever follows the next token, no other reading is there, even without limits.
pub record Took {T A : Type 0} (P U : List T → A → Type 0) (c : Class T) (ts : List T) (a : A) (rest : List T) : Type 0 where
  pub front : List T
  pub whole : ts ≡ front ++ rest
  pub is : P front a
  pub only : (more x y : List T) (b : A) → SameHead rest more → front ++ more ≡ x ++ y → U x b → Stops c y → (y ≡ more) × (b ≡ a)

-- Nothing was read: the front begins a text of P, and with the next token, or the end, no text of D.
pub record Failed {T A : Type 0} (P D : List T → A → Type 0) (c : Class T) (ts : List T) (left : ℕ) : Type 0 where
  pub front : List T
  pub rest : List T
  pub whole : ts ≡ front ++ rest
  pub left_is : length rest ≡ left
  pub more : List T
  pub value : A
  pub viable : P (front ++ more) value
  pub dead : (more x y : List T) (b : A) → SameHead rest more → front ++ more ≡ x ++ y → D x b → Stops c y → ⊥

-- With the next token too it begins a text of U.
pub record Beyond {T A : Type 0} (U : List T → A → Type 0) (ts : List T) (left : ℕ) : Type 0 where
  pub front : List T
  pub next : T
  pub rest : List T
  pub whole : ts ≡ front ++ next ∷ rest
  pub left_is : length (next ∷ rest) ≡ left
  pub more : List T
  pub value : A
  pub alive : U (front ++ next ∷ more) value

abbrev pub Fails : {T A : Type 0} → (P U : List T → A → Type 0) → Class T → List T → Stop → Type 0
Fails P U c ts (syntax_at n) = Failed P U c ts n
Fails P U c ts (limit_at n) = Failed P P c ts n × Beyond U ts n

abbrev pub Reads : {T A : Type 0} → (P U : List T → A → Type 0) → Class T → List T → Reading T A → Type 0
Reads P U c ts (Ok x) = Took P U c ts x.0 x.1
Reads P U c ts (Err s) = Fails P U c ts s

pub record Shape {T A : Type 0} (P U : List T → A → Type 0) (f : Class T) (n : Bool) : Type 0 where
  pub begins : (t : T) (x : List T) (a : A) → U (t ∷ x) a → f t ≡ true
  pub empty : (a : A) → U [] a → n ≡ true
  pub within : (x : List T) (a : A) → P x a → U x a
  pub text : List T
  pub value : A
  pub sample : P text value

pub record Law {T A : Type 0} (p : Rule T A) (f : Class T) (n : Bool) (c : Class T) : Type 0 where
  pub shape : Shape p.texts p.free f n
  pub reads : (ts : List T) → Reads p.texts p.free c ts (p.read ts)

-- within the limits alone
pub took_within : {T A : Type 0} (P U : List T → A → Type 0) (c : Class T) (ts : List T) (a : A) (rest : List T) → ((x : List T) (b : A) → P x b → U x b) → Took P U c ts a rest → Took P P c ts a rest
took_within P U c ts a rest i h = record { front = h.front; whole = h.whole; is = h.is; only = λ more x y b same e w s. h.only more x y b same e (i x b w) s }

pub shape_within : {T A : Type 0} (P U : List T → A → Type 0) (f : Class T) (n : Bool) → Shape P U f n → Shape P P f n
shape_within P U f n h = record { begins = λ t x a w. h.begins t x a (h.within (t ∷ x) a w); empty = λ a w. h.empty a (h.within [] a w); within = λ x a w. w; text = h.text; value = h.value; sample = h.sample }

abbrev pub Disjoint : {T : Type 0} → Class T → Class T → Type 0
Disjoint {T} f c = (k : T) → f k ≡ true → c k ≡ false

abbrev pub or_if : {T : Type 0} → Bool → Class T → Class T → Class T
or_if n f g k = f k || (n && g k)

pub or_false_left : (a b : Bool) → (a || b) ≡ false → a ≡ false
or_false_left true b h = cc
or_false_left false b h = refl

pub or_false_right : (a b : Bool) → (a || b) ≡ false → b ≡ false
or_false_right true b h = cc
or_false_right false b h = h

pub or_true_left : (a b : Bool) → a ≡ true → (a || b) ≡ true
or_true_left true b h = refl
or_true_left false b h = cc

pub or_true_right : (a b : Bool) → b ≡ true → (a || b) ≡ true
or_true_right true b h = refl
or_true_right false b h = h

pub and_true : (a b : Bool) → a ≡ true → b ≡ true → (a && b) ≡ true
and_true true b h k = k
and_true false b h k = cc

pub head_eq : {T : Type 0} {t u : T} {x y : List T} → t ∷ x ≡ u ∷ y → t ≡ u
head_eq h = cc

pub tail_eq : {T : Type 0} {t u : T} {x y : List T} → t ∷ x ≡ u ∷ y → x ≡ y
tail_eq h = cc

pub same_head : {T : Type 0} (front rest more : List T) → SameHead rest more → SameHead (front ++ rest) (front ++ more)
same_head [] rest more h = h
same_head (t ∷ front) rest more h = (front ++ more, refl)

pub stops_left : {T : Type 0} (c c' : Class T) (y : List T) → Stops (λ k. c k || c' k) y → Stops c y
stops_left c c' [] h = tt
stops_left c c' (t ∷ y) h = or_false_left (c t) (c' t) h

pub stops_right : {T : Type 0} (c c' : Class T) (y : List T) → Stops (λ k. c k || c' k) y → Stops c' y
stops_right c c' [] h = tt
stops_right c c' (t ∷ y) h = or_false_right (c t) (c' t) h

pub stops_if : {T : Type 0} (n : Bool) (c : Class T) (y : List T) → n ≡ true → Stops (λ k. n && c k) y → Stops c y
stops_if true c y e h = h
stops_if false c y e h = cc

pub pair_eq : {A B : Type 0} (u v : A × B) → u.0 ≡ v.0 → u.1 ≡ v.1 → u ≡ v
pair_eq {A} {B} u v e e' = ap (λ (z : A). let w : A × B = (z, u.1) in w) e ∙ ap (λ (z : B). let w : A × B = (v.0, z) in w) e'

-- larger classes
abbrev pub Within : {T : Type 0} → Class T → Class T → Type 0
Within {T} c c' = (k : T) → c k ≡ true → c' k ≡ true

pub stops_within : {T : Type 0} (c c' : Class T) → Within c c' → (y : List T) → Stops c' y → Stops c y
stops_within c c' w [] h = tt
stops_within c c' w (t ∷ y) h = go (c t) refl
  where
    go : (b : Bool) → c t ≡ b → c t ≡ false
    go true e = let g : c' t ≡ true = w t e in cc
    go false e = e
