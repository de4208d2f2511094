-- Two splits of one list: they are the same, or one front is longer.
use Rattle.std.proofs.Common.{◌≡◌, List, [], ◌∷◌, ◌++◌, refl, sym, ◌∙◌, ap, append_assoc}
use Rattle.grammar.proofs.Laws.{SameHead, head_eq, tail_eq}

pub data Split {T : Type 0} (x y u v : List T) : Type 0 where
  same : x ≡ u → y ≡ v → Split x y u v
  longer : (t : T) (z : List T) → u ≡ x ++ t ∷ z → y ≡ t ∷ (z ++ v) → Split x y u v
  shorter : (t : T) (z : List T) → x ≡ u ++ t ∷ z → v ≡ t ∷ (z ++ y) → Split x y u v

split_cons : {T : Type 0} (s r : T) (x y u v : List T) → s ≡ r → Split x y u v → Split (s ∷ x) y (r ∷ u) v
split_cons s r x y u v e (same p q) = same (cc) q
split_cons s r x y u v e (longer t z p q) = longer t z (cc) q
split_cons s r x y u v e (shorter t z p q) = shorter t z (cc) q

pub split : {T : Type 0} (x y u v : List T) → x ++ y ≡ u ++ v → Split x y u v
split [] y [] v e = same refl e
split [] y (t ∷ u) v e = longer t u refl e
split (t ∷ x) y [] v e = shorter t x refl (sym e)
split (t ∷ x) y (r ∷ u) v e = split_cons t r x y u v (head_eq e) (split x y u v (tail_eq e))

-- the next token alone matters
pub same_self : {T : Type 0} (ts : List T) → SameHead ts ts
same_self [] = refl
same_self (t ∷ ts) = (ts, refl)

pub same_by_head : {T : Type 0} (rest more : List T) (v : T) (z m : List T) → more ≡ v ∷ m → SameHead rest more → SameHead rest (v ∷ z)
same_by_head [] more v z m e h = cc
same_by_head (t ∷ rest) more v z m e h = (z, ap (λ u. u ∷ z) (head_eq (sym e ∙ h.1)))

pub same_behind : {T : Type 0} (rest more : List T) (t : T) (m : List T) → rest ≡ t ∷ m → SameHead rest (t ∷ more)
same_behind [] more t m e = cc
same_behind (u ∷ rest) more t m e = (more, ap (λ v. v ∷ more) (sym (head_eq e)))

pub rest_begins : {T : Type 0} (rest more y : List T) (t : T) → SameHead rest more → more ≡ t ∷ y → (m : List T) × (rest ≡ t ∷ m)
rest_begins [] more y t h e = cc
rest_begins (u ∷ rest) more y t h e = (rest, ap (λ z. z ∷ rest) (head_eq (sym h.1 ∙ e)))

-- one token between two lists
pub append_one : {T : Type 0} (x : List T) (t : T) (y : List T) → (x ++ t ∷ []) ++ y ≡ x ++ t ∷ y
append_one x t y = append_assoc x (t ∷ []) y
