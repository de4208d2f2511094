-- One text after another keeps the law.
use Rattle.std.proofs.Common.{◌≡◌, ℕ, Bool, true, ◌&&◌, List, [], ◌∷◌, ◌++◌, Ok, Err, refl, sym, ◌∙◌, ap, subst, append_assoc}
use Rattle.grammar.specs.Reading.{Class, Reading, Stop, syntax_at, limit_at, Rule, ◌>>=◌, both, follow, follow_texts}
use Rattle.grammar.proofs.Laws.{Stops, SameHead, Took, Failed, Beyond, Fails, Reads, Shape, Law, Disjoint, or_if, took_within, shape_within, or_true_left, or_true_right, and_true, head_eq, same_head, stops_left, stops_right, stops_if, pair_eq}

-- one text after another, which may be other texts for each value of the first
module _ {T A B : Type 0} (P D : List T → A → Type 0) (Q E : A → List T → B → Type 0) (c : Class T) (f' : Class T) (n' : Bool) (c' : Class T) (sq : (a : A) → Shape (Q a) (E a) f' n') (d : Disjoint f' c) where
  stops_follow : (a : A) (x y : List T) (b : B) → E a x b → Stops (or_if n' c' c) y → Stops c (x ++ y)
  stops_follow a [] y b h s = stops_if n' c y ((sq a).empty b h) (stops_right c' (λ k. n' && c k) y s)
  stops_follow a (t ∷ x) y b h s = d t ((sq a).begins t x b h)

  pub follow_err : (ts : List T) (left : ℕ) → Failed P D c ts left → Failed (follow_texts P Q) (follow_texts D E) (or_if n' c' c) ts left
  follow_err ts left h = record {
    front = h.front;
    rest = h.rest;
    whole = h.whole;
    left_is = h.left_is;
    more = h.more ++ (sq h.value).text;
    value = (h.value, (sq h.value).value);
    viable = (h.front ++ h.more, (sq h.value).text, sym (append_assoc h.front h.more (sq h.value).text), h.viable, (sq h.value).sample);
    dead = λ more x y b same e w s.
        h.dead more w.0 (w.1 ++ y) b.0 same (e ∙ ap (λ z. z ++ y) w.2 ∙ append_assoc w.0 w.1 y) w.3
        (stops_follow b.0 w.1 y b.1 w.4 s);
  }

  follow_ok_err : (ts : List T) (a : A) (mid : List T) (left : ℕ) → Took P D c ts a mid → Failed (Q a) (E a) c' mid left → Failed (follow_texts P Q) (follow_texts D E) (or_if n' c' c) ts left
  follow_ok_err ts a mid left h k = record {
    front = h.front ++ k.front;
    rest = k.rest;
    whole = h.whole ∙ ap (λ z. h.front ++ z) k.whole ∙ sym (append_assoc h.front k.front k.rest);
    left_is = k.left_is;
    more = k.more;
    value = (a, k.value);
    viable = (h.front, k.front ++ k.more, append_assoc h.front k.front k.more, h.is, k.viable);
    dead = λ more x y b same e w s.
        let e' = sym (append_assoc h.front k.front more) ∙ e ∙ ap (λ z. z ++ y) w.2 ∙ append_assoc w.0 w.1 y in
        let same' : SameHead mid (k.front ++ more) = subst (λ z. SameHead z (k.front ++ more)) (sym k.whole) (same_head k.front k.rest more same) in
        let o = h.only (k.front ++ more) w.0 (w.1 ++ y) b.0 same' e' w.3 (stops_follow b.0 w.1 y b.1 w.4 s) in
        k.dead more w.1 y b.1 same (sym o.0) (subst (λ z. E z w.1 b.1) o.1 w.4) (stops_left c' (λ k. n' && c k) y s);
  }

  follow_ok : (ts : List T) (a : A) (mid : List T) (b : B) (rest : List T) → Took P D c ts a mid → Took (Q a) (E a) c' mid b rest → Took (follow_texts P Q) (follow_texts D E) (or_if n' c' c) ts (a, b) rest
  follow_ok ts a mid b rest h k = record {
    front = h.front ++ k.front;
    whole = h.whole ∙ ap (λ z. h.front ++ z) k.whole ∙ sym (append_assoc h.front k.front rest);
    is = (h.front, k.front, refl, h.is, k.is);
    only = λ more x y v same e w s.
        let e' = sym (append_assoc h.front k.front more) ∙ e ∙ ap (λ z. z ++ y) w.2 ∙ append_assoc w.0 w.1 y in
        let same' : SameHead mid (k.front ++ more) = subst (λ z. SameHead z (k.front ++ more)) (sym k.whole) (same_head k.front rest more same) in
        let o = h.only (k.front ++ more) w.0 (w.1 ++ y) v.0 same' e' w.3 (stops_follow v.0 w.1 y v.1 w.4 s) in
        let o' = k.only more w.1 y v.1 same (sym o.0) (subst (λ z. E z w.1 v.1) o.1 w.4) (stops_left c' (λ k. n' && c k) y s) in
        (o'.0, pair_eq v (a, b) o.1 o'.1);
  }

  follow_beyond : (ts : List T) (left : ℕ) → Beyond D ts left → Beyond (follow_texts D E) ts left
  follow_beyond ts left h = record {
    front = h.front;
    next = h.next;
    rest = h.rest;
    whole = h.whole;
    left_is = h.left_is;
    more = h.more ++ (sq h.value).text;
    value = (h.value, (sq h.value).value);
    alive = (h.front ++ h.next ∷ h.more, (sq h.value).text, sym (append_assoc h.front (h.next ∷ h.more) (sq h.value).text), h.alive, (sq h.value).within (sq h.value).text (sq h.value).value (sq h.value).sample);
  }

  follow_ok_beyond : (ts : List T) (a : A) (mid : List T) (left : ℕ) → ((x : List T) (b : A) → P x b → D x b) → Took P D c ts a mid → Beyond (E a) mid left → Beyond (follow_texts D E) ts left
  follow_ok_beyond ts a mid left i h k = record {
    front = h.front ++ k.front;
    next = k.next;
    rest = k.rest;
    whole = h.whole ∙ ap (λ z. h.front ++ z) k.whole ∙ sym (append_assoc h.front k.front (k.next ∷ k.rest));
    left_is = k.left_is;
    more = k.more;
    value = (a, k.value);
    alive = (h.front, k.front ++ k.next ∷ k.more, append_assoc h.front k.front (k.next ∷ k.more), i h.front a h.is, k.alive);
  }

module _ {T A B : Type 0} (P U : List T → A → Type 0) (Q V : A → List T → B → Type 0) (c : Class T) (f' : Class T) (n' : Bool) (c' : Class T) (i : (x : List T) (b : A) → P x b → U x b) (sq : (a : A) → Shape (Q a) (V a) f' n') (d : Disjoint f' c) where
  pub follow_fails : (ts : List T) (s : Stop) → Fails P U c ts s → Fails (follow_texts P Q) (follow_texts U V) (or_if n' c' c) ts s
  follow_fails ts (syntax_at n) h = follow_err P U Q V c f' n' c' sq d ts n h
  follow_fails ts (limit_at n) h = (follow_err P P Q Q c f' n' c' (λ a. shape_within (Q a) (V a) f' n' (sq a)) d ts n h.0, follow_beyond P U Q V c f' n' c' sq d ts n h.1)

  pub follow_second : (ts : List T) (x : A × List T) (r : Reading T B) → Took P U c ts x.0 x.1 → Reads (Q x.0) (V x.0) c' x.1 r → Reads (follow_texts P Q) (follow_texts U V) (or_if n' c' c) ts (r >>= λ y. Ok ((x.0, y.0), y.1))
  follow_second ts x (Ok y) h k = follow_ok P U Q V c f' n' c' sq d ts x.0 x.1 y.0 y.1 h k
  follow_second ts x (Err (syntax_at n)) h k = follow_ok_err P U Q V c f' n' c' sq d ts x.0 x.1 n h k
  follow_second ts x (Err (limit_at n)) h k = (
    follow_ok_err P P Q Q c f' n' c' (λ a. shape_within (Q a) (V a) f' n' (sq a)) d ts x.0 x.1 n (took_within P U c ts x.0 x.1 i h) k.0,
    follow_ok_beyond P U Q V c f' n' c' sq d ts x.0 x.1 n i h k.1,
  )

module _ {T A B : Type 0} (P U : List T → A → Type 0) (Q V : A → List T → B → Type 0) (f : Class T) (n : Bool) (f' : Class T) (n' : Bool) (sp : Shape P U f n) (sq : (a : A) → Shape (Q a) (V a) f' n') where
  follow_begins : (t : T) (z : List T) (a : A) (b : B) (x y : List T) → t ∷ z ≡ x ++ y → U x a → V a y b → or_if n f f' t ≡ true
  follow_begins t z a b [] y e h k = or_true_right (f t) (n && f' t) (and_true n (f' t) (sp.empty a h) ((sq a).begins t z b (subst (λ w. V a w b) (sym e) k)))
  follow_begins t z a b (u ∷ x) y e h k = or_true_left (f t) (n && f' t) (subst (λ (w : T). f w ≡ true) (sym (head_eq e)) (sp.begins u x a h))

  follow_empty : (a : A) (b : B) (x y : List T) → [] ≡ x ++ y → U x a → V a y b → (n && n') ≡ true
  follow_empty a b [] y e h k = and_true n n' (sp.empty a h) ((sq a).empty b (subst (λ w. V a w b) (sym e) k))
  follow_empty a b (u ∷ x) y e h k = cc

  pub follow_shape : Shape (follow_texts P Q) (follow_texts U V) (or_if n f f') (n && n')
  follow_shape = record {
    begins = λ t x ab w. follow_begins t x ab.0 ab.1 w.0 w.1 w.2 w.3 w.4;
    empty = λ ab w. follow_empty ab.0 ab.1 w.0 w.1 w.2 w.3 w.4;
    within = λ x ab w. (w.0, w.1, w.2, sp.within w.0 ab.0 w.3, (sq ab.0).within w.1 ab.1 w.4);
    text = sp.text ++ (sq sp.value).text;
    value = (sp.value, (sq sp.value).value);
    sample = (sp.text, (sq sp.value).text, refl, sp.sample, (sq sp.value).sample);
  }

module _ {T A B : Type 0} (p : Rule T A) (q : A → Rule T B) (f : Class T) (n : Bool) (c : Class T) (f' : Class T) (n' : Bool) (c' : Class T) (lp : Law p f n c) (lq : (a : A) → Law (q a) f' n' c') (d : Disjoint f' c) where
  follow_first : (ts : List T) (r : Reading T A) → Reads p.texts p.free c ts r → Reads (follow p q).texts (follow p q).free (or_if n' c' c) ts (r >>= λ x. (q x.0).read x.1 >>= λ y. Ok ((x.0, y.0), y.1))
  follow_first ts (Ok x) h = follow_second p.texts p.free (λ a. (q a).texts) (λ a. (q a).free) c f' n' c' lp.shape.within (λ a. (lq a).shape) d ts x ((q x.0).read x.1) h ((lq x.0).reads x.1)
  follow_first ts (Err e) h = follow_fails p.texts p.free (λ a. (q a).texts) (λ a. (q a).free) c f' n' c' lp.shape.within (λ a. (lq a).shape) d ts e h

  pub follow_law : Law (follow p q) (or_if n f f') (n && n') (or_if n' c' c)
  follow_law = record {
    shape = follow_shape p.texts p.free (λ a. (q a).texts) (λ a. (q a).free) f n f' n' lp.shape (λ a. (lq a).shape);
    reads = λ ts. follow_first ts (p.read ts) (lp.reads ts);
  }

pub both_law : {T A B : Type 0} (p : Rule T A) (q : Rule T B) (f : Class T) (n : Bool) (c : Class T) (f' : Class T) (n' : Bool) (c' : Class T) → Law p f n c → Law q f' n' c' → Disjoint f' c → Law (both p q) (or_if n f f') (n && n') (or_if n' c' c)
both_law p q f n c f' n' c' lp lq d = let l = follow_law p (λ _. q) f n c f' n' c' lp (λ _. lq) d in record { shape = l.shape; reads = l.reads }
