-- Repeats keep the law.
use Rattle.std.proofs.Common.{◌≡◌, ℕ, zero, suc, ◌≤◌, Bool, true, false, ◌||◌, List, [], ◌∷◌, ◌++◌, length, Ok, Err, cond, if◌then◌else◌, inl, inr, refl, sym, ◌∙◌, ap, subst, arith, append_assoc, length-append}
use Rattle.std.proofs.lemmas.List.{append-nil}
use Rattle.grammar.specs.Reading.{Class, Reading, limit_at, given, Rule, ◌>>=◌, begins_in, read_one, one, nothing, both, follow_texts, value_texts, either_texts}
use Rattle.grammar.specs.Repeats.{step_to, all_repeats, repeats_texts, always, read_step, read_repeats, repeats}
use Rattle.grammar.proofs.Laws.{Stops, SameHead, Took, Failed, Beyond, Reads, Shape, Law, Disjoint, Within, or_if, head_eq, stops_right}
use Rattle.grammar.proofs.Single.{value_reads, wide_reads, same_reads}
use Rattle.grammar.proofs.Follow.{follow_second, follow_fails, follow_shape}
use Rattle.grammar.proofs.Either.{either_goes_on, first_reads}

-- The reader of repeats, by whole pairs of a sign and a text.
unfoldable pub read_pairs : {T A B : Type 0} → Class T → (A → Bool) → (A → T → B → A) → (A → List T → Reading T (T × B)) → ℕ → A → List T → Reading T A
read_pairs sign guard join p zero l ts = given l ts
read_pairs sign guard join p (suc n) l ts =
    if begins_in sign ts then (if guard l then (p l ts >>= λ x. read_pairs sign guard join p n (step_to join l x.0) x.1) else Err (limit_at (length ts))) else given l ts

-- It reads as the steps do.
module _ {T A B : Type 0} (sign : Class T) (guard : A → Bool) (join : A → T → B → A) (p : A → Rule T B) where
  abbrev by_steps : ℕ → A → List T → Reading T A
  by_steps n l ts = read_repeats sign guard join (λ a. (p a).read) n l ts

  abbrev by_pairs : ℕ → A → List T → Reading T A
  by_pairs n l ts = read_pairs sign guard join (λ a. (both (one sign) (p a)).read) n l ts

  text_read : (n : ℕ) (l : A) (rec : (l : A) (ts : List T) → by_steps n l ts ≡ by_pairs n l ts) (t : T) (r : Reading T B) →
      ((r >>= λ x. given {A = Bool × A} (true, join l t x.0) x.1) >>= λ x. cond x.0.0 (by_steps n x.0.1 x.1) (given x.0.1 x.1))
      ≡ ((r >>= λ y. given {A = T × B} (t, y.0) y.1) >>= λ x. by_pairs n (step_to join l x.0) x.1)
  text_read n l rec t (Ok x) = rec (join l t x.0) x.1
  text_read n l rec t (Err e) = refl

  step_choice : (n : ℕ) (l : A) (ts : List T) (rec : (l : A) (ts : List T) → by_steps n l ts ≡ by_pairs n l ts) (b g : Bool) (r : Reading T T) →
      (cond b (cond g (r >>= λ t. (p l).read t.1 >>= λ x. given {A = Bool × A} (true, join l t.0 x.0) x.1) (Err (limit_at (length ts)))) (given {A = Bool × A} (false, l) ts) >>= λ x. cond x.0.0 (by_steps n x.0.1 x.1) (given x.0.1 x.1))
      ≡ cond b (cond g ((r >>= λ t. (p l).read t.1 >>= λ y. given {A = T × B} (t.0, y.0) y.1) >>= λ x. by_pairs n (step_to join l x.0) x.1) (Err (limit_at (length ts)))) (given l ts)
  step_choice n l ts rec false g r = refl
  step_choice n l ts rec true false r = refl
  step_choice n l ts rec true true (Err e) = refl
  step_choice n l ts rec true true (Ok t) = text_read n l rec t.0 ((p l).read t.1)

  pub repeats_read : (n : ℕ) (l : A) (ts : List T) → by_steps n l ts ≡ by_pairs n l ts
  unfolding read_repeats read_pairs read_step
  repeats_read zero l ts = refl
  repeats_read (suc n) l ts = step_choice n l ts (λ l' ts'. repeats_read n l' ts') (begins_in sign ts) (guard l) (read_one sign ts)

module _ {T A B : Type 0} (sign : Class T) (guard : A → Bool) (join : A → T → B → A) (p : A → Rule T B) (g : Class T) (f : Class T) (n : Bool) (sp : (l : A) → Shape (p l).texts (p l).free f n) (lq : (l : A) → Law (both (one sign) (p l)) sign false g) (d : Disjoint sign g) where
  abbrev goes_on : Class T
  goes_on k = g k || sign k

  abbrev R : A → List T → A → Type 0
  R l = repeats_texts guard join (λ a. (both (one sign) (p a)).texts) l

  abbrev V : A → List T → A → Type 0
  V l = repeats_texts always join (λ a. (both (one sign) (p a)).free) l

  repeats_begin : (l : A) (t : T) (x : List T) (a : A) → V l (t ∷ x) a → sign t ≡ true
  repeats_begin l t x a w = go w.0 w.1
    where
      head : (b : T × B) (u v : List T) → t ∷ x ≡ u ++ v → (both (one sign) (p l)).free u b → sign t ≡ true
      head b [] v e h = let i = (lq l).shape.empty b h in cc
      head b (k ∷ u) v e h = subst (λ (z : T). sign z ≡ true) (sym (head_eq e)) ((lq l).shape.begins k u b h)

      go : (xs : List (T × B)) → all_repeats always join (λ a. (both (one sign) (p a)).free) l xs (t ∷ x) a → sign t ≡ true
      go [] h = cc h.0
      go (b ∷ xs) h = head b h.1 h.2 h.3 h.4

  all_within : (l : A) (xs : List (T × B)) (x : List T) (a : A) → all_repeats guard join (λ a. (both (one sign) (p a)).texts) l xs x a → all_repeats always join (λ a. (both (one sign) (p a)).free) l xs x a
  all_within l [] x a h = h
  all_within l (b ∷ xs) x a h = (refl, h.1, h.2, h.3, (lq l).shape.within h.1 b h.4, all_within (step_to join l b) xs h.2 a h.5)

  repeats_shape : (l : A) → Shape (R l) (V l) sign true
  repeats_shape l = record { begins = repeats_begin l; empty = λ a w. refl; within = λ x a w. (w.0, all_within l w.0 x a w.1); text = []; value = l; sample = ([], (refl, refl)) }

  nil_shape : (l : A) → Shape (nothing {T = T} l).texts (nothing {T = T} l).free (λ _. false) true
  nil_shape l = record { begins = λ t x b w. cc w.0; empty = λ b w. refl; within = λ x a w. w; text = []; value = l; sample = (refl, refl) }

  abbrev stepP : A → List T → A → Type 0
  stepP l = value_texts (λ (z : (T × B) × A). z.1) (follow_texts (both (one sign) (p l)).texts (λ x. R (step_to join l x)))

  abbrev stepV : A → List T → A → Type 0
  stepV l = value_texts (λ (z : (T × B) × A). z.1) (follow_texts (both (one sign) (p l)).free (λ x. V (step_to join l x)))

  step_shape : (l : A) → Shape (stepP l) (stepV l) sign false
  step_shape l =
      let s = follow_shape (both (one sign) (p l)).texts (both (one sign) (p l)).free (λ x. R (step_to join l x)) (λ x. V (step_to join l x)) sign false sign true (lq l).shape (λ x. repeats_shape (step_to join l x)) in
      record {
        begins = λ t x b w. first t x w.0 w.1.0 w.1.1 w.1.2 w.1.3;
        empty = λ b w. s.empty w.0 w.1;
        within = λ x b w. (w.0, s.within x w.0 w.1, w.2);
        text = s.text;
        value = s.value.1;
        sample = (s.value, s.sample, refl);
      }
    where
      first : (t : T) (x : List T) (ab : (T × B) × A) (u v : List T) → t ∷ x ≡ u ++ v → (both (one sign) (p l)).free u ab.0 → sign t ≡ true
      first t x ab [] v e h = let i = (lq l).shape.empty ab.0 h in cc
      first t x ab (k ∷ u) v e h = subst (λ (z : T). sign z ≡ true) (sym (head_eq e)) ((lq l).shape.begins k u ab.0 h)

  to_repeats : (l : A) → guard l ≡ true → (ts : List T) (a : A) → either_texts (stepP l) (nothing {T = T} l).texts ts a → R l ts a
  to_repeats l gl ts a (inl w) = subst (R l ts) (sym w.2) (w.0.0 ∷ w.1.4.0, (gl, w.1.0, w.1.1, w.1.2, w.1.3, w.1.4.1))
  to_repeats l gl ts a (inr w) = ([], (w.0, w.1))

  from_repeats : (l : A) (ts : List T) (a : A) → R l ts a → either_texts (stepP l) (nothing {T = T} l).texts ts a
  from_repeats l ts a w = go w.0 w.1
    where
      go : (xs : List (T × B)) → all_repeats guard join (λ a. (both (one sign) (p a)).texts) l xs ts a → either_texts (stepP l) (nothing {T = T} l).texts ts a
      go [] h = inr (h.0, h.1)
      go (b ∷ xs) h = inl ((b, a), (h.1, h.2, h.3, h.4, (xs, h.5)), refl)

  to_free : (l : A) (ts : List T) (a : A) → either_texts (stepV l) (nothing {T = T} l).free ts a → V l ts a
  to_free l ts a (inl w) = subst (V l ts) (sym w.2) (w.0.0 ∷ w.1.4.0, (refl, w.1.0, w.1.1, w.1.2, w.1.3, w.1.4.1))
  to_free l ts a (inr w) = ([], (w.0, w.1))

  from_free : (l : A) (ts : List T) (a : A) → V l ts a → either_texts (stepV l) (nothing {T = T} l).free ts a
  from_free l ts a w = go w.0 w.1
    where
      go : (xs : List (T × B)) → all_repeats always join (λ a. (both (one sign) (p a)).free) l xs ts a → either_texts (stepV l) (nothing {T = T} l).free ts a
      go [] h = inr (h.0, h.1)
      go (b ∷ xs) h = inl ((b, a), (h.1, h.2, h.3, h.4, (xs, h.5)), refl)

  narrow_all : Within (either_goes_on sign true (or_if true goes_on g) (λ _. false)) goes_on
  narrow_all k h = go (g k) (sign k) h
    where
      go : (u v : Bool) → (((u || v) || u) || (false || v)) ≡ true → (u || v) ≡ true
      go true v e = refl
      go false true e = refl
      go false false e = e

  shorter : (l : A) (n : ℕ) (ts : List T) (x : (T × B) × List T) → length ts ≤ suc n → Took (both (one sign) (p l)).texts (both (one sign) (p l)).free g ts x.0 x.1 → length x.1 ≤ n
  shorter l n ts x h k = go k.front k.whole k.is
    where
      go : (front : List T) → ts ≡ front ++ x.1 → (both (one sign) (p l)).texts front x.0 → length x.1 ≤ n
      go [] e w = let i = (lq l).shape.empty x.0 ((lq l).shape.within [] x.0 w) in cc
      go (t ∷ front) e w = omega (arith, h, ap length e, length-append front x.1)

  valued : (l : A) (ts : List T) (r : Reading T ((T × B) × A)) → Reads (follow_texts (both (one sign) (p l)).texts (λ x. R (step_to join l x))) (follow_texts (both (one sign) (p l)).free (λ x. V (step_to join l x))) (or_if true goes_on g) ts r → Reads (stepP l) (stepV l) (or_if true goes_on g) ts (r >>= λ x. Ok (x.0.1, x.1))
  valued l ts r h = value_reads (λ (z : (T × B) × A). z.1) (follow_texts (both (one sign) (p l)).texts (λ x. R (step_to join l x))) (follow_texts (both (one sign) (p l)).free (λ x. V (step_to join l x))) (or_if true goes_on g) ts r h

  step_second : (l : A) (ts : List T) (x : (T × B) × List T) (r : Reading T A) → Took (both (one sign) (p l)).texts (both (one sign) (p l)).free g ts x.0 x.1 → Reads (R (step_to join l x.0)) (V (step_to join l x.0)) goes_on x.1 r → Reads (stepP l) (stepV l) (or_if true goes_on g) ts r
  step_second l ts x (Ok y) h k = valued l ts (Ok ((x.0, y.0), y.1)) (follow_second (both (one sign) (p l)).texts (both (one sign) (p l)).free (λ x. R (step_to join l x)) (λ x. V (step_to join l x)) g sign true goes_on (lq l).shape.within (λ x. repeats_shape (step_to join l x)) d ts x (Ok y) h k)
  step_second l ts x (Err e) h k = valued l ts (Err e) (follow_second (both (one sign) (p l)).texts (both (one sign) (p l)).free (λ x. R (step_to join l x)) (λ x. V (step_to join l x)) g sign true goes_on (lq l).shape.within (λ x. repeats_shape (step_to join l x)) d ts x (Err e) h k)

  step_first : (n : ℕ) (l : A) (ts : List T) (r : Reading T (T × B)) → length ts ≤ suc n → ((l' : A) (mid : List T) → length mid ≤ n → Reads (R l') (V l') goes_on mid (read_pairs sign guard join (λ a. (both (one sign) (p a)).read) n l' mid)) → Reads (both (one sign) (p l)).texts (both (one sign) (p l)).free g ts r →
      Reads (stepP l) (stepV l) (or_if true goes_on g) ts (r >>= λ x. read_pairs sign guard join (λ a. (both (one sign) (p a)).read) n (step_to join l x.0) x.1)
  step_first n l ts (Ok x) h rec k = step_second l ts x (read_pairs sign guard join (λ a. (both (one sign) (p a)).read) n (step_to join l x.0) x.1) k (rec (step_to join l x.0) x.1 (shorter l n ts x h k))
  step_first n l ts (Err e) h rec k = valued l ts (Err e) (follow_fails (both (one sign) (p l)).texts (both (one sign) (p l)).free (λ x. R (step_to join l x)) (λ x. V (step_to join l x)) g sign true goes_on (lq l).shape.within (λ x. repeats_shape (step_to join l x)) d ts e k)

  more_reads : (l : A) → guard l ≡ true → (ts : List T) (r : Reading T A) → begins_in sign ts ≡ true → Reads (stepP l) (stepV l) (or_if true goes_on g) ts r → Reads (R l) (V l) goes_on ts r
  more_reads l gl ts r b k = same_reads (either_texts (stepP l) (nothing {T = T} l).texts) (either_texts (stepV l) (nothing {T = T} l).free) (R l) (V l) (to_repeats l gl) (from_repeats l) (to_free l) (from_free l) goes_on ts r
      (wide_reads (either_texts (stepP l) (nothing {T = T} l).texts) (either_goes_on sign true (or_if true goes_on g) (λ _. false)) goes_on narrow_all (either_texts (stepV l) (nothing {T = T} l).free) ts r
      (first_reads (stepP l) (stepV l) (nothing {T = T} l).texts (nothing {T = T} l).free sign (or_if true goes_on g) (λ _. false) true (λ _. false) (step_shape l) (nil_shape l) (λ k e. refl) ts r b k))

  not_done : (l : A) (ts more x y : List T) → begins_in sign ts ≡ true → SameHead ts more → more ≡ x ++ y → x ≡ [] → Stops goes_on y → ⊥
  not_done l [] more x y h same e f s = cc
  not_done l (t ∷ ts) more x y h same e f s =
      let s' : Stops goes_on (t ∷ same.0) = subst (Stops goes_on) (sym (sym same.1 ∙ e ∙ ap (λ z. z ++ y) f)) s in
      let s'' = stops_right g sign (t ∷ same.0) s' in cc

  limit_failed : (l : A) (ts : List T) → begins_in sign ts ≡ true → guard l ≡ false → Failed (R l) (R l) goes_on ts (length ts)
  limit_failed l ts b gl = record {
    front = [];
    rest = ts;
    whole = refl;
    left_is = refl;
    more = [];
    value = l;
    viable = ([], (refl, refl));
    dead = λ more x y v same e w s. go more x y v same e w.0 w.1 s;
  }
    where
      go : (more x y : List T) (v : A) → SameHead ts more → more ≡ x ++ y → (xs : List (T × B)) → all_repeats guard join (λ a. (both (one sign) (p a)).texts) l xs x v → Stops goes_on y → ⊥
      go more x y v same e [] h s = not_done l ts more x y b same e h.0 s
      go more x y v same e (z ∷ xs) h s = let i = h.0 in cc

  -- without limits they go on with this very sign
  limit_beyond : (l : A) (ts : List T) → begins_in sign ts ≡ true → Beyond (V l) ts (length ts)
  limit_beyond l [] b = cc
  limit_beyond l (t ∷ ts) b = record {
    front = [];
    next = t;
    rest = ts;
    whole = refl;
    left_is = refl;
    more = (sp l).text;
    value = step_to join l (t, (sp l).value);
    alive = ((t, (sp l).value) ∷ [], (refl, t ∷ (sp l).text, [], sym (append-nil (t ∷ (sp l).text)), (t ∷ [], (sp l).text, refl, (refl, b), (sp l).within (sp l).text (sp l).value (sp l).sample), (refl, refl)));
  }

  done_reads : (l : A) (ts : List T) → begins_in sign ts ≡ false → Took (R l) (V l) goes_on ts l ts
  done_reads l ts b = record {
    front = [];
    whole = refl;
    is = ([], (refl, refl));
    only = λ more x y v same e w s. go more x y v same e w.0 w.1;
  }
    where
      head : (ts' more u v y : List T) (z : T × B) → begins_in sign ts' ≡ false → SameHead ts' more → more ≡ u ++ (v ++ y) → (both (one sign) (p l)).free u z → ⊥
      head ts' more [] v y z h same e w = let i = (lq l).shape.empty z w in cc
      head [] more (k ∷ u) v y z h same e w = let i : [] ≡ k ∷ (u ++ (v ++ y)) = sym same ∙ e in cc
      head (t ∷ ts') more (k ∷ u) v y z h same e w =
          let i : sign t ≡ true = subst (λ (c : T). sign c ≡ true) (sym (head_eq (sym same.1 ∙ e))) ((lq l).shape.begins k u z w) in cc

      go : (more x y : List T) (v : A) → SameHead ts more → more ≡ x ++ y → (xs : List (T × B)) → all_repeats always join (λ a. (both (one sign) (p a)).free) l xs x v → (y ≡ more) × (v ≡ l)
      go more x y v same e [] h = (ap (λ z. z ++ y) (sym h.0) ∙ sym e, h.1)
      go more x y v same e (z ∷ xs) h = absurd (head ts more h.1 h.2 y z b same (e ∙ ap (λ c. c ++ y) h.3 ∙ append_assoc h.1 h.2 y) h.4)

  repeats_choice : (n : ℕ) (l : A) (ts : List T) (b gl : Bool) → begins_in sign ts ≡ b → guard l ≡ gl → length ts ≤ suc n → ((l' : A) (mid : List T) → length mid ≤ n → Reads (R l') (V l') goes_on mid (read_pairs sign guard join (λ a. (both (one sign) (p a)).read) n l' mid)) →
      Reads (R l) (V l) goes_on ts (cond b (cond gl ((both (one sign) (p l)).read ts >>= λ x. read_pairs sign guard join (λ a. (both (one sign) (p a)).read) n (step_to join l x.0) x.1) (Err (limit_at (length ts)))) (given l ts))
  repeats_choice n l ts false gl e f h rec = done_reads l ts e
  repeats_choice n l ts true true e f h rec = more_reads l f ts ((both (one sign) (p l)).read ts >>= λ x. read_pairs sign guard join (λ a. (both (one sign) (p a)).read) n (step_to join l x.0) x.1) e (step_first n l ts ((both (one sign) (p l)).read ts) h rec ((lq l).reads ts))
  repeats_choice n l ts true false e f h rec = (limit_failed l ts e f, limit_beyond l ts e)

  repeats_at : (n : ℕ) (l : A) (ts : List T) → length ts ≤ n → Reads (R l) (V l) goes_on ts (read_pairs sign guard join (λ a. (both (one sign) (p a)).read) n l ts)
  unfolding read_pairs
  repeats_at zero l [] h = done_reads l [] refl
  repeats_at zero l (t ∷ ts) h = absurd (omega arith)
  repeats_at (suc n) l ts h = repeats_choice n l ts (begins_in sign ts) (guard l) refl refl h (λ l' mid i. repeats_at n l' mid i)

  pub repeats_law : (l : A) → Law (repeats sign guard join p l) sign true goes_on
  repeats_law l = record {
    shape = repeats_shape l;
    reads = λ ts. subst (Reads (R l) (V l) goes_on ts) (sym (repeats_read sign guard join p (length ts) l ts)) (repeats_at (length ts) l ts (omega arith));
  }
