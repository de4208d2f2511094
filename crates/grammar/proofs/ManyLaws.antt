-- Any number of texts keep the law.
use Rattle.std.proofs.Common.{◌≡◌, ℕ, zero, suc, ◌≤◌, Bool, true, false, ◌||◌, List, [], ◌∷◌, ◌++◌, length, Ok, Err, cond, inl, inr, refl, sym, ap, subst, arith, length-append}
use Rattle.grammar.specs.Reading.{Class, Reading, given, Rule, ◌>>=◌, begins_in, nothing, nothing_texts, follow_texts, value_texts, either_texts}
use Rattle.grammar.specs.Repeats.{many, many_texts, read_many}
use Rattle.grammar.proofs.Laws.{Took, Reads, Shape, Law, Disjoint, Within, or_if, head_eq}
use Rattle.grammar.proofs.Single.{nothing_law, value_reads, wide_reads, same_reads}
use Rattle.grammar.proofs.Follow.{follow_second, follow_fails, follow_shape}
use Rattle.grammar.proofs.Either.{either_goes_on, first_reads, second_reads}

-- the first and the others of a list
abbrev cons_of : {A : Type 0} → A × List A → List A
cons_of x = x.0 ∷ x.1

module _ {T A : Type 0} (f : Class T) (p : Rule T A) (c : Class T) (lp : Law p f false c) (d : Disjoint f c) where
  abbrev goes_on : Class T
  goes_on k = c k || f k

  abbrev R : List T → List A → Type 0
  R ts xs = many_texts p.texts xs ts

  abbrev V : List T → List A → Type 0
  V ts xs = many_texts p.free xs ts

  many_begins : (t : T) (x : List T) (xs : List A) → V (t ∷ x) xs → f t ≡ true
  many_begins t x [] w = cc w
  many_begins t x (a ∷ xs) w = go w.0 w.1 w.2 w.3
    where
      go : (u v : List T) → t ∷ x ≡ u ++ v → p.free u a → f t ≡ true
      go [] v e h = let g = lp.shape.empty a h in cc
      go (k ∷ u) v e h = subst (λ (z : T). f z ≡ true) (sym (head_eq e)) (lp.shape.begins k u a h)

  many_within : (xs : List A) (x : List T) → R x xs → V x xs
  many_within [] x w = w
  many_within (a ∷ xs) x w = (w.0, w.1, w.2, lp.shape.within w.0 a w.3, many_within xs w.1 w.4)

  many_shape : Shape R V f true
  many_shape = record { begins = many_begins; empty = λ a w. refl; within = λ x xs w. many_within xs x w; text = []; value = []; sample = refl }

  abbrev nil : List T → List A → Type 0
  nil = nothing_texts []

  nil_law : Law (nothing {T = T} {A = List A} []) (λ _. false) true (λ _. false)
  nil_law = nothing_law []

  abbrev stepP : List T → List A → Type 0
  stepP = value_texts cons_of (follow_texts p.texts (λ _. R))

  abbrev stepV : List T → List A → Type 0
  stepV = value_texts cons_of (follow_texts p.free (λ _. V))

  step_shape : Shape stepP stepV f false
  step_shape =
      let s = follow_shape p.texts p.free (λ _. R) (λ _. V) f false f true lp.shape (λ _. many_shape) in
      record {
        begins = λ t x b w. many_begins t x (w.0.0 ∷ w.0.1) w.1;
        empty = λ b w. s.empty w.0 w.1;
        within = λ x b w. (w.0, s.within x w.0 w.1, w.2);
        text = s.text;
        value = s.value.0 ∷ s.value.1;
        sample = (s.value, s.sample, refl);
      }

  to_many : (ts : List T) (a : List A) → either_texts stepP nil ts a → R ts a
  to_many ts a (inl w) = subst (λ z. many_texts p.texts z ts) (sym w.2) w.1
  to_many ts a (inr w) = subst (λ z. many_texts p.texts z ts) (sym w.1) w.0

  from_many : (ts : List T) (a : List A) → R ts a → either_texts stepP nil ts a
  from_many ts [] w = inr (w, refl)
  from_many ts (a ∷ xs) w = inl ((a, xs), w, refl)

  to_free : (ts : List T) (a : List A) → either_texts stepV nil ts a → V ts a
  to_free ts a (inl w) = subst (λ z. many_texts p.free z ts) (sym w.2) w.1
  to_free ts a (inr w) = subst (λ z. many_texts p.free z ts) (sym w.1) w.0

  from_free : (ts : List T) (a : List A) → V ts a → either_texts stepV nil ts a
  from_free ts [] w = inr (w, refl)
  from_free ts (a ∷ xs) w = inl ((a, xs), w, refl)

  narrow : Within (either_goes_on f true (or_if true goes_on c) (λ _. false)) goes_on
  narrow k h = go (c k) (f k) h
    where
      go : (u v : Bool) → (((u || v) || u) || (false || v)) ≡ true → (u || v) ≡ true
      go true v e = refl
      go false true e = refl
      go false false e = e

  shorter : (n : ℕ) (ts : List T) (x : A × List T) → length ts ≤ suc n → Took p.texts p.free c ts x.0 x.1 → length x.1 ≤ n
  shorter n ts x h k = go k.front k.whole k.is
    where
      go : (front : List T) → ts ≡ front ++ x.1 → p.texts front x.0 → length x.1 ≤ n
      go [] e w = let g = lp.shape.empty x.0 (lp.shape.within [] x.0 w) in cc
      go (t ∷ front) e w = omega (arith, h, ap length e, length-append front x.1)

  valued : (ts : List T) (r : Reading T (A × List A)) → Reads (follow_texts p.texts (λ _. R)) (follow_texts p.free (λ _. V)) (or_if true goes_on c) ts r → Reads stepP stepV (or_if true goes_on c) ts (r >>= λ x. given (cons_of x.0) x.1)
  valued ts r h = value_reads cons_of (follow_texts p.texts (λ _. R)) (follow_texts p.free (λ _. V)) (or_if true goes_on c) ts r h

  step_second : (ts : List T) (x : A × List T) (r : Reading T (List A)) → Took p.texts p.free c ts x.0 x.1 → Reads R V goes_on x.1 r → Reads stepP stepV (or_if true goes_on c) ts (r >>= λ xs. given (x.0 ∷ xs.0) xs.1)
  step_second ts x (Ok y) h k = valued ts (Ok ((x.0, y.0), y.1)) (follow_second p.texts p.free (λ _. R) (λ _. V) c f true goes_on lp.shape.within (λ _. many_shape) d ts x (Ok y) h k)
  step_second ts x (Err e) h k = valued ts (Err e) (follow_second p.texts p.free (λ _. R) (λ _. V) c f true goes_on lp.shape.within (λ _. many_shape) d ts x (Err e) h k)

  step_first : (n : ℕ) (ts : List T) (r : Reading T A) → length ts ≤ suc n → ((mid : List T) → length mid ≤ n → Reads R V goes_on mid (read_many f p.read n mid)) → Reads p.texts p.free c ts r →
      Reads stepP stepV (or_if true goes_on c) ts (r >>= λ x. read_many f p.read n x.1 >>= λ xs. given (x.0 ∷ xs.0) xs.1)
  step_first n ts (Ok x) h rec k = step_second ts x (read_many f p.read n x.1) k (rec x.1 (shorter n ts x h k))
  step_first n ts (Err e) h rec k = valued ts (Err e) (follow_fails p.texts p.free (λ _. R) (λ _. V) c f true goes_on lp.shape.within (λ _. many_shape) d ts e k)

  narrowed : (ts : List T) (r : Reading T (List A)) → Reads (either_texts stepP nil) (either_texts stepV nil) (either_goes_on f true (or_if true goes_on c) (λ _. false)) ts r → Reads R V goes_on ts r
  narrowed ts r h = same_reads (either_texts stepP nil) (either_texts stepV nil) R V to_many from_many to_free from_free goes_on ts r
      (wide_reads (either_texts stepP nil) (either_goes_on f true (or_if true goes_on c) (λ _. false)) goes_on narrow (either_texts stepV nil) ts r h)

  done_reads : (ts : List T) → begins_in f ts ≡ false → Reads R V goes_on ts (given [] ts)
  done_reads ts g = narrowed ts (given [] ts)
      (second_reads stepP stepV nil nil f (or_if true goes_on c) (λ _. false) true (λ _. false) step_shape nil_law.shape (λ k e. refl) ts (given [] ts) g (nil_law.reads ts))

  more_reads : (ts : List T) (r : Reading T (List A)) → begins_in f ts ≡ true → Reads stepP stepV (or_if true goes_on c) ts r → Reads R V goes_on ts r
  more_reads ts r g k = narrowed ts r
      (first_reads stepP stepV nil nil f (or_if true goes_on c) (λ _. false) true (λ _. false) step_shape nil_law.shape (λ k e. refl) ts r g k)

  many_choice : (n : ℕ) (ts : List T) (b : Bool) → begins_in f ts ≡ b → length ts ≤ suc n → ((mid : List T) → length mid ≤ n → Reads R V goes_on mid (read_many f p.read n mid)) →
      Reads R V goes_on ts (cond b (p.read ts >>= λ x. read_many f p.read n x.1 >>= λ xs. given (x.0 ∷ xs.0) xs.1) (given [] ts))
  many_choice n ts true g h rec = more_reads ts (p.read ts >>= λ x. read_many f p.read n x.1 >>= λ xs. given (x.0 ∷ xs.0) xs.1) g (step_first n ts (p.read ts) h rec (lp.reads ts))
  many_choice n ts false g h rec = done_reads ts g

  many_at : (n : ℕ) (ts : List T) → length ts ≤ n → Reads R V goes_on ts (read_many f p.read n ts)
  unfolding read_many
  many_at zero [] h = done_reads [] refl
  many_at zero (t ∷ ts) h = absurd (omega arith)
  many_at (suc n) ts h = many_choice n ts (begins_in f ts) refl h (λ mid g. many_at n mid g)

  pub many_law : Law (many f p) f true goes_on
  many_law = record { shape = many_shape; reads = λ ts. many_at (length ts) ts (omega arith) }
