-- A rule whose texts the limits bar keeps the law.
use Rattle.std.proofs.Common.{◌≡◌, Bool, true, false, ◌||◌, List, [], ◌∷◌, ◌++◌, length, Ok, Err, cond, inl, inr, refl, sym, ◌∙◌, subst}
use Rattle.grammar.specs.Reading.{Class, Reading, syntax_at, limit_at, Rule, begins_in, either_texts, barred}
use Rattle.grammar.proofs.Laws.{SameHead, Fails, Reads, Law, Disjoint, or_true_left, or_true_right, head_eq, same_head}

module _ {T A : Type 0} (c : Class T) (u : List T → A → Type 0) (q : Rule T A) (f : Class T) (g : Class T)
    (u_begins : (t : T) (x : List T) (a : A) → u (t ∷ x) a → c t ≡ true) (u_some : (a : A) → u [] a → ⊥)
    (u_text : (t : T) → c t ≡ true → (more : List T) × (a : A) × u (t ∷ more) a)
    (lq : Law q f false g) (d : Disjoint c f) where
  -- where no token of c comes, no text of u begins
  not_barred : (ts more x y : List T) (b : A) → begins_in c ts ≡ false → SameHead ts more → more ≡ x ++ y → u x b → ⊥
  not_barred ts more [] y b h same e w = u_some b w
  not_barred [] more (k ∷ x) y b h same e w = let g : [] ≡ k ∷ (x ++ y) = sym same ∙ e in cc
  not_barred (t ∷ ts) more (k ∷ x) y b h same e w =
      let g : c t ≡ true = subst (λ (v : T). c v ≡ true) (sym (head_eq (sym same.1 ∙ e))) (u_begins k x b w) in cc

  -- where one comes, no text of q begins
  no_text : (ts more x y : List T) (b : A) → begins_in c ts ≡ true → SameHead ts more → more ≡ x ++ y → q.texts x b → ⊥
  no_text ts more [] y b h same e w = let i = lq.shape.empty b (lq.shape.within [] b w) in cc
  no_text [] more (k ∷ x) y b h same e w = cc
  no_text (t ∷ ts) more (k ∷ x) y b h same e w =
      let i : f t ≡ true = subst (λ (v : T). f v ≡ true) (sym (head_eq (sym same.1 ∙ e))) (lq.shape.begins k x b (lq.shape.within (k ∷ x) b w)) in
      let j = d t h in absurd (apart_of t h i)
    where
      apart_of : (k : T) → c k ≡ true → f k ≡ true → ⊥
      apart_of k e e' = let j = d k e in cc

  barred_limit : (ts : List T) → begins_in c ts ≡ true → Fails q.texts (either_texts u q.free) g ts (limit_at (length ts))
  barred_limit [] h = cc
  barred_limit (t ∷ ts) h =
      let s = u_text t h in (
        record {
          front = [];
          rest = t ∷ ts;
          whole = refl;
          left_is = refl;
          more = lq.shape.text;
          value = lq.shape.value;
          viable = lq.shape.sample;
          dead = λ more x y b same e w i. no_text (t ∷ ts) more x y b h same e w;
        },
        record { front = []; next = t; rest = ts; whole = refl; left_is = refl; more = s.0; value = s.1; alive = inl s.2 },
      )

  passed : (ts : List T) (r : Reading T A) → begins_in c ts ≡ false → Reads q.texts q.free g ts r → Reads q.texts (either_texts u q.free) g ts r
  passed ts (Ok x) h k = record {
    front = k.front;
    whole = k.whole;
    is = k.is;
    only = λ more z y b same e w s. elim w [
      | inl v ↦ absurd (not_barred ts (k.front ++ more) z y b h (subst (λ o. SameHead o (k.front ++ more)) (sym k.whole) (same_head k.front x.1 more same)) e v)
      | inr v ↦ k.only more z y b same e v s
    ];
  }
  passed ts (Err (syntax_at n)) h k = record {
    front = k.front;
    rest = k.rest;
    whole = k.whole;
    left_is = k.left_is;
    more = k.more;
    value = k.value;
    viable = k.viable;
    dead = λ more z y b same e w s. elim w [
      | inl v ↦ not_barred ts (k.front ++ more) z y b h (subst (λ o. SameHead o (k.front ++ more)) (sym k.whole) (same_head k.front k.rest more same)) e v
      | inr v ↦ k.dead more z y b same e v s
    ];
  }
  passed ts (Err (limit_at n)) h k = (k.0, record { front = k.1.front; next = k.1.next; rest = k.1.rest; whole = k.1.whole; left_is = k.1.left_is; more = k.1.more; value = k.1.value; alive = inr k.1.alive })

  choice : (ts : List T) (b : Bool) → begins_in c ts ≡ b → Reads q.texts (either_texts u q.free) g ts (cond b (Err (limit_at (length ts))) (q.read ts))
  choice ts true h = barred_limit ts h
  choice ts false h = passed ts (q.read ts) h (lq.reads ts)

  begins : (t : T) (x : List T) (a : A) → either_texts u q.free (t ∷ x) a → (c t || f t) ≡ true
  begins t x a (inl w) = or_true_left (c t) (f t) (u_begins t x a w)
  begins t x a (inr w) = or_true_right (c t) (f t) (lq.shape.begins t x a w)

  empty : (a : A) → either_texts u q.free [] a → false ≡ true
  empty a (inl w) = absurd (u_some a w)
  empty a (inr w) = lq.shape.empty a w

  pub barred_law : Law (barred c u q) (λ k. c k || f k) false g
  barred_law = record {
    shape = record { begins = begins; empty = empty; within = λ x a w. inr (lq.shape.within x a w); text = lq.shape.text; value = lq.shape.value; sample = lq.shape.sample };
    reads = λ ts. choice ts (begins_in c ts) refl;
  }
