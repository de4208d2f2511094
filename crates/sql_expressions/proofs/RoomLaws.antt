-- A rule that stands only where there is room keeps the law.
use Rattle.std.proofs.Common.{◌≡◌, Bool, true, false, ◌&&◌, ◌||◌, List, [], ◌∷◌, ◌++◌, length, Ok, Err, cond, inl, inr, refl, sym, ◌∙◌, subst}
use Rattle.grammar.specs.Reading.{Class, Reading, syntax_at, limit_at, Rule, begins_in, either_texts, barred}
use Rattle.grammar.proofs.Laws.{Stops, SameHead, Fails, Reads, Law, Disjoint, or_true_left, or_true_right, head_eq, same_head, stops_left, stops_right, stops_if}
use Rattle.grammar.proofs.Either.{either_law, either_goes_on}
use Rattle.grammar.proofs.Build.{said, wide}
use Rattle.grammar.proofs.Depths.{Inside}
use Rattle.sql_tokens.specs.declared.token.Token.{Token}
use Rattle.sql_expressions.specs.Levels.{if_room}

-- Every text of u begins in the class c, and each token of c begins one.
pub record Opens {T A : Type 0} (u : List T → A → Type 0) (c : Class T) : Type 0 where
  pub begins : (t : T) (x : List T) (a : A) → u (t ∷ x) a → c t ≡ true
  pub some : (a : A) → u [] a → ⊥
  pub text : (t : T) → c t ≡ true → (more : List T) × (a : A) × u (t ∷ more) a

-- with no room; the other rule may be of an empty text
module _ {T A : Type 0} (c : Class T) (u : List T → A → Type 0) (q : Rule T A) (f : Class T) (n : Bool) (g : Class T) (o : Opens u c) (lq : Law q f n g) (d : Disjoint c f) where
  abbrev goes_on : Class T
  goes_on k = g k || (n && c k)

  -- where no token of c comes, no text of u begins
  not_barred : (ts more x y : List T) (b : A) → begins_in c ts ≡ false → SameHead ts more → more ≡ x ++ y → u x b → ⊥
  not_barred ts more [] y b h same e w = o.some b w
  not_barred [] more (k ∷ x) y b h same e w = let i : [] ≡ k ∷ (x ++ y) = sym same ∙ e in cc
  not_barred (t ∷ ts) more (k ∷ x) y b h same e w =
      let i : c t ≡ true = subst (λ (v : T). c v ≡ true) (sym (head_eq (sym same.1 ∙ e))) (o.begins k x b w) in cc

  -- where one comes, no text of q begins
  no_text : (ts more x y : List T) (b : A) → begins_in c ts ≡ true → SameHead ts more → more ≡ x ++ y → q.texts x b → Stops goes_on y → ⊥
  no_text [] more x y b h same e w s = cc
  no_text (t ∷ ts) more [] y b h same e w s =
      let s' : Stops goes_on (t ∷ same.0) = subst (Stops goes_on) (sym (sym same.1 ∙ e)) s in
      let s'' = stops_if n c (t ∷ same.0) (lq.shape.empty b (lq.shape.within [] b w)) (stops_right g (λ k. n && c k) (t ∷ same.0) s') in cc
  no_text (t ∷ ts) more (k ∷ x) y b h same e w s =
      let i : f t ≡ true = subst (λ (v : T). f v ≡ true) (sym (head_eq (sym same.1 ∙ e))) (lq.shape.begins k x b (lq.shape.within (k ∷ x) b w)) in
      let j = d t h in cc

  barred_limit : (ts : List T) → begins_in c ts ≡ true → Fails q.texts (either_texts u q.free) goes_on ts (limit_at (length ts))
  barred_limit [] h = cc
  barred_limit (t ∷ ts) h =
      let s = o.text t h in (
        record {
          front = [];
          rest = t ∷ ts;
          whole = refl;
          left_is = refl;
          more = lq.shape.text;
          value = lq.shape.value;
          viable = lq.shape.sample;
          dead = λ more x y b same e w s. no_text (t ∷ ts) more x y b h same e w s;
        },
        record { front = []; next = t; rest = ts; whole = refl; left_is = refl; more = s.0; value = s.1; alive = inl s.2 },
      )

  passed : (ts : List T) (r : Reading T A) → begins_in c ts ≡ false → Reads q.texts q.free g ts r → Reads q.texts (either_texts u q.free) goes_on ts r
  passed ts (Ok x) h k = record {
    front = k.front;
    whole = k.whole;
    is = k.is;
    only = λ more z y b same e w s. elim w [
      | inl v ↦ absurd (not_barred ts (k.front ++ more) z y b h (subst (λ o. SameHead o (k.front ++ more)) (sym k.whole) (same_head k.front x.1 more same)) e v)
      | inr v ↦ k.only more z y b same e v (stops_left g (λ k. n && c k) y s)
    ];
  }
  passed ts (Err (syntax_at m)) h k = record {
    front = k.front;
    rest = k.rest;
    whole = k.whole;
    left_is = k.left_is;
    more = k.more;
    value = k.value;
    viable = k.viable;
    dead = λ more z y b same e w s. elim w [
      | inl v ↦ not_barred ts (k.front ++ more) z y b h (subst (λ o. SameHead o (k.front ++ more)) (sym k.whole) (same_head k.front k.rest more same)) e v
      | inr v ↦ k.dead more z y b same e v (stops_left g (λ k. n && c k) y s)
    ];
  }
  passed ts (Err (limit_at m)) h k = (
    record {
      front = k.0.front;
      rest = k.0.rest;
      whole = k.0.whole;
      left_is = k.0.left_is;
      more = k.0.more;
      value = k.0.value;
      viable = k.0.viable;
      dead = λ more z y b same e w s. k.0.dead more z y b same e w (stops_left g (λ k. n && c k) y s);
    },
    record { front = k.1.front; next = k.1.next; rest = k.1.rest; whole = k.1.whole; left_is = k.1.left_is; more = k.1.more; value = k.1.value; alive = inr k.1.alive },
  )

  choice : (ts : List T) (b : Bool) → begins_in c ts ≡ b → Reads q.texts (either_texts u q.free) goes_on ts (cond b (Err (limit_at (length ts))) (q.read ts))
  choice ts true h = barred_limit ts h
  choice ts false h = passed ts (q.read ts) h (lq.reads ts)

  begins : (t : T) (x : List T) (a : A) → either_texts u q.free (t ∷ x) a → (c t || f t) ≡ true
  begins t x a (inl w) = or_true_left (c t) (f t) (o.begins t x a w)
  begins t x a (inr w) = or_true_right (c t) (f t) (lq.shape.begins t x a w)

  empty : (a : A) → either_texts u q.free [] a → n ≡ true
  empty a (inl w) = absurd (o.some a w)
  empty a (inr w) = lq.shape.empty a w

  no_room_law : Law (barred c u q) (λ k. c k || f k) n goes_on
  no_room_law = record {
    shape = record { begins = begins; empty = empty; within = λ x a w. inr (lq.shape.within x a w); text = lq.shape.text; value = lq.shape.value; sample = lq.shape.sample };
    reads = λ ts. choice ts (begins_in c ts) refl;
  }

-- The law of `if_room`. What p must keep, it must keep only where there is room.
module _ {A : Type 0} (c : Class Token) (u : List Token → A → Type 0) (p : Rule Token A) (q : Rule Token A) (f : Class Token) (n : Bool) (g : Class Token) (g' : Class Token) (o : Opens u c) (to : Inside u p.free) (from : Inside p.free u) (lq : Law q f n g') (d : Disjoint c f) where
  free_to : Inside (either_texts p.free q.free) (either_texts u q.free)
  free_to ts a (inl w) = inl (from ts a w)
  free_to ts a (inr w) = inr w

  free_from : Inside (either_texts u q.free) (either_texts p.free q.free)
  free_from ts a (inl w) = inl (to ts a w)
  free_from ts a (inr w) = inr w

  no_more : (k : Token) → (g' k || (n && c k)) ≡ true → either_goes_on c n g g' k ≡ true
  no_more k h = or_true_right (g k) (g' k || (n && c k)) h

  pub if_room_law : (b : Bool) → (b ≡ true → Law p c false g) → Law (if_room b c u p q) (λ k. c k || f k) n (either_goes_on c n g g')
  if_room_law true lp =
      let l = said (either_texts p.texts q.texts) (either_texts u q.free) (λ ts a w. w) (λ ts a w. w) free_to free_from (either_law p q c g f n g' (lp refl) lq d) in
      record { shape = l.shape; reads = l.reads }
  if_room_law false lp =
      let l = wide {f' = λ k. c k || f k} {c' = either_goes_on c n g g'} (no_room_law c u q f n g' o lq d) (λ k h. h) no_more in
      record { shape = l.shape; reads = l.reads }
