-- One of two keeps the law.
use Rattle.std.proofs.Common.{◌≡◌, ℕ, Bool, true, false, ◌&&◌, ◌||◌, List, [], ◌∷◌, ◌++◌, Ok, Err, cond, inl, inr, refl, sym, ◌∙◌, subst}
use Rattle.grammar.specs.Reading.{Class, Reading, syntax_at, limit_at, Rule, begins_in, either, either_texts}
use Rattle.grammar.proofs.Laws.{Stops, SameHead, Took, Failed, Reads, Shape, Law, Disjoint, shape_within, or_true_left, or_true_right, head_eq, same_head, stops_left, stops_right, stops_if}

-- one of two
abbrev pub either_goes_on : {T : Type 0} → Class T → Bool → Class T → Class T → Class T
either_goes_on f n' c c' k = c k || (c' k || (n' && f k))

module _ {T A : Type 0} (P D Q E : List T → A → Type 0) (f : Class T) (c : Class T) (f' : Class T) (n' : Bool) (c' : Class T) (sp : Shape P D f false) (sq : Shape Q E f' n') (d : Disjoint f f') where
  -- where the first begins, the second does not
  not_second : (t : T) (m x y : List T) (b : A) → f t ≡ true → t ∷ m ≡ x ++ y → E x b → Stops (either_goes_on f n' c c') y → ⊥
  not_second t m [] y b h e w s =
      let s' : Stops (either_goes_on f n' c c') (t ∷ m) = subst (Stops (either_goes_on f n' c c')) (sym e) s in
      let s'' = stops_if n' f (t ∷ m) (sq.empty b w) (stops_right c' (λ k. n' && f k) (t ∷ m) (stops_right c (λ k. c' k || (n' && f k)) (t ∷ m) s')) in
      cc
  not_second t m (u ∷ x) y b h e w s =
      let g : f' t ≡ true = subst (λ (v : T). f' v ≡ true) (sym (head_eq e)) (sq.begins u x b w) in
      let g' = d t h in cc

  -- where the first does not begin, it is not there
  not_first : (ts more x y : List T) (b : A) → begins_in f ts ≡ false → SameHead ts more → more ≡ x ++ y → D x b → ⊥
  not_first ts more [] y b h same e w = let g = sp.empty b w in cc
  not_first [] more (u ∷ x) y b h same e w = let g : [] ≡ u ∷ (x ++ y) = sym same ∙ e in cc
  not_first (t ∷ ts) more (u ∷ x) y b h same e w =
      let g : f t ≡ true = subst (λ (v : T). f v ≡ true) (sym (head_eq (sym same.1 ∙ e))) (sp.begins u x b w) in
      cc

  -- the head of what the first reads
  head_of : (ts front rest more : List T) → begins_in f ts ≡ true → ts ≡ front ++ rest → SameHead rest more → (t : T) × (m : List T) × (front ++ more ≡ t ∷ m) × (f t ≡ true)
  head_of [] front rest more h e same = cc
  head_of (t ∷ ts) front rest more h e same =
      let g : SameHead (t ∷ ts) (front ++ more) = subst (λ z. SameHead z (front ++ more)) (sym e) (same_head front rest more same) in
      (t, g.0, g.1, h)

  first_took : (ts : List T) (a : A) (rest : List T) → begins_in f ts ≡ true → Took P D c ts a rest → Took (either_texts P Q) (either_texts D E) (either_goes_on f n' c c') ts a rest
  first_took ts a rest g h = record {
    front = h.front;
    whole = h.whole;
    is = inl h.is;
    only = λ more z y b same e w s. elim w [
      | inl u ↦ h.only more z y b same e u (stops_left c (λ k. c' k || (n' && f k)) y s)
      | inr u ↦ let k = head_of ts h.front rest more g h.whole same in absurd (not_second k.0 k.1 z y b k.3 (sym k.2 ∙ e) u s)
    ];
  }

  first_failed : (ts : List T) (n : ℕ) → begins_in f ts ≡ true → Failed P D c ts n → Failed (either_texts P Q) (either_texts D E) (either_goes_on f n' c c') ts n
  first_failed ts n g h = record {
    front = h.front;
    rest = h.rest;
    whole = h.whole;
    left_is = h.left_is;
    more = h.more;
    value = h.value;
    viable = inl h.viable;
    dead = λ more z y b same e w s. elim w [
      | inl u ↦ h.dead more z y b same e u (stops_left c (λ k. c' k || (n' && f k)) y s)
      | inr u ↦ let k = head_of ts h.front h.rest more g h.whole same in not_second k.0 k.1 z y b k.3 (sym k.2 ∙ e) u s
    ];
  }

  second_took : (ts : List T) (a : A) (rest : List T) → begins_in f ts ≡ false → Took Q E c' ts a rest → Took (either_texts P Q) (either_texts D E) (either_goes_on f n' c c') ts a rest
  second_took ts a rest g h = record {
    front = h.front;
    whole = h.whole;
    is = inr h.is;
    only = λ more z y b same e w s. elim w [
      | inl u ↦ absurd (not_first ts (h.front ++ more) z y b g (subst (λ v. SameHead v (h.front ++ more)) (sym h.whole) (same_head h.front rest more same)) e u)
      | inr u ↦ h.only more z y b same e u (stops_left c' (λ k. n' && f k) y (stops_right c (λ k. c' k || (n' && f k)) y s))
    ];
  }

  second_failed : (ts : List T) (n : ℕ) → begins_in f ts ≡ false → Failed Q E c' ts n → Failed (either_texts P Q) (either_texts D E) (either_goes_on f n' c c') ts n
  second_failed ts n g h = record {
    front = h.front;
    rest = h.rest;
    whole = h.whole;
    left_is = h.left_is;
    more = h.more;
    value = h.value;
    viable = inr h.viable;
    dead = λ more z y b same e w s. elim w [
      | inl u ↦ not_first ts (h.front ++ more) z y b g (subst (λ v. SameHead v (h.front ++ more)) (sym h.whole) (same_head h.front h.rest more same)) e u
      | inr u ↦ h.dead more z y b same e u (stops_left c' (λ k. n' && f k) y (stops_right c (λ k. c' k || (n' && f k)) y s))
    ];
  }

module _ {T A : Type 0} (P U Q V : List T → A → Type 0) (f : Class T) (c : Class T) (f' : Class T) (n' : Bool) (c' : Class T) (sp : Shape P U f false) (sq : Shape Q V f' n') (d : Disjoint f f') where
  pub first_reads : (ts : List T) (r : Reading T A) → begins_in f ts ≡ true → Reads P U c ts r → Reads (either_texts P Q) (either_texts U V) (either_goes_on f n' c c') ts r
  first_reads ts (Ok x) g h = first_took P U Q V f c f' n' c' sp sq d ts x.0 x.1 g h
  first_reads ts (Err (syntax_at n)) g h = first_failed P U Q V f c f' n' c' sp sq d ts n g h
  first_reads ts (Err (limit_at n)) g h = (
    first_failed P P Q Q f c f' n' c' (shape_within P U f false sp) (shape_within Q V f' n' sq) d ts n g h.0,
    record { front = h.1.front; next = h.1.next; rest = h.1.rest; whole = h.1.whole; left_is = h.1.left_is; more = h.1.more; value = h.1.value; alive = inl h.1.alive },
  )

  pub second_reads : (ts : List T) (r : Reading T A) → begins_in f ts ≡ false → Reads Q V c' ts r → Reads (either_texts P Q) (either_texts U V) (either_goes_on f n' c c') ts r
  second_reads ts (Ok x) g h = second_took P U Q V f c f' n' c' sp sq d ts x.0 x.1 g h
  second_reads ts (Err (syntax_at n)) g h = second_failed P U Q V f c f' n' c' sp sq d ts n g h
  second_reads ts (Err (limit_at n)) g h = (
    second_failed P P Q Q f c f' n' c' (shape_within P U f false sp) (shape_within Q V f' n' sq) d ts n g h.0,
    record { front = h.1.front; next = h.1.next; rest = h.1.rest; whole = h.1.whole; left_is = h.1.left_is; more = h.1.more; value = h.1.value; alive = inr h.1.alive },
  )

  either_begins : (t : T) (x : List T) (a : A) → either_texts U V (t ∷ x) a → (f t || f' t) ≡ true
  either_begins t x a (inl w) = or_true_left (f t) (f' t) (sp.begins t x a w)
  either_begins t x a (inr w) = or_true_right (f t) (f' t) (sq.begins t x a w)

  either_empty : (a : A) → either_texts U V [] a → n' ≡ true
  either_empty a (inl w) = let g = sp.empty a w in cc
  either_empty a (inr w) = sq.empty a w

  either_within : (x : List T) (a : A) → either_texts P Q x a → either_texts U V x a
  either_within x a (inl w) = inl (sp.within x a w)
  either_within x a (inr w) = inr (sq.within x a w)

  pub either_shape : Shape (either_texts P Q) (either_texts U V) (λ k. f k || f' k) n'
  either_shape = record { begins = either_begins; empty = either_empty; within = either_within; text = sp.text; value = sp.value; sample = inl sp.sample }

module _ {T A : Type 0} (p : Rule T A) (q : Rule T A) (f : Class T) (c : Class T) (f' : Class T) (n' : Bool) (c' : Class T) (lp : Law p f false c) (lq : Law q f' n' c') (d : Disjoint f f') where
  either_choice : (ts : List T) (b : Bool) → begins_in f ts ≡ b → Reads (either f p q).texts (either f p q).free (either_goes_on f n' c c') ts (cond b (p.read ts) (q.read ts))
  either_choice ts true g = first_reads p.texts p.free q.texts q.free f c f' n' c' lp.shape lq.shape d ts (p.read ts) g (lp.reads ts)
  either_choice ts false g = second_reads p.texts p.free q.texts q.free f c f' n' c' lp.shape lq.shape d ts (q.read ts) g (lq.reads ts)

  pub either_law : Law (either f p q) (λ k. f k || f' k) n' (either_goes_on f n' c c')
  either_law = record {
    shape = either_shape p.texts p.free q.texts q.free f c f' n' c' lp.shape lq.shape d;
    reads = λ ts. either_choice ts (begins_in f ts) refl;
  }
