-- A text of E, and one of M behind it, where a word w may be a text of M by itself or go on behind a text of E: it goes on
-- where an operand follows.
use Rattle.std.proofs.Common.{◌≡◌, ℕ, Bool, true, false, List, [], ◌∷◌, ◌++◌, length, Option, Some, None, Ok, Err, ◌⊎◌, inl, inr, refl, sym, ◌∙◌, ap, subst, append_assoc, append-nil, arith}
use Rattle.grammar.specs.Reading.{Class, Reading, Stop, syntax_at, limit_at, Rule, ◌>>=◌, given, begins_in, both_texts}
use Rattle.grammar.proofs.Laws.{Stops, SameHead, Took, Failed, Beyond, Fails, Reads, Law, Within, head_eq, tail_eq, same_head, stops_within, pair_eq}
use Rattle.grammar.proofs.WholeLaws.{one_value}
use Rattle.sql_syntax.specs.Items.{left_of, stop_at}
use Rattle.sql_syntax.proofs.Splits.{Split, same, longer, shorter, split, same_self, same_by_head, same_behind, append_one}

-- c: what may go on behind E; g: what begins M; n: what an operand begins with; o: what may go on behind both
pub record Stands {T A N : Type 0} (E : Rule T A) (M : Rule T (Option N)) (c g w n o : Class T) (named : T → N) : Type 0 where
  pub alone : (t : T) → w t ≡ true → M.texts (t ∷ []) (Some (named t))
  pub only_alone : (t : T) (x : List T) (b : Option N) → M.free (t ∷ x) b → w t ≡ true → (x ≡ []) × (b ≡ Some (named t))
  pub empty : M.texts [] None
  pub opens : (y m : List T) (t : T) (a b : A) → E.free y a → E.free (y ++ t ∷ m) b → w t ≡ true → begins_in n m ≡ true
  pub goes_on : (y m : List T) (t u : T) (a b : A) → E.free y a → E.free (y ++ t ∷ m) b → w t ≡ true → n u ≡ true → (more : List T) × (v : A) × E.free (y ++ t ∷ u ∷ more) v
  pub is_word : (t : T) → g t ≡ true → c t ≡ true → w t ≡ true
  pub word_within : Within w o
  pub behind_within : Within c o
  pub begun_within : Within g o
  pub operand_within : Within n o

-- where the word t before y stands, if a reader stopped behind front
pub data Place {T : Type 0} (front more x y : List T) (t : T) : Type 0 where
  behind : front ≡ x → more ≡ t ∷ y → Place front more x y t
  last : front ≡ x ++ t ∷ [] → y ≡ more → Place front more x y t

module _ {T A : Type 0} {E : Rule T A} {f c : Class T} (le : Law E f false c) where
  -- a text of E that begins one within the limits is read to its end
  whole_of_any : (x m : List T) (b v : A) (r : Reading T A) → Reads E.texts E.free c x r → E.free x b → E.texts (x ++ m) v → (e : A) × (r ≡ Ok (e, []))
  whole_of_any x m b v (Ok (e, [])) h w k = (e, refl)
  whole_of_any x m b v (Ok (e, t ∷ rest)) h w k =
      let o = h.only (t ∷ rest) x [] b (same_self (t ∷ rest)) (sym h.whole ∙ sym (append-nil x)) w tt in cc o.0
  whole_of_any x m b v (Err (syntax_at n)) h w k = absurd (h.dead h.rest x [] b (same_self h.rest) (sym h.whole ∙ sym (append-nil x)) w tt)
  whole_of_any x m b v (Err (limit_at n)) h w k = absurd (by h.0.rest refl)
    where
      by : (rest : List T) → h.0.rest ≡ rest → ⊥
      by [] q = omega (arith, ap length q, h.0.left_is, h.1.left_is)
      by (t ∷ rest) q = h.0.dead (t ∷ (rest ++ m)) (x ++ m) [] v (same_behind h.0.rest (rest ++ m) t rest q) whole k tt
        where
          whole : h.0.front ++ t ∷ (rest ++ m) ≡ (x ++ m) ++ []
          whole = ap (λ z. h.0.front ++ (z ++ m)) (sym q) ∙ sym (append_assoc h.0.front h.0.rest m) ∙ ap (λ z. z ++ m) (sym h.0.whole) ∙ sym (append-nil (x ++ m))

  pub whole_read : (x m : List T) (b v : A) → E.free x b → E.texts (x ++ m) v → (e : A) × (E.read x ≡ Ok (e, []))
  whole_read x m b v w k = whole_of_any x m b v (E.read x) (le.reads x) w k

  -- what is read to its end is a text
  pub read_is : (x : List T) (e : A) → E.read x ≡ Ok (e, []) → E.texts x e
  read_is x e q =
      let k : Took E.texts E.free c x e [] = subst (Reads E.texts E.free c x) q (le.reads x) in
      subst (λ z. E.texts z e) (sym (k.whole ∙ append-nil k.front)) k.is

  -- where a text goes on to one within the limits, the next token may go on behind a text
  pub goes_behind : (x z : List T) (u : T) (a b : A) → E.free x a → E.texts (x ++ u ∷ z) b → c u ≡ true
  goes_behind x z u a b w k = by (c u) refl
    where
      ts : List T
      ts = x ++ u ∷ z

      by : (d : Bool) → c u ≡ d → c u ≡ true
      by true e = e
      by false e =
          let r = whole_read ts [] b b (le.shape.within ts b k) (subst (λ i. E.texts i b) (sym (append-nil ts)) k) in
          let h : Took E.texts E.free c ts r.0 [] = subst (Reads E.texts E.free c ts) r.1 (le.reads ts) in
          let i = h.only [] x (u ∷ z) a refl (sym h.whole) w e in cc i.0

module _ {T A N : Type 0} {E : Rule T A} {M : Rule T (Option N)} {f c g w n o : Class T} {named : T → N} (le : Law E f false c) (lm : Law M g true g) (s : Stands E M c g w n o named) where
  abbrev PO : List T → A × Option N → Type 0
  PO = both_texts E.texts M.texts

  abbrev UO : List T → A × Option N → Type 0
  UO = both_texts E.free M.free

  -- an operand does not stand where a text stops
  begun_stops : (z more y : List T) → begins_in n z ≡ true → y ≡ z ++ more → Stops o y → ⊥
  begun_stops [] more y h e st = cc
  begun_stops (u ∷ z) more y h e st =
      let k : o u ≡ false = subst (Stops o) e st in let i : o u ≡ true = s.operand_within u h in cc

  same_begun : (rest more : List T) → begins_in n rest ≡ true → SameHead rest more → begins_in n more ≡ true
  same_begun [] more h e = cc
  same_begun (u ∷ rest) more h e = subst (λ z. begins_in n z ≡ true) (sym e.1) h

  same_not_begun : (rest more : List T) → begins_in n rest ≡ false → SameHead rest more → begins_in n more ≡ false
  same_not_begun [] more h e = subst (λ z. begins_in n z ≡ false) (sym e) refl
  same_not_begun (u ∷ rest) more h e = subst (λ z. begins_in n z ≡ false) (sym e.1) h

  word_stops : (t : T) (more y : List T) → w t ≡ true → y ≡ t ∷ more → Stops o y → ⊥
  word_stops t more y h e st = let k : o t ≡ false = subst (Stops o) e st in let i : o t ≡ true = s.word_within t h in cc

  -- a text of M before a stop: empty, or begun by what does not go on behind E, or the word
  first_of_M : (x y : List T) (b : Option N) → M.free x b → Stops o y → Stops c (x ++ y) ⊎ ((t : T) × (w t ≡ true) × (x ≡ t ∷ []) × (b ≡ Some (named t)))
  first_of_M [] y b h st = inl (stops_within c o s.behind_within y st)
  first_of_M (t ∷ x) y b h st = by (c t) refl
    where
      by : (d : Bool) → c t ≡ d → Stops c (t ∷ (x ++ y)) ⊎ ((u : T) × (w u ≡ true) × (t ∷ x ≡ u ∷ []) × (b ≡ Some (named u)))
      by false e = inl e
      by true e =
          let k : w t ≡ true = s.is_word t (lm.shape.begins t x b h) e in
          let i = s.only_alone t x b h k in inr (t, k, ap (λ z. t ∷ z) i.0, i.1)

  -- a text of E, where a reader took one
  module _ (ts : List T) (e : A) (rest : List T) (h : Took E.texts E.free c ts e rest) where
    by_word : (t : T) (more x y : List T) (b : A) → w t ≡ true → SameHead rest more → h.front ++ more ≡ x ++ t ∷ y → E.free x b → Stops o y → (t ∷ y ≡ more) × (b ≡ e)
    by_word t more x y b k e' q v st = by (split h.front more x (t ∷ y) q)
      where
        by : Split h.front more x (t ∷ y) → (t ∷ y ≡ more) × (b ≡ e)
        by (same p r) = (sym r, one_value le h.front e b h.is (subst (λ z. E.free z b) (sym p) v))
        by (longer u z p r) =
            let i = h.only (u ∷ z) x [] b (same_by_head rest more u z (z ++ t ∷ y) r e') (sym p ∙ sym (append-nil x)) v tt in cc i.0
        by (shorter u z p r) =
            let d : E.free (x ++ t ∷ z) e = subst (λ i. E.free i e) (p ∙ ap (λ i. x ++ i ∷ z) (sym (head_eq r))) (le.shape.within h.front e h.is) in
            absurd (begun_stops z more y (s.opens x z t b e v d k) (tail_eq r) st)

    pub only_first : (more x z y : List T) (a : A) (b : Option N) → SameHead rest more → h.front ++ more ≡ x ++ (z ++ y) → E.free x a → M.free z b → Stops o y → (z ++ y ≡ more) × (a ≡ e)
    only_first more x z y a b e' q v k st = elim (first_of_M z y b k st) [
      | inl i ↦ h.only more x (z ++ y) a e' q v i
      | inr i ↦
          let j = by_word i.0 more x y a i.1 e' (q ∙ ap (λ u. x ++ (u ++ y)) i.2) v st in
          (ap (λ u. u ++ y) i.2 ∙ j.0, j.1)
    ]

    -- the reading of M behind it
    took_both : (b : Option N) (left : List T) → Took M.texts M.free g rest b left → Took PO UO o ts (e, b) left
    took_both b left k = record {
      front = h.front ++ k.front;
      whole = h.whole ∙ ap (λ z. h.front ++ z) k.whole ∙ sym (append_assoc h.front k.front left);
      is = (h.front, k.front, refl, h.is, k.is);
      only = λ more x y v e' q i st.
          let q' = sym (append_assoc h.front k.front more) ∙ q ∙ ap (λ z. z ++ y) i.2 ∙ append_assoc i.0 i.1 y in
          let e'' : SameHead rest (k.front ++ more) = subst (λ z. SameHead z (k.front ++ more)) (sym k.whole) (same_head k.front left more e') in
          let j = only_first (k.front ++ more) i.0 i.1 y v.0 v.1 e'' q' i.3 i.4 st in
          let j' = k.only more i.1 y v.1 e' (sym j.0) i.4 (stops_within g o s.begun_within y st) in
          (j'.0, pair_eq v (e, b) j.1 j'.1);
    }

    failed_both : (D : List T → A → Type 0) (F : List T → Option N → Type 0) → ((x : List T) (a : A) → D x a → E.free x a) → ((x : List T) (b : Option N) → F x b → M.free x b) → (left : ℕ) →
        Failed M.texts F g rest left → Failed PO (both_texts D F) o ts left
    failed_both D F to to' left k = record {
      front = h.front ++ k.front;
      rest = k.rest;
      whole = h.whole ∙ ap (λ z. h.front ++ z) k.whole ∙ sym (append_assoc h.front k.front k.rest);
      left_is = k.left_is;
      more = k.more;
      value = (e, k.value);
      viable = (h.front, k.front ++ k.more, append_assoc h.front k.front k.more, h.is, k.viable);
      dead = λ more x y v e' q i st.
          let q' = sym (append_assoc h.front k.front more) ∙ q ∙ ap (λ z. z ++ y) i.2 ∙ append_assoc i.0 i.1 y in
          let e'' : SameHead rest (k.front ++ more) = subst (λ z. SameHead z (k.front ++ more)) (sym k.whole) (same_head k.front k.rest more e') in
          let j = only_first (k.front ++ more) i.0 i.1 y v.0 v.1 e'' q' (to i.0 v.0 i.3) (to' i.1 v.1 i.4) st in
          k.dead more i.1 y v.1 e' (sym j.0) i.4 (stops_within g o s.begun_within y st);
    }

    beyond_both : (left : ℕ) → Beyond M.free rest left → Beyond UO ts left
    beyond_both left k = record {
      front = h.front ++ k.front;
      next = k.next;
      rest = k.rest;
      whole = h.whole ∙ ap (λ z. h.front ++ z) k.whole ∙ sym (append_assoc h.front k.front (k.next ∷ k.rest));
      left_is = k.left_is;
      more = k.more;
      value = (e, k.value);
      alive = (h.front, k.front ++ k.next ∷ k.more, append_assoc h.front k.front (k.next ∷ k.more), le.shape.within h.front e h.is, k.alive);
    }

    pub reads_both : (r : Reading T (Option N)) → Reads M.texts M.free g rest r → Reads PO UO o ts (r >>= λ b. given (e, b.0) b.1)
    reads_both (Ok b) k = took_both b.0 b.1 k
    reads_both (Err (syntax_at m)) k = failed_both E.free M.free (λ x a v. v) (λ x b v. v) m k
    reads_both (Err (limit_at m)) k = (failed_both E.texts M.texts le.shape.within lm.shape.within m k.0, beyond_both m k.1)

  -- The tokens before the word are a text of E, and no operand follows: the word is a text of M.
  module _ (x : List T) (t : T) (e : A) (is : E.texts x e) (k : w t ≡ true) (more : List T) (d : begins_in n more ≡ false) (l : List T) (b : Option N) (m : M.free l b) (y : List T) (st : Stops o y) where
    -- the text of M, directly behind them
    is_lone : (z : List T) → M.free z b → t ∷ more ≡ z ++ y → (y ≡ more) × (b ≡ Some (named t))
    is_lone [] i q = absurd (word_stops t more y k (sym q) st)
    is_lone (u ∷ z) i q =
        let j = s.only_alone u z b i (subst (λ v. w v ≡ true) (head_eq q) k) in
        (ap (λ v. v ++ y) (sym j.0) ∙ sym (tail_eq q), j.1 ∙ ap (λ v. Some (named v)) (sym (head_eq q)))

    -- a text of E that goes on behind the word
    goes_past : (z v : List T) → begins_in n z ≡ true → more ≡ z ++ v → ⊥
    goes_past [] v i q = cc
    goes_past (u ∷ z) v i q = let j : begins_in n (u ∷ (z ++ v)) ≡ false = subst (λ p. begins_in n p ≡ false) q d in cc

    -- a text of E that ends before them, at the token p
    ends_before : (u : List T) (p : T) (v : List T) (a : A) → E.free u a → E.texts (u ++ p ∷ v) e → (z : List T) → M.free z b → p ∷ (v ++ t ∷ more) ≡ z ++ y → ⊥
    ends_before u p v a i h [] j q = let q' : o p ≡ false = subst (Stops o) (sym q) st in let q'' : o p ≡ true = s.behind_within p (goes_behind le u v p a e i h) in cc
    ends_before u p v a i h (r ∷ z) j q =
        let g' : g p ≡ true = subst (λ i. g i ≡ true) (sym (head_eq q)) (lm.shape.begins r z b j) in
        let w' : w p ≡ true = s.is_word p g' (goes_behind le u v p a e i h) in
        let r' = s.only_alone r z b j (subst (λ i. w i ≡ true) (head_eq q) w') in
        begun_stops v (t ∷ more) y (s.opens u v p a e i (le.shape.within (u ++ p ∷ v) e h) w') (ap (λ i. i ++ y) (sym r'.0) ∙ sym (tail_eq q)) st

    by_split : (u : List T) (a : A) → E.free u a → Split x (t ∷ more) u (l ++ y) → (y ≡ more) × (a ≡ e) × (b ≡ Some (named t))
    by_split u a i (same p q) = let j = is_lone l m q in (j.0, one_value le x e a is (subst (λ z. E.free z a) (sym p) i), j.1)
    by_split u a i (longer v z p q) =
        let h : E.free (x ++ t ∷ z) a = subst (λ r. E.free r a) (p ∙ ap (λ r. x ++ r ∷ z) (sym (head_eq q))) i in
        absurd (goes_past z (l ++ y) (s.opens x z t e a (le.shape.within x e is) h k) (tail_eq q))
    by_split u a i (shorter v z p q) = absurd (ends_before u v z a i (subst (λ r. E.texts r e) p is) l m (sym q))

  module _ (x : List T) (t : T) (rest : List T) (e : A) (is : E.texts x e) (k : w t ≡ true) where
    pub lone_word : (ts : List T) → ts ≡ x ++ t ∷ rest → begins_in n rest ≡ false → Took PO UO o ts (e, Some (named t)) rest
    lone_word ts q d = record {
      front = x ++ t ∷ [];
      whole = q ∙ sym (append_one x t rest);
      is = (x, t ∷ [], refl, is, s.alone t k);
      only = λ more u y v e' q' i st.
          let r = sym (append_one x t more) ∙ q' ∙ ap (λ z. z ++ y) i.2 ∙ append_assoc i.0 i.1 y in
          let j = by_split x t e is k more (same_not_begun rest more d e') i.1 v.1 i.4 y st i.0 v.0 i.3 (split x (t ∷ more) i.0 (i.1 ++ y) r) in
          (j.0, pair_eq v (e, Some (named t)) j.1 j.2);
    }

  -- A reader of E failed.
  module _ (D : List T → A → Type 0) (to : (x : List T) (a : A) → D x a → E.free x a) (F : List T → Option N → Type 0) (to' : (x : List T) (b : Option N) → F x b → M.free x b)
      (ts : List T) (left : ℕ) (h : Failed E.texts D c ts left) where
    -- the only texts of both
    placed : (t : T) (more x y : List T) (a : A) → w t ≡ true → SameHead h.rest more → h.front ++ more ≡ x ++ t ∷ y → D x a → Stops o y → Place h.front more x y t
    placed t more x y a k e' q v st = by (split h.front more x (t ∷ y) q)
      where
        by_last : (u : T) (z : List T) → h.front ≡ x ++ u ∷ z → t ∷ y ≡ u ∷ (z ++ more) → Place h.front more x y t
        by_last u [] p r = last (p ∙ ap (λ i. x ++ i ∷ []) (sym (head_eq r))) (tail_eq r)
        by_last u (l ∷ z) p r =
            let p' : h.front ++ h.more ≡ x ++ t ∷ (l ∷ (z ++ h.more)) =
            ap (λ i. i ++ h.more) p ∙ append_assoc x (u ∷ l ∷ z) h.more ∙ ap (λ i. x ++ i ∷ l ∷ (z ++ h.more)) (sym (head_eq r)) in
            let j : begins_in n (l ∷ (z ++ h.more)) ≡ true =
            s.opens x (l ∷ (z ++ h.more)) t a h.value (to x a v) (subst (λ i. E.free i h.value) p' (le.shape.within (h.front ++ h.more) h.value h.viable)) k in
            absurd (begun_stops (l ∷ z) more y j (tail_eq r) st)

        by : Split h.front more x (t ∷ y) → Place h.front more x y t
        by (same p r) = behind p r
        by (longer u z p r) = absurd (h.dead (u ∷ z) x [] a (same_by_head h.rest more u z (z ++ t ∷ y) r e') (sym p ∙ sym (append-nil x)) v tt)
        by (shorter u z p r) = by_last u z p r

    pub failed_place : (more x z y : List T) (a : A) (b : Option N) → SameHead h.rest more → h.front ++ more ≡ x ++ (z ++ y) → D x a → M.free z b → Stops o y → (t : T) × (w t ≡ true) × Place h.front more x y t
    failed_place more x z y a b e' q v k st = elim (first_of_M z y b k st) [
      | inl i ↦ absurd (h.dead more x (z ++ y) a e' q v i)
      | inr i ↦ (i.0, i.1, placed i.0 more x y a i.1 e' (q ∙ ap (λ u. x ++ (u ++ y)) i.2) v st)
    ]

    -- such a text of E is read to its end
    pub read_place : (more x y : List T) (t : T) (a : A) → D x a → Place h.front more x y t → (e : A) × (E.read x ≡ Ok (e, []))
    read_place more x y t a v (behind p r) = whole_read le x h.more a h.value (to x a v) (subst (λ z. E.texts (z ++ h.more) h.value) p h.viable)
    read_place more x y t a v (last p r) =
        whole_read le x (t ∷ h.more) a h.value (to x a v) (subst (λ z. E.texts z h.value) (ap (λ z. z ++ h.more) p ∙ append_one x t h.more) h.viable)

    alone_viable : PO (h.front ++ h.more) (h.value, None)
    alone_viable = (h.front ++ h.more, [], sym (append-nil (h.front ++ h.more)), h.viable, s.empty)

    -- no word is found: it is the same place
    pub not_found : ((more x y : List T) (t : T) (e : A) → w t ≡ true → SameHead h.rest more → Stops o y → E.read x ≡ Ok (e, []) → Place h.front more x y t → ⊥) → Failed PO (both_texts D F) o ts left
    not_found none = record {
      front = h.front;
      rest = h.rest;
      whole = h.whole;
      left_is = h.left_is;
      more = h.more;
      value = (h.value, None);
      viable = alone_viable;
      dead = λ more x y v e' q i st.
          let j = failed_place more i.0 i.1 y v.0 v.1 e' (q ∙ ap (λ z. z ++ y) i.2 ∙ append_assoc i.0 i.1 y) i.3 (to' i.1 v.1 i.4) st in
          let r = read_place more i.0 y j.0 v.0 i.3 j.2 in
          none more i.0 y j.0 r.0 j.1 e' st r.1 j.2;
    }

    -- The word is found, and an operand follows: the place is behind the word.
    module _ (x : List T) (t : T) (rest : List T) (e : A) (is : E.texts x e) (k : w t ≡ true) (d : begins_in n rest ≡ true) where
      behind_dead : h.front ≡ x → h.rest ≡ t ∷ rest → (more u y : List T) (l : T) → SameHead rest more → Stops o y → Place h.front (t ∷ more) u y l → ⊥
      behind_dead p r more u y l e' st (behind p' r') = begun_stops more [] y (same_begun rest more d e') (sym (tail_eq r') ∙ sym (append-nil more)) st
      behind_dead p r more u y l e' st (last p' r') = word_stops t more y k r' st

      last_dead : h.front ≡ x ++ t ∷ [] → (more u y : List T) (l : T) (a : A) → E.free u a → SameHead rest more → Stops o y → Place h.front more u y l → ⊥
      last_dead p more u y l a v e' st (behind p' r') =
          let j : begins_in n [] ≡ true = s.opens x [] t e a (le.shape.within x e is) (subst (λ z. E.free z a) (sym p' ∙ p) v) k in cc
      last_dead p more u y l a v e' st (last p' r') = begun_stops more [] y (same_begun rest more d e') (r' ∙ sym (append-nil more)) st

      pub found : Place h.front h.rest x rest t → Failed PO (both_texts D F) o ts (length rest)
      found (behind p r) = record {
        front = x ++ t ∷ [];
        rest = rest;
        whole = h.whole ∙ ap (λ z. z ++ h.rest) p ∙ ap (λ z. x ++ z) r ∙ sym (append_one x t rest);
        left_is = refl;
        more = [];
        value = (e, Some (named t));
        viable = (x, t ∷ [], append-nil (x ++ t ∷ []), is, s.alone t k);
        dead = λ more u y v e' q i st.
            let q' = ap (λ z. z ++ t ∷ more) p ∙ sym (append_one x t more) ∙ q ∙ ap (λ z. z ++ y) i.2 ∙ append_assoc i.0 i.1 y in
            let j = failed_place (t ∷ more) i.0 i.1 y v.0 v.1 (same_behind h.rest more t rest r) q' i.3 (to' i.1 v.1 i.4) st in
            behind_dead p r more i.0 y j.0 e' st j.2;
      }
      found (last p r) = record {
        front = h.front;
        rest = rest;
        whole = h.whole ∙ ap (λ z. h.front ++ z) (sym r);
        left_is = refl;
        more = h.more;
        value = (h.value, None);
        viable = alone_viable;
        dead = λ more u y v e' q i st.
            let j = failed_place more i.0 i.1 y v.0 v.1 (subst (λ z. SameHead z more) r e') (q ∙ ap (λ z. z ++ y) i.2 ∙ append_assoc i.0 i.1 y) i.3 (to' i.1 v.1 i.4) st in
            last_dead p more i.0 y j.0 v.0 (to i.0 v.0 i.3) e' st j.2;
      }

  -- The reader of E stopped at a limit.
  beyond_alone : (ts : List T) (left : ℕ) → Beyond E.free ts left → Beyond UO ts left
  beyond_alone ts left h = record {
    front = h.front;
    next = h.next;
    rest = h.rest;
    whole = h.whole;
    left_is = h.left_is;
    more = h.more;
    value = (h.value, None);
    alive = (h.front ++ h.next ∷ h.more, [], sym (append-nil (h.front ++ h.next ∷ h.more)), h.alive, lm.shape.within [] None s.empty);
  }

  -- the same, where the word is found and an operand follows
  module _ (x : List T) (t : T) (e : A) (is : E.texts x e) (k : w t ≡ true) (ts : List T) (left : ℕ) (h : Beyond E.free ts left) where
    beyond_word : (rest : List T) → begins_in n rest ≡ true → Place h.front (h.next ∷ h.rest) x rest t → Beyond UO ts (length rest)
    beyond_word [] d p = cc
    beyond_word (u ∷ rest) d (behind p r) =
        let v : E.free (x ++ t ∷ h.more) h.value = subst (λ z. E.free z h.value) (ap (λ z. z ++ h.next ∷ h.more) p ∙ ap (λ z. x ++ z ∷ h.more) (head_eq r)) h.alive in
        let i = s.goes_on x h.more t u e h.value (le.shape.within x e is) v k d in
        record {
          front = x ++ t ∷ [];
          next = u;
          rest = rest;
          whole = h.whole ∙ ap (λ z. z ++ h.next ∷ h.rest) p ∙ ap (λ z. x ++ z) r ∙ sym (append_one x t (u ∷ rest));
          left_is = refl;
          more = i.0;
          value = (i.1, None);
          alive = (x ++ t ∷ u ∷ i.0, [], append_one x t (u ∷ i.0) ∙ sym (append-nil (x ++ t ∷ u ∷ i.0)), i.2, lm.shape.within [] None s.empty);
        }
    beyond_word (u ∷ rest) d (last p r) = record {
      front = h.front;
      next = h.next;
      rest = h.rest;
      whole = h.whole;
      left_is = ap length (sym r);
      more = h.more;
      value = (h.value, None);
      alive = (h.front ++ h.next ∷ h.more, [], sym (append-nil (h.front ++ h.next ∷ h.more)), h.alive, lm.shape.within [] None s.empty);
    }

  -- The answer where the reader of E stopped: no word is found, or one with an operand behind it.
  module _ (ts : List T) where
    pub stops_there : (stop : Stop) → Fails E.texts E.free c ts stop →
        ((front rest : List T) → ts ≡ front ++ rest → length rest ≡ left_of stop → (more x y : List T) (t : T) (e : A) → w t ≡ true → SameHead rest more → Stops o y → E.read x ≡ Ok (e, []) → Place front more x y t → ⊥) →
        Fails PO UO o ts stop
    stops_there (syntax_at m) h none = not_found E.free (λ x a v. v) M.free (λ x b v. v) ts m h (none h.front h.rest h.whole h.left_is)
    stops_there (limit_at m) h none =
        (not_found E.texts le.shape.within M.texts lm.shape.within ts m h.0 (none h.0.front h.0.rest h.0.whole h.0.left_is), beyond_alone ts m h.1)

    pub stops_behind : (stop : Stop) (x : List T) (t : T) (rest : List T) (e : A) → Fails E.texts E.free c ts stop → E.texts x e → w t ≡ true → begins_in n rest ≡ true →
        ((front after : List T) → ts ≡ front ++ after → length after ≡ left_of stop → Place front after x rest t) →
        Fails PO UO o ts (stop_at stop (length rest))
    stops_behind (syntax_at m) x t rest e h is k d at = found E.free (λ x a v. v) M.free (λ x b v. v) ts m h x t rest e is k d (at h.front h.rest h.whole h.left_is)
    stops_behind (limit_at m) x t rest e h is k d at = (
      found E.texts le.shape.within M.texts lm.shape.within ts m h.0 x t rest e is k d (at h.0.front h.0.rest h.0.whole h.0.left_is),
      beyond_word x t e is k ts m h.1 rest d (at h.1.front (h.1.next ∷ h.1.rest) h.1.whole h.1.left_is),
    )
