-- One token, nothing, other values and larger classes keep the law.
use Rattle.std.proofs.Common.{◌≡◌, ℕ, suc, Bool, true, false, List, [], ◌∷◌, ◌++◌, length, Ok, Err, cond, refl, sym, ◌∙◌, ap, subst}
use Rattle.grammar.specs.Reading.{Class, Reading, syntax_at, limit_at, Rule, ◌>>=◌, begins_in, read_one, one, nothing, as_value, value_texts}
use Rattle.grammar.proofs.Laws.{SameHead, Took, Failed, Reads, Law, Within, head_eq, tail_eq, stops_within}

-- one token of a class
module _ {T : Type 0} (c : Class T) (k : T) (e : c k ≡ true) where
  one_took : (t : T) (ts : List T) → c t ≡ true → Took (one c).texts (one c).free (λ _. false) (t ∷ ts) t ts
  one_took t ts h = record {
    front = t ∷ [];
    whole = refl;
    is = (refl, h);
    only = λ more x y b same e' w s.
        let e'' : t ∷ more ≡ b ∷ y = e' ∙ ap (λ z. z ++ y) w.0 in
        (sym (tail_eq e''), sym (head_eq e''));
  }

  one_failed : (ts : List T) → begins_in c ts ≡ false → Failed (one c).texts (one c).free (λ _. false) ts (length ts)
  one_failed ts h = record {
    front = [];
    rest = ts;
    whole = refl;
    left_is = refl;
    more = k ∷ [];
    value = k;
    viable = (refl, e);
    dead = λ more x y b same e' w s. dead ts more y b h same (e' ∙ ap (λ z. z ++ y) w.0) w.1;
  }
    where
      dead : (ts more y : List T) (b : T) → begins_in c ts ≡ false → SameHead ts more → more ≡ b ∷ y → c b ≡ true → ⊥
      dead [] more y b h same e' w = cc
      dead (t ∷ ts) more y b h same e' w =
          let g : c b ≡ false = subst (λ (u : T). c u ≡ false) (head_eq (sym same.1 ∙ e')) h in cc

  one_choice : (t : T) (ts : List T) (b : Bool) → c t ≡ b → Reads (one c).texts (one c).free (λ _. false) (t ∷ ts) (cond b (Ok (t, ts)) (Err (syntax_at (suc (length ts)))))
  one_choice t ts true h = one_took t ts h
  one_choice t ts false h = one_failed (t ∷ ts) h

  one_reads : (ts : List T) → Reads (one c).texts (one c).free (λ _. false) ts (read_one c ts)
  one_reads [] = one_failed [] refl
  one_reads (t ∷ ts) = one_choice t ts (c t) refl

  pub one_law : Law (one c) c false (λ _. false)
  one_law = record {
    shape = record {
      begins = λ t x a w. subst (λ (u : T). c u ≡ true) (sym (head_eq w.0)) w.1;
      empty = λ a w. cc w.0;
      within = λ x a w. w;
      text = k ∷ [];
      value = k;
      sample = (refl, e);
    };
    reads = one_reads;
  }

-- nothing
pub nothing_law : {T A : Type 0} (a : A) → Law (nothing {T = T} a) (λ _. false) true (λ _. false)
nothing_law a = record {
  shape = record { begins = λ t x b w. cc w.0; empty = λ b w. refl; within = λ x a w. w; text = []; value = a; sample = (refl, refl) };
  reads = λ ts. record {
    front = [];
    whole = refl;
    is = (refl, refl);
    only = λ more x y b same e w s. (ap (λ z. z ++ y) (sym w.0) ∙ sym e, w.1);
  };
}

-- the same texts, of other values
module _ {T A B : Type 0} (g : A → B) (P U : List T → A → Type 0) (c : Class T) where
  value_failed : (D : List T → A → Type 0) (ts : List T) (n : ℕ) → Failed P D c ts n → Failed (value_texts g P) (value_texts g D) c ts n
  value_failed D ts n h = record {
    front = h.front;
    rest = h.rest;
    whole = h.whole;
    left_is = h.left_is;
    more = h.more;
    value = g h.value;
    viable = (h.value, h.viable, refl);
    dead = λ more x y b same e' w s. h.dead more x y w.0 same e' w.1 s;
  }

  pub value_reads : (ts : List T) (r : Reading T A) → Reads P U c ts r → Reads (value_texts g P) (value_texts g U) c ts (r >>= λ x. Ok (g x.0, x.1))
  value_reads ts (Ok x) h = record {
    front = h.front;
    whole = h.whole;
    is = (x.0, h.is, refl);
    only = λ more z y b same e w s. let o = h.only more z y w.0 same e w.1 s in (o.0, w.2 ∙ ap g o.1);
  }
  value_reads ts (Err (syntax_at n)) h = value_failed U ts n h
  value_reads ts (Err (limit_at n)) h = (
    value_failed P ts n h.0,
    record {
      front = h.1.front;
      next = h.1.next;
      rest = h.1.rest;
      whole = h.1.whole;
      left_is = h.1.left_is;
      more = h.1.more;
      value = g h.1.value;
      alive = (h.1.value, h.1.alive, refl);
    },
  )

module _ {T A B : Type 0} (g : A → B) (p : Rule T A) (f : Class T) (n : Bool) (c : Class T) (lp : Law p f n c) where
  pub value_law : Law (as_value g p) f n c
  value_law = record {
    shape = record {
      begins = λ t x b w. lp.shape.begins t x w.0 w.1;
      empty = λ b w. lp.shape.empty w.0 w.1;
      within = λ x b w. (w.0, lp.shape.within x w.0 w.1, w.2);
      text = lp.shape.text;
      value = g lp.shape.value;
      sample = (lp.shape.value, lp.shape.sample, refl);
    };
    reads = λ ts. value_reads g p.texts p.free c ts (p.read ts) (lp.reads ts);
  }

-- larger classes
module _ {T A : Type 0} (P : List T → A → Type 0) (c : Class T) (c' : Class T) (wc : Within c c') where
  wide_failed : (D : List T → A → Type 0) (ts : List T) (n : ℕ) → Failed P D c ts n → Failed P D c' ts n
  wide_failed D ts n h = record {
    front = h.front;
    rest = h.rest;
    whole = h.whole;
    left_is = h.left_is;
    more = h.more;
    value = h.value;
    viable = h.viable;
    dead = λ more x y b same e' w s. h.dead more x y b same e' w (stops_within c c' wc y s);
  }

  pub wide_reads : (U : List T → A → Type 0) (ts : List T) (r : Reading T A) → Reads P U c ts r → Reads P U c' ts r
  wide_reads U ts (Ok x) h = record {
    front = h.front;
    whole = h.whole;
    is = h.is;
    only = λ more z y b same e w s. h.only more z y b same e w (stops_within c c' wc y s);
  }
  wide_reads U ts (Err (syntax_at n)) h = wide_failed U ts n h
  wide_reads U ts (Err (limit_at n)) h = (wide_failed P ts n h.0, h.1)

module _ {T A : Type 0} (p : Rule T A) (f : Class T) (n : Bool) (c : Class T) (f' : Class T) (c' : Class T) (lp : Law p f n c) (wf : Within f f') (wc : Within c c') where
  pub wide_law : Law p f' n c'
  wide_law = record {
    shape = record {
      begins = λ t x b w. wf t (lp.shape.begins t x b w);
      empty = lp.shape.empty;
      within = lp.shape.within;
      text = lp.shape.text;
      value = lp.shape.value;
      sample = lp.shape.sample;
    };
    reads = λ ts. wide_reads p.texts c c' wc p.free ts (p.read ts) (lp.reads ts);
  }

-- the same relations, said in another way
module _ {T A : Type 0} (P U P' U' : List T → A → Type 0) (to : (ts : List T) (a : A) → P ts a → P' ts a) (from : (ts : List T) (a : A) → P' ts a → P ts a) (toU : (ts : List T) (a : A) → U ts a → U' ts a) (fromU : (ts : List T) (a : A) → U' ts a → U ts a) where
  same_failed : (D D' : List T → A → Type 0) → ((ts : List T) (a : A) → D' ts a → D ts a) → (c : Class T) (ts : List T) (n : ℕ) → Failed P D c ts n → Failed P' D' c ts n
  same_failed D D' g c ts n h = record {
    front = h.front;
    rest = h.rest;
    whole = h.whole;
    left_is = h.left_is;
    more = h.more;
    value = h.value;
    viable = to (h.front ++ h.more) h.value h.viable;
    dead = λ more x y b same e' w s. h.dead more x y b same e' (g x b w) s;
  }

  pub same_reads : (c : Class T) (ts : List T) (r : Reading T A) → Reads P U c ts r → Reads P' U' c ts r
  same_reads c ts (Ok x) h = record {
    front = h.front;
    whole = h.whole;
    is = to h.front x.0 h.is;
    only = λ more z y b same e w s. h.only more z y b same e (fromU z b w) s;
  }
  same_reads c ts (Err (syntax_at n)) h = same_failed U U' fromU c ts n h
  same_reads c ts (Err (limit_at n)) h = (
    same_failed P P' from c ts n h.0,
    record {
      front = h.1.front;
      next = h.1.next;
      rest = h.1.rest;
      whole = h.1.whole;
      left_is = h.1.left_is;
      more = h.1.more;
      value = h.1.value;
      alive = toU (h.1.front ++ h.1.next ∷ h.1.more) h.1.value h.1.alive;
    },
  )
