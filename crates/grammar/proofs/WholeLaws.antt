-- A rule that keeps the law, read to the end, is parsed as promised.
use Rattle.std.proofs.Common.{◌≡◌, ℕ, Bool, List, [], ◌∷◌, ◌++◌, length, Result, Ok, Err, refl, sym, ◌∙◌, ap, subst}
use Rattle.std.proofs.lemmas.List.{append-nil}
use Rattle.grammar.specs.declared.refused.Refused.{Refused}
use Rattle.grammar.specs.declared.refused.Refused.TheVariants.{NoMemory, Syntax, Limit}
use Rattle.grammar.specs.Reading.{Class, Reading, Stop, syntax_at, limit_at, Rule, ◌>>=◌, read_whole, whole_of}
use Rattle.grammar.specs.Gives.{Gives}
use Rattle.grammar.specs.Parses.{SameNext, FailsAt, GoesOn, IsOnly, Parses}
use Rattle.grammar.proofs.Laws.{pair_eq, Law, Reads, Took, Failed, Beyond, SameHead}

same_next : {T : Type 0} (ts more : List T) → SameNext ts more → SameHead ts more
same_next [] more h = h
same_next (t ∷ ts) more h = h

abbrev an_ok : {A : Type 0} → A → Result A Stop
an_ok a = Ok a

abbrev an_err : {A : Type 0} → Stop → Result A Stop
an_err n = Err n

ok_eq : {A : Type 0} (u v : A) → an_ok u ≡ an_ok v → u ≡ v
ok_eq u v e = cc

syntax_eq : {A : Type 0} (u v : ℕ) → an_err {A = A} (syntax_at u) ≡ an_err (syntax_at v) → u ≡ v
syntax_eq u v e = cc

limit_eq : {A : Type 0} (u v : ℕ) → an_err {A = A} (limit_at u) ≡ an_err (limit_at v) → u ≡ v
limit_eq u v e = cc

module _ {T A : Type 0} (P U : List T → A → Type 0) (c : Class T) where
  all_taken : (ts : List T) (a : A) → Took P U c ts a [] → IsOnly P U ts a
  all_taken ts a h = record {
    text = subst (λ z. P z a) (sym (h.whole ∙ append-nil h.front)) h.is;
    only = λ b w. (h.only [] ts [] b refl (sym h.whole ∙ sym (append-nil ts)) w tt).1;
  }

  some_left : (ts : List T) (a : A) (t : T) (rest : List T) → Took P U c ts a (t ∷ rest) → FailsAt P U ts (length (t ∷ rest))
  some_left ts a t rest h = record {
    front = h.front;
    after = t ∷ rest;
    whole = h.whole;
    left_is = refl;
    more = [];
    value = a;
    begins = subst (λ z. P z a) (sym (append-nil h.front)) h.is;
    no_more = λ more b same w.
        let o = h.only more (h.front ++ more) [] b (same_next (t ∷ rest) more same) (sym (append-nil (h.front ++ more))) w tt in
        let e = o.0 ∙ same.1 in cc;
  }

  failed : (ts : List T) (n : ℕ) → Failed P U c ts n → FailsAt P U ts n
  failed ts n h = record {
    front = h.front;
    after = h.rest;
    whole = h.whole;
    left_is = h.left_is;
    more = h.more;
    value = h.value;
    begins = h.viable;
    no_more = λ more b same w. h.dead more (h.front ++ more) [] b (same_next h.rest more same) (sym (append-nil (h.front ++ more))) w tt;
  }

  goes_on : (ts : List T) (n : ℕ) → Beyond U ts n → GoesOn U ts n
  goes_on ts n h = record {
    front = h.front;
    next = h.next;
    after = h.rest;
    whole = h.whole;
    left_is = h.left_is;
    more = h.more;
    value = h.value;
    begins = h.alive;
  }

module _ {T X A : Type 0} (p : Rule T A) (c : Class T) (view : X → A) (ts : List T) where
  ends : (a : A) (rest : List T) (r : Result X Refused) → Took p.texts p.free c ts a rest → Gives view r (whole_of (a, rest)) → Parses p view ts r
  ends a [] (Ok x) h g = subst (IsOnly p.texts p.free ts) (ok_eq a (view x) g) (all_taken p.texts p.free c ts a h)
  ends a [] (Err NoMemory) h g = tt
  ends a [] (Err (Syntax n)) h g = cc
  ends a [] (Err (Limit n)) h g = cc
  ends a (t ∷ rest) (Ok x) h g = cc
  ends a (t ∷ rest) (Err NoMemory) h g = tt
  ends a (t ∷ rest) (Err (Syntax n)) h g = subst (FailsAt p.texts p.free ts) (syntax_eq {A = A} (length (t ∷ rest)) n g) (some_left p.texts p.free c ts a t rest h)
  ends a (t ∷ rest) (Err (Limit n)) h g = cc

  fails_syntax : (m : ℕ) (r : Result X Refused) → Failed p.texts p.free c ts m → Gives view r (Err (syntax_at m)) → Parses p view ts r
  fails_syntax m (Ok x) h g = cc
  fails_syntax m (Err NoMemory) h g = tt
  fails_syntax m (Err (Syntax n)) h g = subst (FailsAt p.texts p.free ts) (syntax_eq {A = A} m n g) (failed p.texts p.free c ts m h)
  fails_syntax m (Err (Limit n)) h g = cc

  fails_limit : (m : ℕ) (r : Result X Refused) → Failed p.texts p.texts c ts m → Beyond p.free ts m → Gives view r (Err (limit_at m)) → Parses p view ts r
  fails_limit m (Ok x) h k g = cc
  fails_limit m (Err NoMemory) h k g = tt
  fails_limit m (Err (Syntax n)) h k g = cc
  fails_limit m (Err (Limit n)) h k g =
      let e = limit_eq {A = A} m n g in
      (subst (FailsAt p.texts p.texts ts) e (failed p.texts p.texts c ts m h), subst (GoesOn p.free ts) e (goes_on p.texts p.free c ts m k))

  read_parses : (r : Result X Refused) (q : Reading T A) → Reads p.texts p.free c ts q → Gives view r (q >>= λ x. whole_of x) → Parses p view ts r
  read_parses r (Ok x) h g = ends x.0 x.1 r h g
  read_parses r (Err (syntax_at m)) h g = fails_syntax m r h g
  read_parses r (Err (limit_at m)) h g = fails_limit m r h.0 h.1 g

-- The promise of a parser of p, from the law of p.
pub parses : {T X A : Type 0} {p : Rule T A} {f : Class T} {n : Bool} {c : Class T} (view : X → A) (ts : List T) (r : Result X Refused) → Law p f n c → Gives view r (read_whole p ts) → Parses p view ts r
unfolding read_whole
parses {p = p} {c = c} view ts r l g = read_parses p c view ts r (p.read ts) (l.reads ts) g

-- Two equal readings give the same.
pub gives_by : {X Y : Type 0} (view : X → Y) (r : Result X Refused) (a b : Result Y Stop) → a ≡ b → Gives view r b → Gives view r a
gives_by view r a b e h = subst (Gives view r) (sym e) h

-- One reader after another, where the first has read y.
pub gives_then : {X Y Z : Type 0} (view : X → Z) (r : Result X Refused) (q : Result Y Stop) (f : Y → Result Z Stop) (y : Y) → q ≡ Ok y → Gives view r (f y) → Gives view r (q >>= f)
gives_then view r q f y e h = subst (λ z. Gives view r (z >>= f)) (sym e) h

-- What a law says of whole texts.
module _ {T A : Type 0} (p : Rule T A) (c : Class T) where
  same_self : (ts : List T) → SameHead ts ts
  same_self [] = refl
  same_self (t ∷ ts) = (ts, refl)

  all_read : (ts : List T) (a : A) (q : Reading T A) → Reads p.texts p.free c ts q → p.texts ts a → ((x : List T) (b : A) → p.texts x b → p.free x b) → q ≡ Ok (a, [])
  all_read ts a (Ok x) h w i =
      let o = h.only x.1 ts [] a (same_self x.1) (sym h.whole ∙ sym (append-nil ts)) (i ts a w) tt in
      let e : x ≡ (a, []) = pair_eq x (a, []) (sym o.1) (sym o.0) in
      ap (λ z. Ok z) e
  all_read ts a (Err (syntax_at n)) h w i = absurd (h.dead h.rest ts [] a (same_self h.rest) (sym h.whole ∙ sym (append-nil ts)) (i ts a w) tt)
  all_read ts a (Err (limit_at n)) h w i = absurd (h.0.dead h.0.rest ts [] a (same_self h.0.rest) (sym h.0.whole ∙ sym (append-nil ts)) w tt)

-- Each text within the limits is read to its end.
pub reads_text : {T A : Type 0} {p : Rule T A} {f : Class T} {n : Bool} {c : Class T} → Law p f n c → (ts : List T) (a : A) → p.texts ts a → read_whole p ts ≡ Ok a
unfolding read_whole
reads_text {p = p} {c = c} l ts a w = rw (all_read p c ts a (p.read ts) (l.reads ts) w l.shape.within) refl

-- No text has two values, even where the second is one without limits.
pub one_value : {T A : Type 0} {p : Rule T A} {f : Class T} {n : Bool} {c : Class T} → Law p f n c → (ts : List T) (a b : A) → p.texts ts a → p.free ts b → b ≡ a
one_value {p = p} {c = c} l ts a b w v = go (p.read ts) (l.reads ts) (all_read p c ts a (p.read ts) (l.reads ts) w l.shape.within)
  where
    go : (q : Reading _ _) → Reads p.texts p.free c ts q → q ≡ Ok (a, []) → b ≡ a
    go q h e = let k : Took p.texts p.free c ts a [] = subst (Reads p.texts p.free c ts) e h in
        (all_taken p.texts p.free c ts a k).only b v
