-- Repeats and chains of any rules keep the law.
use Rattle.std.proofs.Common.{◌≡◌, Bool, true, false, ◌&&◌, ◌||◌, refl, subst, Ok, Err}
use Rattle.grammar.specs.Reading.{Class, Rule, Reading, given, ◌>>=◌, one, both, follow, as_value}
use Rattle.grammar.specs.Repeats.{repeats, second_of, chain_by}
use Rattle.grammar.proofs.Laws.{Law, Reads, Disjoint, Within, or_if}
use Rattle.grammar.proofs.Single.{one_law, value_law, wide_law}
use Rattle.grammar.proofs.Follow.{both_law, follow_law}
use Rattle.grammar.proofs.Repeats.{repeats_law}

-- no token
abbrev pub none : {T : Type 0} → Class T
none t = false

-- the tokens of either
abbrev pub with : {T : Type 0} → Class T → Class T → Class T
with c d t = c t || d t

pub or_false : (b : Bool) → (b || false) ≡ true → b ≡ true
or_false true h = refl
or_false false h = h

no_more : (n b : Bool) → (b || (n && false)) ≡ true → b ≡ true
no_more n true h = refl
no_more true false h = h
no_more false false h = h

-- one token, and a text behind it, which may be empty
pub then_law : {T A : Type 0} (c : Class T) (t : T) (e : c t ≡ true) (p : Rule T A) (f : Class T) (n : Bool) (g : Class T) → Law p f n g → Law (both (one c) p) c false g
then_law c t e p f n g l =
    wide_law (both (one c) p) (or_if false c f) false (or_if n g none) c g
    (both_law (one c) p c false none f n g (one_law c t e) l (λ k h. refl))
    (λ k h. or_false (c k) h) (λ k h. no_more n (g k) h)

-- { sign p } behind l
pub repeats_of_law : {T A B : Type 0} (sign : Class T) (t : T) (e : sign t ≡ true) (guard : A → Bool) (join : A → T → B → A) (p : A → Rule T B) (f : Class T) (n : Bool) (g : Class T) → ((a : A) → Law (p a) f n g) → Disjoint sign g → (l : A) → Law (repeats sign guard join p l) sign true (with g sign)
repeats_of_law sign t e guard join p f n g lp d l = repeats_law sign guard join p g f n (λ a. (lp a).shape) (λ a. then_law sign t e (p a) f n g (lp a)) d l

module _ {T A B C : Type 0} (sign : Class T) (t : T) (e : sign t ≡ true) (guard : A → Bool) (start : C → A) (join : A → T → B → A) (q : Rule T C) (p : A → Rule T B) (f' : Class T) (n' : Bool) (f : Class T) (n : Bool) (g : Class T) (lq : Law q f' n' g) (lp : (a : A) → Law (p a) f n g) (d : Disjoint sign g) where
  abbrev rest : C → Rule T A
  rest c = repeats sign guard join p (start c)

  repeats_last : (x : C) (r : Reading T A) → ((r >>= λ y. given {A = C × A} (x, y.0) y.1) >>= λ z. given (second_of z.0) z.1) ≡ r
  repeats_last x (Ok y) = refl
  repeats_last x (Err e) = refl

  repeats_after : (r : Reading T C) →
      ((r >>= λ x. (rest x.0).read x.1 >>= λ y. given {A = C × A} (x.0, y.0) y.1) >>= λ z. given (second_of z.0) z.1) ≡ (r >>= λ x. (rest x.0).read x.1)
  repeats_after (Ok x) = repeats_last x.0 ((rest x.0).read x.1)
  repeats_after (Err e) = refl

  more_class : Within (or_if true (with g sign) g) (with g sign)
  more_class k h = go (g k) (sign k) h
    where
      go : (u v : Bool) → ((u || v) || u) ≡ true → (u || v) ≡ true
      go true v e = refl
      go false true e = refl
      go false false e = e

  pub chain_by_law : Law (chain_by sign guard start join q p) (or_if n' f' sign) (n' && true) (with g sign)
  chain_by_law =
      let b = follow_law q rest f' n' g sign true (with g sign) lq (λ c. repeats_of_law sign t e guard join p f n g lp d (start c)) d in
      let v = wide_law (as_value second_of (follow q rest)) (or_if n' f' sign) (n' && true) (or_if true (with g sign) g) (or_if n' f' sign) (with g sign) (value_law second_of (follow q rest) (or_if n' f' sign) (n' && true) (or_if true (with g sign) g) b) (λ k h. h) more_class in
      record {
        shape = v.shape;
        reads = λ ts. subst (Reads (chain_by sign guard start join q p).texts (chain_by sign guard start join q p).free (with g sign) ts) (repeats_after (q.read ts)) (v.reads ts);
      }
