-- The rules of this crate keep the law.
use Rattle.std.proofs.Common.{◌≡◌, Bool, true, false, ◌||◌, ◌&&◌, refl}
use Rattle.grammar.specs.Reading.{Class, Rule}
use Rattle.grammar.proofs.Build.{token, valued, wide, seq, opt, repeated, after_token, before_token, chained}
use Rattle.grammar.proofs.Chain.{none, with, or_false}
use Rattle.grammar.proofs.Laws.{Law, Disjoint}
use Rattle.grammar.specs.Words as words

pub means_law : {T A B : Type 0} {p : Rule T B} {f : Class T} {n : Bool} {c : Class T} (x : A) → Law p f n c → Law (words.means x p) f n c
means_law {B = B} x l = valued (λ (y : B). x) l

-- t is a token of the class
pub maybe_law : {T : Type 0} (c : Class T) (t : T) → c t ≡ true → Law (words.maybe c) c true c
maybe_law c t e = wide (opt (token c t e)) (λ k h. h) (λ k h. h)

-- t opens and u closes
pub between_law : {T A : Type 0} {p : Rule T A} {f c : Class T} (o : Class T) (t : T) → o t ≡ true → (e : Class T) (u : T) → e u ≡ true → Law p f false c → Disjoint e c → Law (words.between o e p) o false none
between_law o t h e u k l d = after_token o t h (before_token e u k l d)

pub separated_law : {T A : Type 0} {p : Rule T A} {f c : Class T} (sign : Class T) (t : T) → sign t ≡ true → Law p f false c → Disjoint sign c → Law (words.separated sign p) f false (with c sign)
separated_law sign t e l d = chained sign t e words.only words.snoc l d

both_classes : {T : Type 0} (c f : Class T) (k : T) → ((c k || f k) || (true && c k)) ≡ true → (c k || f k) ≡ true
both_classes c f k h = go (c k) (f k) h
  where
    go : (u v : Bool) → ((u || v) || (true && u)) ≡ true → (u || v) ≡ true
    go true v e = refl
    go false true e = refl
    go false false e = e

pub some_law : {T A : Type 0} {p : Rule T A} {f c : Class T} → Law p f false c → Disjoint f c → Law (words.some f p) f false (with c f)
some_law {f = f} {c = c} l d = wide (valued words.cons_of (seq l (repeated l d) d)) (λ k h. or_false (f k) h) (both_classes c f)
