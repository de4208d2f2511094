-- The laws of the combinators in the form for use: rules and classes follow from the laws passed.
-- `Law p f n c`: a text of p begins in the class f, n says whether it may be empty, and c are the
-- tokens that may go on behind a whole text. Each side condition `Disjoint` says that one token of
-- look-ahead decides.
use Rattle.std.proofs.Common.{◌≡◌, Bool, true, false, ◌&&◌, ◌||◌, List, [], ◌∷◌, Some, None, refl}
use Rattle.grammar.specs.Reading.{Class, Rule, one, nothing, both, follow, as_value, either, optional, behind, before, barred}
use Rattle.grammar.specs.Repeats.{always, many, repeats, more_of, chain_by, chain_after, chain}
use Rattle.grammar.proofs.Laws.{Law, Disjoint, Within, or_if}
use Rattle.grammar.proofs.Single.{one_law, nothing_law, value_law, wide_law, same_reads}
use Rattle.grammar.proofs.Follow.{both_law, follow_law}
use Rattle.grammar.proofs.Either.{either_law, either_goes_on}
use Rattle.grammar.proofs.Chain.{none, with, or_false, then_law, repeats_of_law, chain_by_law}
use Rattle.grammar.proofs.ManyLaws.{many_law}
use Rattle.grammar.proofs.Barred.{barred_law}

-- one token of the class c; t is such a token
pub token : {T : Type 0} (c : Class T) (t : T) → c t ≡ true → Law (one c) c false none
token c t e = one_law c t e

-- no token
pub empty : {T A : Type 0} (a : A) → Law (nothing {T = T} a) none true none
empty a = nothing_law a

-- one text after another
pub seq : {T A B : Type 0} {p : Rule T A} {q : Rule T B} {f : Class T} {n : Bool} {c : Class T} {f' : Class T} {n' : Bool} {c' : Class T} → Law p f n c → Law q f' n' c' → Disjoint f' c → Law (both p q) (or_if n f f') (n && n') (or_if n' c' c)
seq {p = p} {q = q} {f = f} {n = n} {c = c} {f' = f'} {n' = n'} {c' = c'} l l' d = both_law p q f n c f' n' c' l l' d

-- the second depends on the value of the first
pub then_by : {T A B : Type 0} {p : Rule T A} {q : A → Rule T B} {f : Class T} {n : Bool} {c : Class T} {f' : Class T} {n' : Bool} {c' : Class T} → Law p f n c → ((a : A) → Law (q a) f' n' c') → Disjoint f' c → Law (follow p q) (or_if n f f') (n && n') (or_if n' c' c)
then_by {p = p} {q = q} {f = f} {n = n} {c = c} {f' = f'} {n' = n'} {c' = c'} l l' d = follow_law p q f n c f' n' c' l l' d

-- other values
pub valued : {T A B : Type 0} {p : Rule T A} {f : Class T} {n : Bool} {c : Class T} (g : A → B) → Law p f n c → Law (as_value g p) f n c
valued {p = p} {f = f} {n = n} {c = c} g l = value_law g p f n c l

-- larger classes
pub wide : {T A : Type 0} {p : Rule T A} {f : Class T} {n : Bool} {c : Class T} {f' : Class T} {c' : Class T} → Law p f n c → Within f f' → Within c c' → Law p f' n c'
wide {p = p} {f = f} {n = n} {c = c} {f' = f'} {c' = c'} l w w' = wide_law p f n c f' c' l w w'

-- a text that may be empty, as far as is said
pub maybe : {T A : Type 0} {p : Rule T A} {f : Class T} {n : Bool} {c : Class T} → Law p f n c → Law p f true c
maybe l = record {
  shape = record { begins = l.shape.begins; empty = λ a w. refl; within = l.shape.within; text = l.shape.text; value = l.shape.value; sample = l.shape.sample };
  reads = l.reads;
}

-- the first where a token of g comes, else the second
pub alt : {T A : Type 0} {p : Rule T A} {q : Rule T A} {f : Class T} {c : Class T} {f' : Class T} {n' : Bool} {c' : Class T} (g : Class T) → Law p f false c → Within f g → Law q f' n' c' → Disjoint g f' → Law (either g p q) (λ k. g k || f' k) n' (either_goes_on g n' c c')
alt {p = p} {q = q} {f = f} {c = c} {f' = f'} {n' = n'} {c' = c'} g l w l' d = either_law p q g c f' n' c' (wide_law p f false c g c l w (λ k h. h)) l' d

-- a text, or none
pub opt : {T A : Type 0} {p : Rule T A} {f : Class T} {c : Class T} → Law p f false c → Law (optional f p) f true (with c f)
opt {A = A} {p = p} {f = f} {c = c} l =
    wide_law (optional f p) (λ k. f k || false) true (either_goes_on f true c none) f (with c f)
    (either_law (as_value Some p) (nothing None) f c none true none (value_law Some p f false c l) (nothing_law None) (λ k h. refl))
    (λ k h. or_false (f k) h) (λ k h. h)

-- a text behind one token of the class c; t is such a token
pub after_token : {T A : Type 0} {p : Rule T A} {f : Class T} {n : Bool} {g : Class T} (c : Class T) (t : T) → c t ≡ true → Law p f n g → Law (behind c p) c false g
after_token {T} {A} {p = p} {f = f} {n = n} {g = g} c t e l = value_law (λ (x : T × A). x.1) (both (one c) p) c false g (then_law c t e p f n g l)

-- { p }
pub repeated : {T A : Type 0} {p : Rule T A} {f : Class T} {c : Class T} → Law p f false c → Disjoint f c → Law (many f p) f true (with c f)
repeated {p = p} {f = f} {c = c} l d = many_law f p c l d

-- a text before one token of the class g; t is such a token
pub before_token : {T A : Type 0} {p : Rule T A} {f : Class T} {n : Bool} {c : Class T} (g : Class T) (t : T) → g t ≡ true → Law p f n c → Disjoint g c → Law (before g p) (or_if n f g) (n && false) (or_if false none c)
before_token {T} {A} {p = p} {f = f} {n = n} {c = c} g t e l d = value_law (λ (x : A × T). x.0) (both p (one g)) (or_if n f g) (n && false) (or_if false none c) (both_law p (one g) f n c g false none l (one_law g t e) d)

-- { sign p } behind l, each only where the guard lets what stands before grow; t is a token of sign
pub repeats_by : {T A B : Type 0} {p : A → Rule T B} {f : Class T} {n : Bool} {c : Class T} (sign : Class T) (t : T) → sign t ≡ true → (guard : A → Bool) (join : A → T → B → A) → ((a : A) → Law (p a) f n c) → Disjoint sign c → (l : A) → Law (repeats sign guard join p l) sign true (with c sign)
repeats_by {p = p} {f = f} {n = n} {c = c} sign t e guard join lp d l = repeats_of_law sign t e guard join p f n c lp d l

-- { sign p } behind l
pub more : {T A B : Type 0} {p : Rule T B} {f : Class T} {n : Bool} {c : Class T} (sign : Class T) (t : T) → sign t ≡ true → (join : A → T → B → A) → Law p f n c → Disjoint sign c → (l : A) → Law (more_of sign join p l) sign true (with c sign)
more {p = p} {f = f} {n = n} {c = c} sign t e join lp d l = repeats_of_law sign t e always join (λ _. p) f n c (λ _. lp) d l

-- q { sign p }, each more only where the guard lets what stands before grow; t is a token of sign
pub chained_by : {T A B C : Type 0} {q : Rule T C} {p : A → Rule T B} {f' : Class T} {n' : Bool} {f : Class T} {n : Bool} {c : Class T} (sign : Class T) (t : T) → sign t ≡ true → (guard : A → Bool) (first : C → A) (join : A → T → B → A) → Law q f' n' c → ((a : A) → Law (p a) f n c) → Disjoint sign c → Law (chain_by sign guard first join q p) (or_if n' f' sign) (n' && true) (with c sign)
chained_by {q = q} {p = p} {f' = f'} {n' = n'} {f = f} {n = n} {c = c} sign t e guard first join lq lp d = chain_by_law sign t e guard first join q p f' n' f n c lq lp d

-- q { sign p }
pub chained_after : {T A B C : Type 0} {q : Rule T C} {p : Rule T B} {f' : Class T} {n' : Bool} {f : Class T} {n : Bool} {c : Class T} (sign : Class T) (t : T) → sign t ≡ true → (first : C → A) (join : A → T → B → A) → Law q f' n' c → Law p f n c → Disjoint sign c → Law (chain_after sign first join q p) (or_if n' f' sign) (n' && true) (with c sign)
chained_after {q = q} {p = p} {f' = f'} {n' = n'} {f = f} {n = n} {c = c} sign t e first join lq lp d = chain_by_law sign t e always first join q (λ _. p) f' n' f n c lq (λ _. lp) d

-- p { sign p }
pub chained : {T A B : Type 0} {p : Rule T B} {f : Class T} {c : Class T} (sign : Class T) (t : T) → sign t ≡ true → (first : B → A) (join : A → T → B → A) → Law p f false c → Disjoint sign c → Law (chain sign first join p) f false (with c sign)
chained {p = p} {f = f} {c = c} sign t e first join l d =
    wide_law (chain sign first join p) (or_if false f sign) false (with c sign) f (with c sign)
    (chain_by_law sign t e always first join p (λ _. p) f false f false c l (λ _. l) d) (λ k h. or_false (f k) h) (λ k h. h)

-- q, and where a token of c comes, a text of u without limits
pub bar : {T A : Type 0} {q : Rule T A} {f : Class T} {g : Class T} (c : Class T) (u : List T → A → Type 0) → ((t : T) (x : List T) (a : A) → u (t ∷ x) a → c t ≡ true) → ((a : A) → u [] a → ⊥) → ((t : T) → c t ≡ true → (more : List T) × (a : A) × u (t ∷ more) a) → Law q f false g → Disjoint c f → Law (barred c u q) (λ k. c k || f k) false g
bar {q = q} {f = f} {g = g} c u begins some text l d = barred_law c u q f g begins some text l d

-- the same texts, said in another way
pub said : {T A : Type 0} {p : Rule T A} {f : Class T} {n : Bool} {c : Class T} (P U : List T → A → Type 0) →
    ((ts : List T) (a : A) → p.texts ts a → P ts a) → ((ts : List T) (a : A) → P ts a → p.texts ts a) →
    ((ts : List T) (a : A) → p.free ts a → U ts a) → ((ts : List T) (a : A) → U ts a → p.free ts a) →
    Law p f n c → Law (record { texts = P; free = U; read = p.read }) f n c
said {p = p} {f = f} {n = n} {c = c} P U to from to' from' l = record {
  shape = record {
    begins = λ t x a w. l.shape.begins t x a (from' (t ∷ x) a w);
    empty = λ a w. l.shape.empty a (from' [] a w);
    within = λ x a w. to' x a (l.shape.within x a (from x a w));
    text = l.shape.text;
    value = l.shape.value;
    sample = to l.shape.text l.shape.value l.shape.sample;
  };
  reads = λ ts. same_reads p.texts p.free P U to from to' from' c ts (p.read ts) (l.reads ts);
}
