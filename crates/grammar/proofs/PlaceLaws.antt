-- Where a text is refused, from the law of its rule.
use Rattle.std.proofs.Common.{◌≡◌, ◌<◌, ℕ, Bool, true, false, nat_lt, List, [], ◌∷◌, ◌++◌, length, Option, Err, refl, sym, ◌∙◌, ap, subst, arith, append_assoc, length-append}
use Rattle.grammar.specs.Gives.{Refuses}
use Rattle.grammar.specs.Parses.{FailsAt, SameNext}
use Rattle.grammar.specs.Reading.{Class, Rule, read_whole}
use Rattle.grammar.specs.declared.refused.Refused.{Refused}
use Rattle.grammar.specs.declared.refused.Refused.TheVariants as refused
use Rattle.grammar.proofs.Laws.{Law, head_eq, tail_eq}
use Rattle.grammar.proofs.WholeLaws.{parses}
use Rattle.grammar.specs.Places.{StopsAt, StopsWith, token_at}

abbrev itself : {A : Type 0} → A → A
itself x = x

same_next : {T : Type 0} (ts : List T) → SameNext ts ts
same_next [] = refl
same_next (t ∷ ts) = (ts, refl)

module _ {T A : Type 0} {p : Rule T A} {f : Class T} {n : Bool} {c : Class T} (law : Law p f n c) (ts : List T) where
  -- what fits in no text without limits fits in none within them
  narrow : (left : ℕ) → FailsAt p.texts p.free ts left → FailsAt p.texts p.texts ts left
  narrow left h = record {
    front = h.front;
    after = h.after;
    whole = h.whole;
    left_is = h.left_is;
    more = h.more;
    value = h.value;
    begins = h.begins;
    no_more = λ more b same w. h.no_more more b same (law.shape.within (h.front ++ more) b w);
  }

  -- a reader that refuses has stopped at such a token
  pub stops : (e : Refused) → Refuses e (read_whole p ts) → StopsWith p ts e
  stops refused.NoMemory h = tt
  stops (refused.Syntax left) h = (left, narrow left (parses itself ts (Err (refused.Syntax left)) law h), refl)
  stops (refused.Limit left) h = (left, (parses itself ts (Err (refused.Limit left)) law h).0, refl)

-- what is refused at a token is no text
pub no_text : {T A : Type 0} (p : Rule T A) (ts : List T) (o : Option T) → StopsAt p ts o → (x : A) → p.texts ts x → ⊥
no_text p ts o h x w = h.1.no_more h.1.after x (same_next h.1.after) (subst (λ z. p.texts z x) h.1.whole w)

-- Two ways to cut a list: the longer front goes on with what the shorter one has behind it.
cut_longer : {T : Type 0} (f g a b : List T) → f ++ a ≡ g ++ b → length a < length b → (t : T) × (u : List T) × (f ≡ g ++ t ∷ u) × (b ≡ t ∷ (u ++ a))
cut_longer [] [] a b e h = absurd (omega (arith, h, ap length e))
cut_longer (t ∷ u) [] a b e h = (t, u, refl, sym e)
cut_longer [] (x ∷ g) a b e h = absurd (omega (arith, h, ap length e, length-append g b))
cut_longer (y ∷ f) (x ∷ g) a b e h =
    let r = cut_longer f g a b (tail_eq e) h in
    (r.0, r.1, ap (λ z. z ∷ f) (head_eq e) ∙ ap (λ z. x ∷ z) r.2, r.3)

module _ {T A : Type 0} (P : List T → A → Type 0) (ts : List T) where
  not_before : (m n : ℕ) → FailsAt P P ts m → FailsAt P P ts n → m < n → ⊥
  not_before m n h k l =
      let r = cut_longer h.front k.front h.after k.after (sym h.whole ∙ k.whole) (omega (arith, l, h.left_is, k.left_is)) in
      k.no_more (r.0 ∷ (r.1 ++ h.more)) h.value (subst (λ (z : List T). SameNext z (r.0 ∷ (r.1 ++ h.more))) (sym r.3) (r.1 ++ h.more, refl))
      (subst (λ (z : List T). P z h.value) (ap (λ (z : List T). z ++ h.more) r.2 ∙ append_assoc k.front (r.0 ∷ r.1) h.more) h.begins)

  -- a text stops at one place
  pub one_place : (m n : ℕ) → FailsAt P P ts m → FailsAt P P ts n → m ≡ n
  one_place m n h k = go (nat_lt m n) (nat_lt n m) refl refl
    where
      go : (b c : Bool) → nat_lt m n ≡ b → nat_lt n m ≡ c → m ≡ n
      go true c e f = absurd (not_before m n h k (grind (arith, e)))
      go false true e f = absurd (not_before n m k h (grind (arith, f)))
      go false false e f = grind (arith, e, f)
