-- Those whose waits statements of others have cancelled.
use Rattle.std.proofs.Common.{◌≡◌, ◌≢◌, ℕ, zero, suc, ◌+◌, ◌==◌, ◌<◌, ◌≤◌, ◌||◌, Bool, true, false, List, [], ◌∷◌, ◌++◌, refl, ap, sym, ◌∙◌, subst, arith, inl, inr, Option, Some, None}
use Rattle.std.proofs.lemmas.Grind.{common_steps}
use Rattle.std.proofs.lemmas.Bool.{cases_Bool, cases_eq}
use Rattle.std.proofs.lemmas.Bool.Decides.{nat_tests}
use Rattle.schedule.specs.Lists.{first, is_in, without}
use Rattle.statement_runs.specs.Database.{is_ready}
use Rattle.statement_runs.specs.Weight.{of_mark, sum_below, cut_of}
use Rattle.run_ends.proofs.Sums.{sum_less}

-- ---- who is first

pub is_itself : (s : ℕ) → is_ready (Some s) s ≡ true
is_itself s = grind (arith, common_steps, nat_tests)

or_left : (b c : Bool) → b ≡ true → (b || c) ≡ true
or_left true c e = refl
or_left false c e = absurd (cc)

or_right : (b c : Bool) → c ≡ true → (b || c) ≡ true
or_right true c e = refl
or_right false c e = e

or_other : (b c : Bool) → (b || c) ≡ true → b ≡ false → c ≡ true
or_other true c e f = absurd (cc)
or_other false c e f = e

pub ready_some : (o : Option ℕ) (s : ℕ) → is_ready o s ≡ true → o ≡ Some s
ready_some None s e = absurd (cc)
ready_some (Some r) s e = let same : r ≡ s = grind (arith, common_steps, nat_tests, e) in ap Some same

found_here : (p : ℕ → Bool) (x : ℕ) (xs : List ℕ) → p x ≡ true → first p (x ∷ xs) ≡ Some x
found_here p x xs t = rw t refl

found_later : (p : ℕ → Bool) (x : ℕ) (xs : List ℕ) → p x ≡ false → first p (x ∷ xs) ≡ first p xs
found_later p x xs f = rw f refl

in_head : (s : ℕ) (xs : List ℕ) → is_in s (s ∷ xs) ≡ true
in_head s xs = grind (arith, common_steps, nat_tests)

pub first_passes : (p : ℕ → Bool) (xs : List ℕ) (s : ℕ) → first p xs ≡ Some s → p s ≡ true
first_passes p [] s e = absurd (cc)
first_passes p (x ∷ xs) s e =
    elim (cases_Bool (p x)) [
      | inl t ↦ let is : Some x ≡ Some s = sym (found_here p x xs t) ∙ e in let same : x ≡ s = cc in subst (λ y. p y ≡ true) same t
      | inr f ↦ first_passes p xs s (sym (found_later p x xs f) ∙ e)
    ]

pub first_in : (p : ℕ → Bool) (xs : List ℕ) (s : ℕ) → first p xs ≡ Some s → is_in s xs ≡ true
first_in p [] s e = absurd (cc)
first_in p (x ∷ xs) s e =
    elim (cases_Bool (p x)) [
      | inl t ↦ let is : Some x ≡ Some s = sym (found_here p x xs t) ∙ e in let same : x ≡ s = cc in subst (λ y. is_in y (x ∷ xs) ≡ true) same (in_head x xs)
      | inr f ↦ or_right (x == s) (is_in s xs) (first_in p xs s (sym (found_later p x xs f) ∙ e))
    ]

-- ---- how many there are

mark_more : (b c : Bool) → of_mark b ≤ of_mark c + 1
mark_more true c = omega arith
mark_more false c = omega arith

mark_mono : (b c : Bool) → (b ≡ true → c ≡ true) → of_mark b ≤ of_mark c
mark_mono true c f = let e = f refl in rw e (omega arith)
mark_mono false c f = omega arith

mark_less : (b c : Bool) → b ≡ false → c ≡ true → of_mark b < of_mark c
mark_less b c f t = rw (f, t) (omega arith)

mark_same : (b c : Bool) → b ≡ c → of_mark b ≤ of_mark c
mark_same b c e = rw e (omega arith)

-- one more

sum_past : (n s : ℕ) (f g : ℕ → ℕ) → ((r : ℕ) → s ≢ r → f r ≤ g r) → n ≤ s → sum_below n f ≤ sum_below n g
sum_past zero s f g others past = omega arith
sum_past (suc n) s f g others past = let h = sum_past n s f g others (omega (arith, past)) in let k = others n (λ same. omega (arith, past, same)) in omega (arith, h, k)

sum_one_more : (n s : ℕ) (f g : ℕ → ℕ) → ((r : ℕ) → s ≢ r → f r ≤ g r) → f s ≤ g s + 1 → sum_below n f ≤ sum_below n g + 1
sum_one_more zero s f g others own = omega arith
sum_one_more (suc n) s f g others own =
    elim (cases_eq s n) [
      | inl same ↦ let h = sum_past n s f g others (omega (arith, same)) in let k = subst (λ x. f x ≤ g x + 1) same own in omega (arith, h, k)
      | inr other ↦ let h = sum_one_more n s f g others own in let k = others n other in omega (arith, h, k)
    ]

in_added : (s r : ℕ) (cut : List ℕ) → s ≢ r → is_in r (cut ++ s ∷ []) ≡ is_in r cut
in_added s r [] other = grind (arith, common_steps, nat_tests, other)
in_added s r (x ∷ cut) other = ap (λ b. (x == r) || b) (in_added s r cut other)

pub cut_added : (n s : ℕ) (cut : List ℕ) → cut_of n (cut ++ s ∷ []) ≤ cut_of n cut + 1
cut_added n s cut = sum_one_more n s (λ r. of_mark (is_in r (cut ++ s ∷ []))) (λ r. of_mark (is_in r cut))
    (λ r other. mark_same (is_in r (cut ++ s ∷ [])) (is_in r cut) (in_added s r cut other)) (mark_more (is_in s (cut ++ s ∷ [])) (is_in s cut))

-- one less

dropped_here : (s x : ℕ) (cut : List ℕ) → (x == s) ≡ true → without s (x ∷ cut) ≡ without s cut
dropped_here s x cut t = rw t refl

kept_here : (s x : ℕ) (cut : List ℕ) → (x == s) ≡ false → without s (x ∷ cut) ≡ x ∷ without s cut
kept_here s x cut f = rw f refl

gone : (s : ℕ) (cut : List ℕ) → is_in s (without s cut) ≡ false
gone s [] = refl
gone s (x ∷ cut) =
    elim (cases_Bool (x == s)) [
      | inl t ↦ ap (is_in s) (dropped_here s x cut t) ∙ gone s cut
      | inr f ↦ ap (is_in s) (kept_here s x cut f) ∙ (ap (λ b. b || is_in s (without s cut)) f ∙ gone s cut)
    ]

in_before : (s r : ℕ) (cut : List ℕ) → is_in r (without s cut) ≡ true → is_in r cut ≡ true
in_before s r [] e = e
in_before s r (x ∷ cut) e =
    elim (cases_Bool (x == s)) [
      | inl t ↦ or_right (x == r) (is_in r cut) (in_before s r cut (sym (ap (is_in r) (dropped_here s x cut t)) ∙ e))
      | inr f ↦
          elim (cases_Bool (x == r)) [
            | inl t ↦ or_left (x == r) (is_in r cut) t
            | inr g ↦ or_right (x == r) (is_in r cut) (in_before s r cut (or_other (x == r) (is_in r (without s cut)) (sym (ap (is_in r) (kept_here s x cut f)) ∙ e) g))
          ]
    ]

pub cut_gone : (n s : ℕ) (cut : List ℕ) → s < n → is_in s cut ≡ true → cut_of n (without s cut) < cut_of n cut
cut_gone n s cut lt among = sum_less n s (λ r. of_mark (is_in r (without s cut))) (λ r. of_mark (is_in r cut))
    (λ r. mark_mono (is_in r (without s cut)) (is_in r cut) (in_before s r cut)) lt (mark_less (is_in s (without s cut)) (is_in s cut) (gone s cut) among)
