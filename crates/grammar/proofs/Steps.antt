-- The steps of repeats, and of any number of texts, for the loop of the code that reads them.
use Rattle.std.proofs.Common.{◌≡◌, ℕ, zero, suc, Bool, true, false, List, [], ◌∷◌, ◌++◌, refl, ap, append_assoc, Ok, Err}
use Rattle.grammar.specs.declared.refused.Refused.{Refused}
use Rattle.grammar.specs.declared.refused.Refused.TheVariants.{NoMemory, Syntax, Limit}
use Rattle.grammar.specs.Reading.{Class, Reading, given, begins_in, ◌>>=◌}
use Rattle.grammar.specs.Repeats.{read_repeats, read_step, read_many}
use Rattle.grammar.specs.Gives.{Refuses}

module _ {T A B : Type 0} (sign : Class T) (guard : A → Bool) (join : A → T → B → A) (p : A → List T → Reading T B) where
  -- A step that read on: the rest is read from there.
  pub repeats_more : (n m : ℕ) (left : A) (ts : List T) (b : Bool) (l : A) (rest : List T) → n ≡ suc m → b ≡ true → read_step sign guard join p left ts ≡ Ok ((b, l), rest) → read_repeats sign guard join p m l rest ≡ read_repeats sign guard join p n left ts
  unfolding read_repeats
  repeats_more n m left ts b l rest h g e = rw (h, e, g) refl

  -- A step that read nothing ends them.
  pub repeats_done : (n m : ℕ) (left : A) (ts : List T) (b : Bool) (l : A) (rest : List T) → n ≡ suc m → b ≡ false → read_step sign guard join p left ts ≡ Ok ((b, l), rest) → read_repeats sign guard join p n left ts ≡ Ok (l, rest)
  unfolding read_repeats
  repeats_done n m left ts b l rest h g e = rw (h, e, g) refl

  -- So does the count.
  pub repeats_end : (n : ℕ) (left : A) (ts : List T) → n ≡ 0 → read_repeats sign guard join p n left ts ≡ Ok (left, ts)
  unfolding read_repeats
  repeats_end n left ts h = rw h refl

  -- A step that refuses: so does the whole.
  pub repeats_fail : (n m : ℕ) (left : A) (ts : List T) (e : Refused) → n ≡ suc m → Refuses e (read_step sign guard join p left ts) → Refuses e (read_repeats sign guard join p n left ts)
  unfolding read_repeats
  repeats_fail n m left ts NoMemory h k = tt
  repeats_fail n m left ts (Syntax i) h k = rw (h, k) refl
  repeats_fail n m left ts (Limit i) h k = rw (h, k) refl

-- What is read, behind the list of what was read before.
abbrev pub with_earlier : {T A : Type 0} → List A → Reading T (List A) → Reading T (List A)
with_earlier done r = r >>= λ x. given (done ++ x.0) x.1

module _ {T A : Type 0} (c : Class T) (p : List T → Reading T A) where
  earlier_step : (done : List A) (a : A) (r : Reading T (List A)) → with_earlier (done ++ a ∷ []) r ≡ with_earlier done (r >>= λ xs. given (a ∷ xs.0) xs.1)
  earlier_step done a (Ok x) = ap (λ l. given l x.1) (append_assoc done (a ∷ []) x.0)
  earlier_step done a (Err e) = refl

  -- One more text: the others are read from there.
  pub many_more : (n m : ℕ) (done : List A) (ts : List T) (a : A) (rest : List T) → n ≡ suc m → begins_in c ts ≡ true → p ts ≡ Ok (a, rest) → with_earlier (done ++ a ∷ []) (read_many c p m rest) ≡ with_earlier done (read_many c p n ts)
  unfolding read_many
  many_more n m done ts a rest h b e = rw (h, b, e) (earlier_step done a (read_many c p m rest))

  -- Where none begins, all are read.
  pub many_done : (n : ℕ) (done : List A) (ts : List T) → begins_in c ts ≡ false → with_earlier done (read_many c p n ts) ≡ Ok (done ++ [], ts)
  unfolding read_many
  many_done zero done ts b = refl
  many_done (suc n) done ts b = rw b refl

  -- So where the count ends.
  pub many_end : (n : ℕ) (done : List A) (ts : List T) → n ≡ 0 → with_earlier done (read_many c p n ts) ≡ Ok (done ++ [], ts)
  unfolding read_many
  many_end n done ts h = rw h refl

  -- A text that is refused: so are all.
  pub many_fails : (n m : ℕ) (done : List A) (ts : List T) (e : Refused) → n ≡ suc m → begins_in c ts ≡ true → Refuses e (p ts) → Refuses e (with_earlier done (read_many c p n ts))
  unfolding read_many
  many_fails n m done ts NoMemory h b k = tt
  many_fails n m done ts (Syntax i) h b k = rw (h, b, k) refl
  many_fails n m done ts (Limit i) h b k = rw (h, b, k) refl
