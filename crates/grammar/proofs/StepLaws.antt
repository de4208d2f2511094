-- The steps of a loop that reads any number of texts.
use Rattle.std.proofs.Common.{◌≡◌, ℕ, suc, Bool, true, false, cond, List, [], ◌∷◌, ◌++◌, Result, Ok, Err, refl, sym, ◌∙◌, ap}
use Rattle.std.proofs.lemmas.List.{append-nil}
use Rattle.grammar.specs.declared.refused.Refused.{Refused}
use Rattle.grammar.specs.declared.refused.Refused.TheVariants.{NoMemory, Syntax, Limit}
use Rattle.grammar.specs.Gives.{Refuses}
use Rattle.grammar.specs.Reading.{Class, Reading, Stop, given, ◌>>=◌, begins_in}
use Rattle.grammar.specs.Repeats.{read_many}
use Rattle.grammar.proofs.Steps.{many_more, many_done, many_end, many_fails}
use Rattle.grammar.specs.Steps.{many_step, with_earlier}

abbrev an_err : {A : Type 0} → Stop → Result A Stop
an_err s = Err s

stop_eq : {A : Type 0} {s t : Stop} → an_err {A = A} s ≡ an_err t → s ≡ t
stop_eq e = cc

abbrev an_ok : {A : Type 0} → A → Result A Stop
an_ok a = Ok a

ok_eq : {A : Type 0} (u v : A) → an_ok u ≡ an_ok v → u ≡ v
ok_eq u v e = cc

no_both : (b : Bool) → b ≡ true → b ≡ false → ⊥
no_both b h k = cc

module _ {T A : Type 0} (c : Class T) (p : List T → Reading T A) where
  abbrev step_by : Bool → Reading T A → List A → List T → Reading T (Bool × List A)
  step_by b r done ts = cond b (r >>= λ x. given (true, done ++ x.0 ∷ []) x.1) (given (false, done) ts)

  -- a step that read a text: the others are read from there
  pub step_more : (n m : ℕ) (done : List A) (ts : List T) (b : Bool) (l : List A) (rest : List T) → n ≡ suc m → b ≡ true → many_step c p done ts ≡ Ok ((b, l), rest) → with_earlier l (read_many c p m rest) ≡ with_earlier done (read_many c p n ts)
  unfolding many_step
  step_more n m done ts b l rest h g e = go (begins_in c ts) (p ts) refl refl e
    where
      go : (u : Bool) (r : Reading T A) → begins_in c ts ≡ u → p ts ≡ r → step_by u r done ts ≡ Ok ((b, l), rest) → with_earlier l (read_many c p m rest) ≡ with_earlier done (read_many c p n ts)
      go true (Ok x) i j k =
          let eq : ((b, l), rest) ≡ ((true, done ++ x.0 ∷ []), x.1) = sym (ok_eq _ _ k) in
          let el : l ≡ done ++ x.0 ∷ [] = ap (λ z. z.0.1) eq in
          let er : rest ≡ x.1 = ap (λ z. z.1) eq in
          ap (λ z. with_earlier z (read_many c p m rest)) el ∙ ap (λ z. with_earlier (done ++ x.0 ∷ []) (read_many c p m z)) er ∙ many_more c p n m done ts x.0 x.1 h i j
      go true (Err s) i j k = cc
      go false r i j k =
          absurd (no_both b g (sym (ap (λ z. z.0.0) (ok_eq _ _ k))))

  -- a step that read nothing is the last
  pub step_done : (n : ℕ) (done : List A) (ts : List T) (b : Bool) (l : List A) (rest : List T) → b ≡ false → many_step c p done ts ≡ Ok ((b, l), rest) → with_earlier done (read_many c p n ts) ≡ Ok (l, rest)
  unfolding many_step
  step_done n done ts b l rest g e = go (begins_in c ts) (p ts) refl refl e
    where
      go : (u : Bool) (r : Reading T A) → begins_in c ts ≡ u → p ts ≡ r → step_by u r done ts ≡ Ok ((b, l), rest) → with_earlier done (read_many c p n ts) ≡ Ok (l, rest)
      go true (Ok x) i j k =
          absurd (no_both b (sym (ap (λ z. z.0.0) (ok_eq _ _ k))) g)
      go true (Err s) i j k = cc
      go false r i j k =
          let eq : ((false, done), ts) ≡ ((b, l), rest) = ok_eq _ _ k in
          let el : done ≡ l = ap (λ z. z.0.1) eq in
          let er : ts ≡ rest = ap (λ z. z.1) eq in
          many_done c p n done ts i ∙ ap (λ z. Ok (z, ts)) (append-nil done ∙ el) ∙ ap (λ z. Ok (l, z)) er

  -- so is the last that the count allows
  pub step_end : (n : ℕ) (done : List A) (ts : List T) → n ≡ 0 → with_earlier done (read_many c p n ts) ≡ Ok (done, ts)
  step_end n done ts h = many_end c p n done ts h ∙ ap (λ z. Ok (z, ts)) (append-nil done)

  -- a step that refuses
  pub step_fails : (n m : ℕ) (done : List A) (ts : List T) (e : Refused) → n ≡ suc m → Refuses e (many_step c p done ts) → Refuses e (with_earlier done (read_many c p n ts))
  unfolding many_step
  step_fails n m done ts e h k = go (begins_in c ts) (p ts) refl refl e k
    where
      go : (u : Bool) (r : Reading T A) → begins_in c ts ≡ u → p ts ≡ r → (e : Refused) → Refuses e (step_by u r done ts) → Refuses e (with_earlier done (read_many c p n ts))
      go u r i j NoMemory k = tt
      go true (Ok x) i j (Syntax a) k = cc
      go true (Ok x) i j (Limit a) k = cc
      go true (Err s) i j (Syntax a) k = many_fails c p n m done ts (Syntax a) h i (j ∙ ap (λ z. Err z) (stop_eq k))
      go true (Err s) i j (Limit a) k = many_fails c p n m done ts (Limit a) h i (j ∙ ap (λ z. Err z) (stop_eq k))
      go false r i j (Syntax a) k = cc
      go false r i j (Limit a) k = cc
