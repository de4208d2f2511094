-- Names of sessions and steps.
use Rattle.std.proofs.Common.{◌≡◌, ◌<◌, ℕ, suc, ◌+◌, Bool, true, false, cond, List, [], ◌∷◌, ◌++◌, length, take, drop, get_or, Option, Some, None, is_some, is_none, refl, sym, ◌∙◌, ap, subst, arith, append_assoc}
use Rattle.std.proofs.lemmas.List.{take_more, length-take-le, append-nil}
use Rattle.std.specs.Borrow.{Bor}
use Rattle.std.specs.Map.{lookup}
use Rattle.std.specs.Option.{option_or}
use Rattle.spec_reader.specs.Faults.{told, first_behind, first_told, shown, session_of, numbered, steps_from, steps_of, double_step, is_session, double_name}
use Rattle.spec_reader.specs.Finds.{Found}
use Rattle.spec_reader.specs.declared.fault.SpecFault.{SpecFault}
use Rattle.spec_reader.specs.declared.fault.SpecFault.TheVariants.{DoubleName}
use Rattle.spec_reader.specs.declared.spec.SessionSpec.{SessionSpec}
use Rattle.spec_reader.specs.declared.spec.StepSpec.{StepSpec}
use Rattle.spec_reader.proofs.Firsts.{found_first, first_found, first_passes, nothing_told, is_told}

-- keys that are lent
pub shown_lookup : (test : List ℕ → Bool) (es : List (Bor (List ℕ) × ℕ)) → lookup (λ k. test k.now) es ≡ lookup test (shown es)
shown_lookup test [] = refl
shown_lookup test (e ∷ es) = ap (λ z. cond (test e.0.now) (Some e.1) z) (shown_lookup test es)

pub shown_push : (es : List (Bor (List ℕ) × ℕ)) (e : Bor (List ℕ) × ℕ) → shown (es ++ e ∷ []) ≡ shown es ++ (e.0.now, e.1) ∷ []
shown_push [] e = refl
shown_push (x ∷ es) e = ap (λ (z : List (List ℕ × ℕ)). (x.0.now, x.1) ∷ z) (shown_push es e)

-- one step more
pub numbered_push : (n : ℕ) (ts : List StepSpec) (t : StepSpec) → numbered n (ts ++ t ∷ []) ≡ numbered n ts ++ (t.name, n) ∷ []
numbered_push n [] t = refl
numbered_push n (x ∷ ts) t = ap (λ (z : List (List ℕ × ℕ)). (x.name, n) ∷ z) (numbered_push n ts t)

-- the steps of one session more
steps_push : (n : ℕ) (ss : List SessionSpec) (s : SessionSpec) → steps_from n (ss ++ s ∷ []) ≡ steps_from n ss ++ numbered (n + length ss) s.steps
steps_push n [] s =
    let e : n ≡ n + 0 = omega arith in
    append-nil (numbered n s.steps) ∙ ap (λ k. numbered k s.steps) e
steps_push n (x ∷ ss) s =
    let e : suc n + length ss ≡ n + suc (length ss) = omega arith in
    ap (λ z. numbered n x.steps ++ z) (steps_push (suc n) ss s ∙ ap (λ k. steps_from (suc n) ss ++ numbered k s.steps) e)
    ∙ sym (append_assoc (numbered n x.steps) (steps_from (suc n) ss) (numbered (n + suc (length ss)) s.steps))

none_is : (o : Option ℕ) (b : Bool) → b ≡ is_none o → b ≡ false → is_some o ≡ true
none_is None b h k = cc
none_is (Some n) b h k = refl

some_not : (o : Option ℕ) (b : Bool) → b ≡ is_none o → b ≡ true → is_some o ≡ false
some_not None b h k = refl
some_not (Some n) b h k = cc

module _ (earlier names : List (List ℕ × ℕ)) (n : ℕ) (ts : List StepSpec) (i : ℕ) (t : StepSpec) (h : i < length ts) (e : get_or ts i t ≡ t)
    (noted : names ≡ earlier ++ numbered n (take i ts)) (bytes : List ℕ) (same : bytes ≡ t.name) (b : Bool) (new : b ≡ is_none (session_of names bytes)) where
  where_it_is : session_of names bytes ≡ session_of (earlier ++ numbered n (take i ts)) t.name
  where_it_is = ap (λ z. session_of z bytes) noted ∙ ap (session_of (earlier ++ numbered n (take i ts))) same

  pub step_is_double : b ≡ false → (f : SpecFault) → Found f (Some (DoubleName t.name)) → Found f (first_behind (double_step earlier n) (take i ts) (drop i ts))
  step_is_double k f w =
      first_found (double_step earlier n) ts i t f h e
      (subst (Found f) (sym (is_told (is_some (session_of (earlier ++ numbered n (take i ts)) t.name)) (DoubleName t.name) (ap is_some (sym where_it_is) ∙ none_is (session_of names bytes) b new k))) w)

  pub step_is_new : b ≡ true → first_behind (double_step earlier n) (take (i + 1) ts) (drop (i + 1) ts) ≡ first_behind (double_step earlier n) (take i ts) (drop i ts)
  step_is_new k =
      first_passes (double_step earlier n) ts i t h e
      (nothing_told (is_some (session_of (earlier ++ numbered n (take i ts)) t.name)) (DoubleName t.name) (ap is_some (sym where_it_is) ∙ some_not (session_of names bytes) b new k))

  pub step_noted : (more : List (List ℕ × ℕ)) → more ≡ cond b (names ++ (bytes, n) ∷ []) names → b ≡ true → more ≡ earlier ++ numbered n (take (i + 1) ts)
  step_noted more m k =
      m ∙ (ap (λ z. cond z (names ++ (bytes, n) ∷ []) names) k
      ∙ (ap (λ (z : List (List ℕ × ℕ)). z ++ (bytes, n) ∷ []) noted
      ∙ (append_assoc earlier (numbered n (take i ts)) ((bytes, n) ∷ [])
      ∙ ap (λ (z : List (List ℕ × ℕ)). earlier ++ z)
      (ap (λ (x : List ℕ). numbered n (take i ts) ++ (x, n) ∷ []) same
      ∙ (sym (numbered_push n (take i ts) t) ∙ ap (numbered n) (sym (take_more ts i t h ∙ ap (λ (y : StepSpec). take i ts ++ y ∷ []) e)))))))

module _ (ss : List SessionSpec) (i : ℕ) (s : SessionSpec) (h : i < length ss) (e : get_or ss i s ≡ s) (names : List (List ℕ × ℕ)) (noted : names ≡ steps_of (take i ss))
    (bytes : List ℕ) (same : bytes ≡ s.name) (b : Bool) (is : b ≡ is_session bytes (take i ss)) (own : List StepSpec) (st : own ≡ s.steps) where
  before : length (take i ss) ≡ i
  before = length-take-le i ss (omega (arith, h))

  abbrev of_steps : Option SpecFault
  of_steps = first_told (double_step names i) own

  rule : double_name (take i ss) s ≡ option_or (told b (DoubleName s.name)) of_steps
  rule =
      ap (λ z. option_or (told z (DoubleName s.name)) (first_told (double_step (steps_of (take i ss)) (length (take i ss))) s.steps)) (ap (λ (x : List ℕ). is_session x (take i ss)) (sym same) ∙ sym is)
      ∙ (ap (λ k. option_or (told b (DoubleName s.name)) (first_told (double_step (steps_of (take i ss)) k) s.steps)) before
      ∙ (ap (λ z. option_or (told b (DoubleName s.name)) (first_told (double_step z i) s.steps)) (sym noted)
      ∙ ap (λ (z : List StepSpec). option_or (told b (DoubleName s.name)) (first_told (double_step names i) z)) (sym st)))

  pub session_is_double : b ≡ true → (f : SpecFault) → Found f (Some (DoubleName s.name)) → Found f (first_behind double_name (take i ss) (drop i ss))
  session_is_double k f w =
      first_found double_name ss i s f h e
      (subst (Found f) (sym rule) (found_first f _ of_steps (subst (Found f) (sym (is_told b (DoubleName s.name) k)) w)))

  pub steps_are_double : b ≡ false → (f : SpecFault) → Found f of_steps → Found f (first_behind double_name (take i ss) (drop i ss))
  steps_are_double k f w =
      first_found double_name ss i s f h e
      (subst (Found f) (sym (rule ∙ ap (λ z. option_or z of_steps) (nothing_told b (DoubleName s.name) k))) w)

  pub session_is_new : b ≡ false → of_steps ≡ None → first_behind double_name (take (i + 1) ss) (drop (i + 1) ss) ≡ first_behind double_name (take i ss) (drop i ss)
  session_is_new k w =
      first_passes double_name ss i s h e (rule ∙ (ap (λ z. option_or z of_steps) (nothing_told b (DoubleName s.name) k) ∙ w))

  pub session_noted : (more : List (List ℕ × ℕ)) → more ≡ names ++ numbered i own → more ≡ steps_of (take (i + 1) ss)
  session_noted more m =
      let k : i ≡ 0 + length (take i ss) = omega (arith, before) in
      m ∙ (ap (λ (z : List StepSpec). names ++ numbered i z) st
      ∙ (ap (λ z. z ++ numbered i s.steps) noted
      ∙ (ap (λ k. steps_of (take i ss) ++ numbered k s.steps) k
      ∙ (sym (steps_push 0 (take i ss) s) ∙ ap steps_of (sym (take_more ss i s h ∙ ap (λ (y : SessionSpec). take i ss ++ y ∷ []) e))))))
