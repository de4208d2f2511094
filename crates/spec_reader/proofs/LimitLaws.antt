-- The limits on sessions and their steps.
use Rattle.std.proofs.Common.{◌≡◌, ◌<◌, ◌≤◌, ℕ, ◌+◌, ◌-◌, Bool, false, nat_le, nat_lt, List, [], ◌∷◌, ◌++◌, length, take, drop, get_or, None, refl, sym, ◌∙◌, ap, subst, arith}
use Rattle.std.proofs.lemmas.List.{take_more, length-take-le}
use Rattle.std.specs.Option.{option_or}
use Rattle.pg_values.specs.declared.which.Which.TheVariants as which
use Rattle.spec_reader.specs.Faults.{told, first_behind, steps_in, session_limit}
use Rattle.spec_reader.specs.Finds.{Found}
use Rattle.spec_reader.specs.declared.fault.SpecFault.{SpecFault}
use Rattle.spec_reader.specs.declared.fault.SpecFault.TheVariants.{Limit}
use Rattle.spec_reader.specs.declared.spec.SessionSpec.{SessionSpec}
use Rattle.spec_reader.proofs.Firsts.{found_first, not_told, first_found, first_passes}

steps_push : (ss : List SessionSpec) (s : SessionSpec) → steps_in (ss ++ s ∷ []) ≡ steps_in ss + length s.steps
steps_push [] s = omega arith
steps_push (x ∷ ss) s = omega (arith, steps_push ss s)

module _ (ss : List SessionSpec) (i : ℕ) (s : SessionSpec) (h : i < length ss) (e : get_or ss i s ≡ s) (steps : ℕ) (t : steps ≡ steps_in (take i ss)) where
  before : length (take i ss) ≡ i
  before = length-take-le i ss (omega (arith, h))

  -- the rule at this session
  rule : session_limit (take i ss) s ≡ option_or (told (nat_le 64 i) (Limit which.Sessions)) (told (nat_lt (4096 - steps) (length s.steps)) (Limit which.Steps))
  rule = ap (λ n. option_or (told (nat_le 64 n) (Limit which.Sessions)) (told (nat_lt (4096 - steps_in (take i ss)) (length s.steps)) (Limit which.Steps))) before
      ∙ ap (λ n. option_or (told (nat_le 64 i) (Limit which.Sessions)) (told (nat_lt (4096 - n) (length s.steps)) (Limit which.Steps))) (sym t)

  pub session_past : (f : SpecFault) → Found f (told (nat_le 64 i) (Limit which.Sessions)) → Found f (first_behind session_limit (take i ss) (drop i ss))
  session_past f w = first_found session_limit ss i s f h e (subst (Found f) (sym rule) (found_first f _ _ w))

  pub steps_past : (f : SpecFault) (more : ℕ) → more ≡ length s.steps → told (nat_le 64 i) (Limit which.Sessions) ≡ None → Found f (told (nat_lt (4096 - steps) more) (Limit which.Steps)) →
      Found f (first_behind session_limit (take i ss) (drop i ss))
  steps_past f more m v w =
      first_found session_limit ss i s f h e
      (subst (Found f) (sym (rule ∙ ap (λ z. option_or z (told (nat_lt (4096 - steps) (length s.steps)) (Limit which.Steps))) v))
      (subst (λ n. Found f (told (nat_lt (4096 - steps) n) (Limit which.Steps))) m w))

  pub within_limits : (more : ℕ) → more ≡ length s.steps → told (nat_le 64 i) (Limit which.Sessions) ≡ None → told (nat_lt (4096 - steps) more) (Limit which.Steps) ≡ None →
      first_behind session_limit (take (i + 1) ss) (drop (i + 1) ss) ≡ first_behind session_limit (take i ss) (drop i ss)
  within_limits more m v w =
      first_passes session_limit ss i s h e
      (rule ∙ ap (λ z. option_or z (told (nat_lt (4096 - steps) (length s.steps)) (Limit which.Steps))) v
      ∙ subst (λ n. told (nat_lt (4096 - steps) n) (Limit which.Steps) ≡ None) m w)

  pub steps_more : (more : ℕ) → more ≡ length s.steps → steps + more ≡ steps_in (take (i + 1) ss)
  steps_more more m =
      let k : take (i + 1) ss ≡ take i ss ++ s ∷ [] = take_more ss i s h ∙ ap (λ (y : SessionSpec). take i ss ++ y ∷ []) e in
      omega (arith, t, m, ap steps_in k, steps_push (take i ss) s)

pub few_steps : (steps more : ℕ) → told (nat_lt (4096 - steps) more) (Limit which.Steps) ≡ None → steps ≤ 4096 → steps + more ≤ 4096
few_steps steps more w k = go (nat_lt (4096 - steps) more) refl (not_told (nat_lt (4096 - steps) more) (Limit which.Steps) w)
  where
    go : (b : Bool) → nat_lt (4096 - steps) more ≡ b → nat_lt (4096 - steps) more ≡ false → steps + more ≤ 4096
    go b e u = grind (arith, u, k)
