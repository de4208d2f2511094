-- A script has few sessions.
use Rattle.std.proofs.Common.{◌≡◌, ℕ, ◌+◌, ◌≤◌, ◌<◌, false, nat_le, List, [], ◌∷◌, ◌++◌, Option, Some, None, refl, sym, subst, length, length-append, arith}
use Rattle.std.specs.Option.{option_or}
use Rattle.spec_reader.specs.Faults.{first_behind, session_limit, fault}
use Rattle.spec_reader.specs.Specs.{IsScript}
use Rattle.spec_reader.specs.declared.fault.SpecFault.{SpecFault}
use Rattle.spec_reader.specs.declared.spec.SessionSpec.{SessionSpec}
use Rattle.spec_reader.specs.declared.spec.Spec.{Spec}
use Rattle.spec_reader.specs.declared.written.WrittenSpec.{WrittenSpec}
use Rattle.spec_reader.proofs.Firsts.{not_told}

first_none : (a b : Option SpecFault) → option_or a b ≡ None → a ≡ None
first_none None b h = refl
first_none (Some x) b h = cc

second_none : (a b : Option SpecFault) → option_or a b ≡ None → b ≡ None
second_none None b h = h
second_none (Some x) b h = cc

fewer : (n : ℕ) → nat_le 64 n ≡ false → n < 64
fewer n h = grind (arith, h)

few : (before ss : List SessionSpec) → length before ≤ 64 → first_behind session_limit before ss ≡ None → length before + length ss ≤ 64
few before [] h none = omega (arith, h)
few before (s ∷ ss) h none =
    let here = fewer (length before) (not_told _ _ (first_none _ _ (first_none _ _ none))) in
    let one : length (before ++ s ∷ []) ≡ length before + 1 = length-append before (s ∷ []) in
    let rest : length (before ++ s ∷ []) + length ss ≤ 64 = few (before ++ s ∷ []) ss (omega (arith, here, one)) (second_none (session_limit before s) (first_behind session_limit (before ++ s ∷ []) ss) none) in
    omega (arith, rest, one)

within : (w : WrittenSpec) → fault w ≡ None → length w.sessions ≤ 64
within w none = omega (arith, few [] w.sessions (omega arith) (first_none _ _ (second_none _ _ (first_none _ _ none))))

pub few_sessions : (text : List ℕ) (spec : Spec) → IsScript text spec → length spec.sessions ≤ 64
few_sessions text spec is = subst (λ (s : Spec). length s.sessions ≤ 64) (sym is.3) (within is.0 is.2)
