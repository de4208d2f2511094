-- Sets of sessions.
use Rattle.std.proofs.Common.{◌≡◌, ◌≢◌, ◌<◌, ◌≤◌, ℕ, zero, suc, ◌==◌, ◌||◌, Bool, true, false, inl, inr, sym, ap, subst, ◌∙◌, arith}
use Rattle.std.proofs.lemmas.Grind.{common_steps}
use Rattle.std.proofs.lemmas.Bool.{cases_Bool, cases_lt, cases_eq, and_parts}
use Rattle.std.proofs.lemmas.Bool.Decides.{nat_tests}
use Rattle.std.proofs.lemmas.Nat.Bits.{bit_at-zero, bit_at-pow_other}
use Rattle.std.specs.Int.{bit_at}
use Rattle.std.specs.Prelude.{◌-◌, ◌*◌, ◌^◌, ◌%◌}
use Rattle.pg_values.specs.Sets.{has, empty, without}
use Rattle.pg_values.specs.declared.session_set.SessionSet.{SessionSet}
use Rattle.pg_values.proofs.Bits.{set_has, and_has}
use Rattle.ddl_steps.specs.Sessions.{joined_by, those_below, those}
use Rattle.table_statements.specs.Claims.{only}
use Rattle.run_ends.specs.Asking.{HasSessions}

none_has : (y : ℕ) → has empty y ≡ false
none_has y = grind (arith, common_steps, nat_tests, bit_at-zero y)

pub nobody_known : HasSessions empty
nobody_known y on = absurd (let c : false ≡ true = sym (none_has y) ∙ on in cc)

-- one alone
pub only_others : (s y : ℕ) → y ≢ s → has (only s) y ≡ false
only_others s y other = ap (λ b. b == 1) (bit_at-pow_other s y other)

pub only_known : (s : ℕ) → s < 128 → HasSessions (only s)
only_known s lt y on = elim (cases_eq y s) [
  | inl same ↦ subst (λ x. x < 128) (sym same) lt
  | inr other ↦ absurd (let c : false ≡ true = sym (only_others s y other) ∙ on in cc)
]

-- without one
pub without_known : (set : SessionSet) (s : ℕ) → HasSessions set → HasSessions (without set s)
without_known set s known y on = known y (and_parts (has set y) (bit_at (2 ^ 128 - 1 - 1 * 2 ^ s % 2 ^ 128) y == 1) (sym (and_has set.bits (2 ^ 128 - 1 - 1 * 2 ^ s % 2 ^ 128) y) ∙ on)).0

-- those who pass a test
more_has : (set : SessionSet) (n y : ℕ) → n < 128 → has (joined_by set n) y ≡ ((y == n) || has set y)
more_has set n y lt = set_has set.bits n y lt

above_has : (n : ℕ) (p : ℕ → Bool) (y : ℕ) → n ≤ 128 → n ≤ y → has (those_below n p) y ≡ false
above_has zero p y few le = none_has y
above_has (suc n) p y few le =
    let off : (y == n) ≡ false = grind (arith, nat_tests, le) in
    let rest = above_has n p y (omega (arith, few)) (omega (arith, le)) in
    elim (cases_Bool (p n)) [
      | inl t ↦ rw t (more_has (those_below n p) n y (omega (arith, few)) ∙ (ap (λ (b : Bool). b || has (those_below n p) y) off ∙ rest))
      | inr f ↦ rw f rest
    ]

pub those_known : (p : ℕ → Bool) → HasSessions (those p)
unfolding those
those_known p y on = elim (cases_lt y 128) [
  | inl lt ↦ lt
  | inr past ↦ absurd (let c : false ≡ true = sym (above_has 128 p y (omega arith) past) ∙ on in cc)
]
