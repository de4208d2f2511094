-- In plain order a default stands last.
use Rattle.std.proofs.Common.{◌≡◌, ℕ, zero, suc, ◌+◌, ◌-◌, ◌<◌, true, false, true≢false, List, [], ◌∷◌, Some, None, length, get_or, refl, sym, ap, ◌∙◌, inl, inr, arith}
use Rattle.std.specs.List.{position}
use Rattle.std.proofs.lemmas.Bool.{cases_lt}
use Rattle.std.proofs.lemmas.List.{get_or_default}
use Rattle.bound_forms.specs.declared.partition_bound.Bound.{Bound}
use Rattle.bound_forms.specs.declared.partition_bound.Bound.TheVariants.{Range, List as Listed, Hash, Default}
use Rattle.bound_forms.specs.Accepts.{is_default}
use Rattle.bound_forms.specs.Bounds.{comes_after, overlaps, IsInPlainOrder}
use Rattle.bound_forms.proofs.Choice.{position_none, position_at}

-- two defaults overlap
one_default : (a b : Bound) → overlaps a b ≡ false → is_default b ≡ true → is_default a ≡ false
one_default Default Default apart e = absurd (true≢false apart)
one_default Default (Range l u) apart e = cc
one_default Default (Listed values) apart e = cc
one_default Default (Hash m n) apart e = cc
one_default (Range l u) b apart e = refl
one_default (Listed values) b apart e = refl
one_default (Hash m n) b apart e = refl

-- what stands behind a default is one
behind_default : (a b : Bound) → comes_after a b ≡ false → is_default b ≡ false → is_default a ≡ false
behind_default Default Default after e = absurd (true≢false e)
behind_default Default (Range l u) after e = absurd (true≢false after)
behind_default Default (Listed values) after e = absurd (true≢false after)
behind_default Default (Hash m n) after e = absurd (true≢false after)
behind_default (Range l u) b after e = refl
behind_default (Listed values) b after e = refl
behind_default (Hash m n) b after e = refl

last_is : (bounds : List Bound) (n : ℕ) (b d : Bound) → n ≡ length bounds → (n ≡ 0 → ⊥) → b ≡ get_or bounds (n - 1) b → get_or bounds (n - 1) d ≡ b
last_is bounds n b d long some at = get_or_default bounds (n - 1) d b (omega (arith, long, some)) ∙ sym at

pub default_last : (bounds : List Bound) (n : ℕ) (b : Bound) → IsInPlainOrder bounds → n ≡ length bounds → (n ≡ 0 → ⊥) → b ≡ get_or bounds (n - 1) b → is_default b ≡ true → Some (n - 1) ≡ position is_default bounds
default_last bounds n b order long some at e =
    sym (position_at is_default bounds (n - 1) b (omega (arith, long, some)) at e
    (λ k d lt. one_default (get_or bounds k d) b (rw (last_is bounds n b d long some at) at (order.apart k (n - 1) d lt (omega (arith, long, some)))) e))

pub default_missing : (bounds : List Bound) (n : ℕ) (b : Bound) → IsInPlainOrder bounds → n ≡ length bounds → (n ≡ 0 → ⊥) → b ≡ get_or bounds (n - 1) b → is_default b ≡ false → None ≡ position is_default bounds
default_missing bounds n b order long some at e = sym (position_none is_default bounds no)
  where
    no : (k : ℕ) (d : Bound) → k < length bounds → is_default (get_or bounds k d) ≡ false
    no k d lt = elim (cases_lt k (n - 1)) [
      | inl before ↦ behind_default (get_or bounds k d) b (rw (last_is bounds n b d long some at) at (order.sorted k (n - 1) d before (omega (arith, long, some)))) e
      | inr here ↦
          let same : k ≡ n - 1 = omega (arith, long, lt, here) in
          ap (λ i. is_default (get_or bounds i d)) same ∙ ap is_default (last_is bounds n b d long some at) ∙ e
    ]
