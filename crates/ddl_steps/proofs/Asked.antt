-- What a default accepts beside others.
use Rattle.std.proofs.Common.{◌≡◌, ℕ, suc, ◌+◌, ◌&&◌, ◌||◌, not, if◌then◌else◌, Bool, true, false, List, [], ◌∷◌, inl, inr, refl, ap, ◌∙◌, arith, Option, Some, None, length}
use Rattle.std.specs.Prelude.{is_none, is_some, nat_lt}
use Rattle.std.specs.List.{list_any, position, position_or_len}
use Rattle.std.proofs.lemmas.Bool.{cases_Bool}
use Rattle.std.proofs.lemmas.Bool.Decides.{nat_tests}
use Rattle.pg_values.specs.declared.value.Value.{Value}
use Rattle.bound_forms.specs.declared.partition_bound.Bound.{Bound}
use Rattle.bound_forms.specs.Accepts.{accepts, accepts_among, is_default}

none_of_place : (n m : ℕ) → is_none (if nat_lt n m then Some n else None) ≡ not (nat_lt n m)
none_of_place n m = elim (cases_Bool (nat_lt n m)) [ inl t ↦ rw t refl | inr f ↦ rw f refl ]

left_false : (a b : Bool) → (a || b) ≡ false → (a ≡ false) × (b ≡ false)
left_false false false e = (refl, refl)
left_false true b e = absurd (let c = e in cc)
left_false false true e = absurd (let c = e in cc)

alone : (a d c : Bool) → d ≡ false → (a || (d && c)) ≡ a
alone true d c e = refl
alone false true c e = absurd (let x = e in cc)
alone false false c e = refl

next_place : (n m : ℕ) → nat_lt (1 + n) (suc m) ≡ nat_lt n m
next_place n m = grind (arith, nat_tests)

first_place : (n : ℕ) → nat_lt 0 (suc n) ≡ true
first_place n = grind (arith, nat_tests)

-- the first that accepts among them is one that accepts by itself
any_place : (set : List Bound) (key : List Value) (bs : List Bound) → list_any is_default bs ≡ false → nat_lt (position_or_len (accepts_among set key) bs) (length bs) ≡ list_any (accepts key) bs
any_place set key [] none = refl
any_place set key (b ∷ bs) none =
    let parts = left_false (is_default b) (list_any is_default bs) none in
    let same : accepts_among set key b ≡ accepts key b = alone (accepts key b) (is_default b) (not (list_any (accepts key) set)) parts.0 in
    let rest = any_place set key bs parts.1 in
    elim (cases_Bool (accepts key b)) [
      | inl t ↦ let hit = same ∙ t in rw (hit, t) (first_place (length bs))
      | inr f ↦ let miss = same ∙ f in rw (miss, f) (next_place (position_or_len (accepts_among set key) bs) (length bs) ∙ rest)
    ]

pub rest_accepted : (set : List Bound) (key : List Value) (o : Option ℕ) → o ≡ position (accepts_among set key) set → list_any is_default set ≡ false → is_none o ≡ (false || (true && not (list_any (accepts key) set)))
rest_accepted set key o is none =
    ap is_none is ∙ (none_of_place (position_or_len (accepts_among set key) set) (length set) ∙ ap not (any_place set key set none))

pub turned : (b : Bool) (o : Option ℕ) → not b ≡ is_some o → b ≡ is_none o
turned true None e = refl
turned true (Some k) e = absurd (let c = e in cc)
turned false None e = absurd (let c = e in cc)
turned false (Some k) e = refl
