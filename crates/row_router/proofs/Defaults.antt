-- A default stands last.
use Rattle.std.proofs.Common.{◌≡◌, ℕ, ◌+◌, ◌<◌, arith, ap, refl, sym, subst, ◌∙◌, Bool, true, false, List, length, get_or, inl, inr}
use Rattle.std.proofs.lemmas.Bool.{cases_lt}
use Rattle.bound_forms.specs.declared.partition_bound.Bound.{Bound}
use Rattle.bound_forms.specs.declared.partition_bound.Bound.TheVariants.{Range, List as Listed, Hash, Default}
use Rattle.bound_forms.specs.Accepts.{is_default}
use Rattle.bound_forms.specs.Bounds.{comes_after, overlaps, IsInPlainOrder}
use Rattle.row_router.specs.Laws.{DefaultStandsLast}

-- nothing but another default stands behind a default, and the two overlap
none_behind : (a b : Bound) → is_default a ≡ true → comes_after a b ≡ false → overlaps a b ≡ false → ⊥
none_behind Default Default is after apart = cc
none_behind Default (Range l u) is after apart = cc
none_behind Default (Listed vs) is after apart = cc
none_behind Default (Hash m r) is after apart = cc
none_behind (Range l u) b is after apart = cc
none_behind (Listed vs) b is after apart = cc
none_behind (Hash m r) b is after apart = cc

pub default_last : DefaultStandsLast
default_last bounds i d ord lt is = elim (cases_lt (i + 1) (length bounds)) [
  | inl more ↦ absurd (none_behind (get_or bounds i d) (get_or bounds (i + 1) d) is (ord.sorted i (i + 1) d (omega arith) more) (ord.apart i (i + 1) d (omega arith) more))
  | inr end ↦ omega (arith, lt, end)
]
