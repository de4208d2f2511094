-- What holds of every list of bounds.
use Rattle.std.specs.Prelude.{◌≡◌, ◌≢◌, ◌↔◌, ℕ, ◌%◌, ◌<◌, true, false, List, length, slice_index_or}
use Rattle.std.specs.List.{AllPairs}
use Rattle.std.specs.List.Sorted.{IsPermutation}
use Rattle.pg_values.specs.declared.value.Value.{Value}
use Rattle.bound_forms.specs.declared.partition_bound.Bound.{Bound}
use Rattle.bound_forms.specs.declared.partition_bound.Bound.TheVariants.{Hash}
use Rattle.bound_forms.specs.Bounds.{overlaps, is_filled, are_siblings, comes_after, with_bound, in_plain_order}
use Rattle.bound_forms.specs.Accepts.{accepts, accepts_among, is_default}

-- two bounds of one level that do not overlap accept no key in common
abbrev pub NoCommonKey : Type 0
NoCommonKey = (a b : Bound) (key : List Value) → are_siblings a b ≡ true → overlaps a b ≡ false → accepts key a ≡ true → accepts key b ≡ false

-- of the bounds of a level, none of which overlap, at most one accepts a key
abbrev pub AtMostOneAccepts : Type 0
AtMostOneAccepts = (bounds : List Bound) (key : List Value) (i j : ℕ) (d : Bound) → AllPairs (λ a b. are_siblings a b ≡ true) bounds → AllPairs (λ a b. overlaps a b ≡ false) bounds
    → i < length bounds → j < length bounds → accepts_among bounds key (slice_index_or bounds i d) ≡ true → accepts_among bounds key (slice_index_or bounds j d) ≡ true → i ≡ j

-- a default accepts exactly what no sibling accepts
abbrev pub DefaultAcceptsTheRest : Type 0
DefaultAcceptsTheRest = (bounds : List Bound) (key : List Value) (i : ℕ) (d : Bound) → AllPairs (λ a b. overlaps a b ≡ false) bounds
    → i < length bounds → is_default (slice_index_or bounds i d) ≡ true
    → (accepts_among bounds key (slice_index_or bounds i d) ≡ true) ↔ ((j : ℕ) → j < length bounds → j ≢ i → accepts_among bounds key (slice_index_or bounds j d) ≡ false)

-- plain order keeps the bounds that are given
abbrev pub PlainOrderKeeps : Type 0
PlainOrderKeeps = (bounds : List Bound) → IsPermutation bounds (in_plain_order bounds)

-- in plain order no bound comes after a later one
abbrev pub PlainOrderIsSorted : Type 0
PlainOrderIsSorted = (bounds : List Bound) → AllPairs (λ a b. comes_after a b ≡ false) (in_plain_order bounds)

-- of two bounds of one level that are not empty and do not overlap either can be added first
abbrev pub AddedInEitherOrder : Type 0
AddedInEitherOrder = (a b : Bound) (bounds : List Bound) → are_siblings a b ≡ true → overlaps a b ≡ false → is_filled a ≡ true → is_filled b ≡ true
    → with_bound a (with_bound b bounds) ≡ with_bound b (with_bound a bounds)

-- of moduli of which one is a factor of the other, remainders overlap exactly where some number leaves both
abbrev pub OverlapIsSharedResidue : Type 0
OverlapIsSharedResidue = (m r n s : ℕ) → are_siblings (Hash m r) (Hash n s) ≡ true → r < m → s < n
    → (overlaps (Hash m r) (Hash n s) ≡ true) ↔ ((h : ℕ) × (h % m ≡ r) × (h % n ≡ s))
