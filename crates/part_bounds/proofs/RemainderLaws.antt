-- The remainders of a level in plain order.
use Rattle.std.proofs.Common.{◌≡◌, ◌⊎◌, inl, inr, ℕ, ◌+◌, ◌%◌, ◌==◌, ◌<◌, ◌≤◌, Bool, true, false, true≢false, ◌&&◌, ◌||◌, List, Some, None, length, get_or, refl, sym, ap, ◌∙◌, arith}
use Rattle.std.proofs.Math.Nat.{eq-or-lt_of_le}
use Rattle.std.proofs.lemmas.Bool.{cases_lt, eqb-true, ltb-true}
use Rattle.std.proofs.lemmas.Bool.Decides.{nat_tests}
use Rattle.std.proofs.lemmas.Cmp.{ranked}
use Rattle.std.proofs.lemmas.List.{get_or_default}
use Rattle.std.specs.List.{All, position}
use Rattle.std.specs.List.Sorted.{IsPartitionedBy, IsPartitionPoint}
use Rattle.std.specs.Prelude.{nat_lt}
use Rattle.std.specs.Ordering.{is_gt, nat_cmp, ordering_then}
use Rattle.std.specs.declared.cmp.Ordering.{Ordering}
use Rattle.std.specs.declared.cmp.Ordering.TheVariants.{Less, Equal, Greater}
use Rattle.bound_forms.specs.declared.partition_bound.Bound.{Bound}
use Rattle.bound_forms.specs.declared.partition_bound.Bound.TheVariants.{Range, List as Listed, Hash, Default}
use Rattle.bound_forms.specs.Accepts.{leaves_remainder}
use Rattle.bound_forms.specs.Bounds.{comes_after, overlaps, are_siblings, is_filled, IsInPlainOrder}
use Rattle.bound_forms.specs.Moduli.{modulus_of}
use Rattle.bound_forms.proofs.Choice.{position_none, position_at}
use Rattle.bound_forms.proofs.Residues.{no_common_residue}
use Rattle.part_bounds.specs.Remainders.{is_remainder, stands_before}
use Rattle.part_bounds.specs.Stored.{of_hashes, IsHashLevel, Splits}

-- ---- two remainders in plain order

abbrev Follows : ℕ → ℕ → ℕ → ℕ → Type 0
Follows m r n s = (m < n) ⊎ ((m ≡ n) × (r ≤ s))

follows : (m r n s : ℕ) → comes_after (Hash m r) (Hash n s) ≡ false → Follows m r n s
follows m r n s h = by (nat_cmp m n) refl (nat_cmp r s) refl h
  where
    by : (x : Ordering) → nat_cmp m n ≡ x → (y : Ordering) → nat_cmp r s ≡ y → is_gt (ordering_then (ordering_then x (ordering_then y Equal)) Equal) ≡ false → Follows m r n s
    by Less e y f h = inl (ranked m n Less (sym e))
    by Equal e Less f h = let lt = ranked r s Less (sym f) in inr (ranked m n Equal (sym e), omega (arith, lt))
    by Equal e Equal f h = let same = ranked r s Equal (sym f) in inr (ranked m n Equal (sym e), omega (arith, same))
    by Equal e Greater f h = absurd (true≢false h)
    by Greater e y f h = absurd (true≢false h)

-- what the tests of a remainder say
before_says : (modulus remainder m r : ℕ) → nat_lt m modulus || (m == modulus && nat_lt r remainder) ≡ true → (m < modulus) ⊎ ((m ≡ modulus) × (r < remainder))
before_says modulus remainder m r h = grind (arith, nat_tests)

before_if : (modulus remainder m r : ℕ) → (m < modulus) ⊎ ((m ≡ modulus) × (r < remainder)) → nat_lt m modulus || (m == modulus && nat_lt r remainder) ≡ true
before_if modulus remainder m r h = grind (arith, nat_tests)

not_before : (modulus remainder m r : ℕ) → nat_lt m modulus || (m == modulus && nat_lt r remainder) ≡ false → (modulus < m) ⊎ ((m ≡ modulus) × (remainder ≤ r))
not_before modulus remainder m r h = grind (arith, nat_tests)

is_says : (modulus remainder m r : ℕ) → m == modulus && r == remainder ≡ true → (m ≡ modulus) × (r ≡ remainder)
is_says modulus remainder m r h = grind (arith, nat_tests)

is_not : (modulus remainder m r : ℕ) → ((m ≡ modulus) → (r ≡ remainder) → ⊥) → m == modulus && r == remainder ≡ false
is_not modulus remainder m r h = grind (arith, nat_tests)

is_if : (modulus remainder m r : ℕ) → m ≡ modulus → r ≡ remainder → m == modulus && r == remainder ≡ true
is_if modulus remainder m r e f = grind (arith, nat_tests)

lower : (modulus remainder m r n s : ℕ) → Follows m r n s → (n < modulus) ⊎ ((n ≡ modulus) × (s < remainder)) → (m < modulus) ⊎ ((m ≡ modulus) × (r < remainder))
lower modulus remainder m r n s (inl less) (inl below) = inl (omega (arith, less, below))
lower modulus remainder m r n s (inl less) (inr here) = let e = here.0 in inl (omega (arith, less, e))
lower modulus remainder m r n s (inr same) (inl below) = let e = same.0 in inl (omega (arith, e, below))
lower modulus remainder m r n s (inr same) (inr here) = let e = same.0 in let f = here.0 in let le = same.1 in let lt = here.1 in inr (omega (arith, e, f), omega (arith, le, lt))

down : (modulus remainder : ℕ) (a b : Bound) → of_hashes a ≡ true → comes_after a b ≡ false → stands_before modulus remainder b ≡ true → stands_before modulus remainder a ≡ true
down modulus remainder (Hash m r) (Hash n s) is after h = before_if modulus remainder m r (lower modulus remainder m r n s (follows m r n s after) (before_says modulus remainder n s h))
down modulus remainder (Hash m r) (Range l u) is after h = cc
down modulus remainder (Hash m r) (Listed values) is after h = cc
down modulus remainder (Hash m r) Default is after h = cc
down modulus remainder (Range l u) b is after h = cc
down modulus remainder (Listed values) b is after h = cc
down modulus remainder Default b is after h = cc

-- ---- the search by halves

pub before_falls : (bounds : List Bound) (modulus remainder : ℕ) → IsHashLevel bounds → IsInPlainOrder bounds → IsPartitionedBy (stands_before modulus remainder) bounds
before_falls bounds modulus remainder hashes order i j d le lt h = elim (eq-or-lt_of_le le) [
  | inl same ↦ rw same h
  | inr below ↦ down modulus remainder (get_or bounds i d) (get_or bounds j d) (hashes i d (omega (arith, below, lt))) (order.sorted i j d below lt) h
]

pub point_splits : (P : Bound → Bool) (bounds : List Bound) (n : ℕ) → n ≤ length bounds → IsPartitionPoint (λ b. P b ≡ true) (λ b. P b ≡ false) bounds n → Splits P bounds n
point_splits P bounds n le point = record {
  within = le;
  before = λ k d lt. point.0 k d (omega arith) lt;
  behind = λ k d from lt. point.1 k d from lt;
}

-- ---- where the remainder stands

-- the bound at the place is none, so no bound is the remainder
none_behind : (modulus remainder : ℕ) (a b : Bound) → of_hashes a ≡ true → comes_after a b ≡ false → stands_before modulus remainder a ≡ false → is_remainder modulus remainder a ≡ false → is_remainder modulus remainder b ≡ false
none_behind modulus remainder (Hash m r) (Hash n s) is after before here = is_not modulus remainder n s (λ e f. clash (follows m r n s after) (not_before modulus remainder m r before) e f)
  where
    same : m ≡ modulus → r ≡ remainder → ⊥
    same e f = absurd (true≢false (sym (is_if modulus remainder m r e f) ∙ here))

    clash : Follows m r n s → (modulus < m) ⊎ ((m ≡ modulus) × (remainder ≤ r)) → n ≡ modulus → s ≡ remainder → ⊥
    clash (inl less) (inl above) e f = omega (arith, less, above, e)
    clash (inl less) (inr at) e f = let g = at.0 in omega (arith, less, g, e)
    clash (inr after) (inl above) e f = let g = after.0 in omega (arith, g, above, e)
    clash (inr after) (inr at) e f = let g = at.0 in let up = at.1 in let le = after.1 in same g (omega (arith, up, le, f))
none_behind modulus remainder (Hash m r) (Range l u) is after before here = refl
none_behind modulus remainder (Hash m r) (Listed values) is after before here = refl
none_behind modulus remainder (Hash m r) Default is after before here = refl
none_behind modulus remainder (Range l u) b is after before here = cc
none_behind modulus remainder (Listed values) b is after before here = cc
none_behind modulus remainder Default b is after before here = cc

none_before : (modulus remainder : ℕ) (b : Bound) → stands_before modulus remainder b ≡ true → is_remainder modulus remainder b ≡ false
none_before modulus remainder (Hash m r) before = is_not modulus remainder m r (λ e f. clash (before_says modulus remainder m r before) e f)
  where
    clash : (m < modulus) ⊎ ((m ≡ modulus) × (r < remainder)) → m ≡ modulus → r ≡ remainder → ⊥
    clash (inl below) e f = omega (arith, below, e)
    clash (inr at) e f = let lt = at.1 in omega (arith, lt, f)
none_before modulus remainder (Range l u) before = refl
none_before modulus remainder (Listed values) before = refl
none_before modulus remainder Default before = refl

pub none_is : (bounds : List Bound) (modulus remainder at : ℕ) → IsHashLevel bounds → IsInPlainOrder bounds → Splits (stands_before modulus remainder) bounds at
    → (at < length bounds → false ≡ is_remainder modulus remainder (get_or bounds at Default)) → All (λ b. is_remainder modulus remainder b ≡ false) bounds
none_is bounds modulus remainder at hashes order s none k d lt = elim (cases_lt k at) [
  | inl before ↦ none_before modulus remainder (get_or bounds k d) (s.before k d before)
  | inr from ↦
      let within : at < length bounds = omega (arith, from, lt) in
      let here : is_remainder modulus remainder (get_or bounds at d) ≡ false = ap (is_remainder modulus remainder) (get_or_default bounds at d Default within) ∙ sym (none within) in
      elim (eq-or-lt_of_le from) [
        | inl same ↦ ap (λ i. is_remainder modulus remainder (get_or bounds i d)) (sym same) ∙ here
        | inr behind ↦ none_behind modulus remainder (get_or bounds at d) (get_or bounds k d) (hashes at d within) (order.sorted at k d behind lt) (s.behind at d (omega arith) within) here
      ]
]

-- ---- which bound the hash leaves

leaves_is : (hash modulus : ℕ) (b : Bound) → is_remainder modulus (hash % modulus) b ≡ true → leaves_remainder hash b ≡ true
leaves_is hash modulus (Hash m r) h = by (is_says modulus (hash % modulus) m r h)
  where
    by : (m ≡ modulus) × (r ≡ hash % modulus) → hash % m == r ≡ true
    by (e, f) = rw (e, f) (grind (arith, nat_tests))
leaves_is hash modulus (Range l u) h = cc
leaves_is hash modulus (Listed values) h = cc
leaves_is hash modulus Default h = cc

-- no other leaves it
earlier_not : (hash : ℕ) (a b : Bound) → are_siblings a b ≡ true → overlaps a b ≡ false → leaves_remainder hash b ≡ true → leaves_remainder hash a ≡ false
earlier_not hash (Hash m r) (Hash n s) suit apart h = by (hash % m == r) refl
  where
    by : (t : Bool) → hash % m == r ≡ t → t ≡ false
    by false e = refl
    by true e = absurd (true≢false (sym h ∙ no_common_residue m r n s hash suit apart e))
earlier_not hash (Hash m r) (Range l u) suit apart h = cc
earlier_not hash (Hash m r) (Listed values) suit apart h = cc
earlier_not hash (Hash m r) Default suit apart h = cc
earlier_not hash (Range l u) b suit apart h = refl
earlier_not hash (Listed values) b suit apart h = refl
earlier_not hash Default b suit apart h = refl

pub found_is : (bounds : List Bound) (hash modulus i : ℕ) → IsInPlainOrder bounds → i < length bounds → is_remainder modulus (hash % modulus) (get_or bounds i Default) ≡ true → Some i ≡ position (leaves_remainder hash) bounds
found_is bounds hash modulus i order lt h =
    let here = leaves_is hash modulus (get_or bounds i Default) h in
    sym (position_at (leaves_remainder hash) bounds i (get_or bounds i Default) lt (get_or_default bounds i Default (get_or bounds i Default) lt) here
    (λ k d below. earlier_not hash (get_or bounds k d) (get_or bounds i d) (order.siblings k i d below lt) (order.apart k i d below lt)
    (ap (leaves_remainder hash) (get_or_default bounds i d Default lt) ∙ here)))

-- ---- from one modulus to the next

-- the first bound of the modulus stands before the next modulus
pub next_later : (bounds : List Bound) (modulus from next : ℕ) → from < length bounds → IsHashLevel bounds → All (λ b. is_filled b ≡ true) bounds → modulus_of (get_or bounds from Default) ≡ Some modulus
    → Splits (stands_before modulus modulus) bounds next → from < next
next_later bounds modulus from next lt hashes filled is s = elim (cases_lt from next) [
  | inl below ↦ below
  | inr past ↦ absurd (by (get_or bounds from Default) (hashes from Default lt) (filled from Default lt) is (s.behind from Default past lt))
]
  where
    by : (b : Bound) → of_hashes b ≡ true → is_filled b ≡ true → modulus_of b ≡ Some modulus → stands_before modulus modulus b ≡ false → ⊥
    by (Hash m r) e f at g =
        let same : m ≡ modulus = cc in
        let below : r < m = ltb-true r m f in
        true≢false (sym (before_if modulus modulus m r (inr (same, omega (arith, same, below)))) ∙ g)
    by (Range l u) e f at g = cc
    by (Listed values) e f at g = cc
    by Default e f at g = cc

-- what stands from there on before the next modulus is of the modulus
same_modulus : (modulus : ℕ) (a b : Bound) → of_hashes a ≡ true → modulus_of a ≡ Some modulus → comes_after a b ≡ false → stands_before modulus modulus b ≡ true → modulus_of b ≡ Some modulus
same_modulus modulus (Hash m r) (Hash n s) e is after before = ap Some (by (follows m r n s after) (before_says modulus modulus n s before))
  where
    same : m ≡ modulus
    same = cc

    by : Follows m r n s → (n < modulus) ⊎ ((n ≡ modulus) × (s < modulus)) → n ≡ modulus
    by (inl less) (inl below) = absurd (omega (arith, same, less, below))
    by (inr at) (inl below) = let g = at.0 in absurd (omega (arith, same, g, below))
    by (inl less) (inr here) = here.0
    by (inr at) (inr here) = here.0
same_modulus modulus (Hash m r) (Range l u) e is after before = cc
same_modulus modulus (Hash m r) (Listed values) e is after before = cc
same_modulus modulus (Hash m r) Default e is after before = cc
same_modulus modulus (Range l u) b e is after before = cc
same_modulus modulus (Listed values) b e is after before = cc
same_modulus modulus Default b e is after before = cc

not_left : (hash modulus : ℕ) (b : Bound) → modulus_of b ≡ Some modulus → is_remainder modulus (hash % modulus) b ≡ false → leaves_remainder hash b ≡ false
not_left hash modulus (Hash m r) is not = by (hash % m == r) refl
  where
    same : m ≡ modulus
    same = cc

    both : r ≡ hash % modulus → m == modulus && r == hash % modulus ≡ true
    both e = is_if modulus (hash % modulus) m r same e

    by : (t : Bool) → hash % m == r ≡ t → t ≡ false
    by false h = refl
    by true h = absurd (true≢false (sym (both (sym (eqb-true (hash % m) r h) ∙ ap (λ k. hash % k) same)) ∙ not))
not_left hash modulus (Range l u) is not = refl
not_left hash modulus (Listed values) is not = refl
not_left hash modulus Default is not = refl

pub none_up_to : (bounds : List Bound) (hash modulus from next : ℕ) → IsHashLevel bounds → IsInPlainOrder bounds → from < length bounds → modulus_of (get_or bounds from Default) ≡ Some modulus
    → All (λ b. is_remainder modulus (hash % modulus) b ≡ false) bounds → Splits (stands_before modulus modulus) bounds next
    → ((k : ℕ) (d : Bound) → k < from → leaves_remainder hash (get_or bounds k d) ≡ false) → (k : ℕ) (d : Bound) → k < next → leaves_remainder hash (get_or bounds k d) ≡ false
none_up_to bounds hash modulus from next hashes order lt is none s before k d below =
    let within = s.within in
    let inside : k < length bounds = omega (arith, below, within) in
    let first : modulus_of (get_or bounds from d) ≡ Some modulus = ap modulus_of (get_or_default bounds from d Default lt) ∙ is in
    elim (cases_lt k from) [
      | inl earlier ↦ before k d earlier
      | inr later ↦ elim (eq-or-lt_of_le later) [
        | inl same ↦ not_left hash modulus (get_or bounds k d) (ap (λ i. modulus_of (get_or bounds i d)) (sym same) ∙ first) (none k d inside)
        | inr behind ↦
            not_left hash modulus (get_or bounds k d)
            (same_modulus modulus (get_or bounds from d) (get_or bounds k d) (hashes from d lt) first (order.sorted from k d behind inside) (s.before k d below)) (none k d inside)
      ]
    ]
