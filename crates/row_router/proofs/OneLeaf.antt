-- One leaf of a tree accepts a row, or none does.
use Rattle.std.proofs.Common.{◌≡◌, ℕ, ◌<◌, zero, suc, arith, refl, ◌∙◌, Bool, true, false, List, [], ◌∷◌, Option, Some, None, length, slice_index_or, append-nil, inl, inr}
use Rattle.std.proofs.lemmas.Bool.{cases_Bool, cases_lt, lt-ltb, le-ltb}
use Rattle.std.proofs.lemmas.Bool.Decides.{nat_tests}
use Rattle.std.specs.List.{position, position_or_len}
use Rattle.pg_values.specs.declared.value.Value.{Value}
use Rattle.pg_values.specs.declared.ids.LeafId.{LeafId}
use Rattle.pg_values.specs.declared.ids.TableNo.{TableNo}
use Rattle.bound_forms.specs.declared.partition_bound.Bound.{Bound}
use Rattle.bound_forms.specs.Accepts.{accepts_among}
use Rattle.bound_forms.specs.Bounds.{IsInPlainOrder}
use Rattle.bound_forms.proofs.OverlapLaws.{at_most_one_among}
use Rattle.history.specs.declared.catalogue.Column.{Column}
use Rattle.row_router.specs.Laws.{OneLeaf}
use Rattle.row_router.specs.Trees.{TableTree, LeafTable, LevelTable, Trees, End, More, count, key_of, child_of, accepting, accepting_in, routed, routed_in, found_leaf, IsSound, AreSound}

-- one bound at most passes the test
abbrev pub OnlyOne : (Bound → Bool) → List Bound → Type 0
OnlyOne test bs = (i j : ℕ) (d : Bound) → i < length bs → j < length bs → test (slice_index_or bs i d) ≡ true → test (slice_index_or bs j d) ≡ true → i ≡ j

only_rest : (test : Bound → Bool) (b : Bound) (bs : List Bound) → OnlyOne test (b ∷ bs) → OnlyOne test bs
only_rest test b bs only i j d li lj pi pj = let e : suc i ≡ suc j = only (suc i) (suc j) d (omega (arith, li)) (omega (arith, lj)) pi pj in omega arith

none_after : (test : Bound → Bool) (b : Bound) (bs : List Bound) → OnlyOne test (b ∷ bs) → test b ≡ true → (j : ℕ) (d : Bound) → j < length bs → test (slice_index_or bs j d) ≡ false
none_after test b bs only here j d lt = elim (cases_Bool (test (slice_index_or bs j d))) [
  | inl y ↦ let e : 0 ≡ suc j = only 0 (suc j) d (omega arith) (omega (arith, lt)) here y in absurd (omega arith)
  | inr n ↦ n
]

pub accepts_once : (bounds : List Bound) (key : List Value) → IsInPlainOrder bounds → OnlyOne (accepts_among bounds key) bounds
accepts_once bounds key ord i j d li lj pi pj = at_most_one_among bounds key i j d ord.siblings ord.apart li lj pi pj

none_picked : (row : List Value) (test : Bound → Bool) (bs : List Bound) (ks : Trees) → ((j : ℕ) (d : Bound) → j < length bs → test (slice_index_or bs j d) ≡ false) → accepting_in row test bs ks ≡ []
none_picked row test bs End h = refl
none_picked row test [] (More k ks) h = refl
none_picked row test (b ∷ bs) (More k ks) h =
    let first : test b ≡ false = h 0 b (omega arith) in
    rw first (none_picked row test bs ks (λ j d lt. h (suc j) d (omega (arith, lt))))

-- ---- the place of the accepting child

abbrev later : Option ℕ → Option ℕ
later None = None
later (Some i) = Some (suc i)

here_first : {A : Type 0} (p : A → Bool) (x : A) (xs : List A) → p x ≡ true → position p (x ∷ xs) ≡ Some 0
here_first p x xs e = rw e (grind (arith, nat_tests))

past_first : {A : Type 0} (p : A → Bool) (x : A) (xs : List A) → p x ≡ false → position p (x ∷ xs) ≡ later (position p xs)
past_first p x xs e = elim (cases_lt (position_or_len p xs) (length xs)) [
  | inl lt ↦ rw (e, lt-ltb _ _ lt) (grind (arith, nat_tests))
  | inr le ↦ rw (e, le-ltb _ _ le) (grind (arith, nat_tests))
]

-- the leaves of the child at a place that accept a row
abbrev pub at_place : List Value → Option ℕ → Trees → List LeafId
at_place row None ks = []
at_place row (Some i) End = []
at_place row (Some zero) (More k ks) = accepting row k
at_place row (Some (suc i)) (More k ks) = at_place row (Some i) ks

at_later : (row : List Value) (o : Option ℕ) (k : TableTree) (ks : Trees) → at_place row (later o) (More k ks) ≡ at_place row o ks
at_later row None k ks = refl
at_later row (Some i) k ks = refl

pub one_child : (row : List Value) (test : Bound → Bool) (bs : List Bound) (ks : Trees) → length bs ≡ count ks → OnlyOne test bs → accepting_in row test bs ks ≡ at_place row (position test bs) ks
one_child row test [] End e only = refl
one_child row test (b ∷ bs) End e only = absurd (omega arith)
one_child row test [] (More k ks) e only = absurd (omega arith)
one_child row test (b ∷ bs) (More k ks) e only = elim (cases_Bool (test b)) [
  | inl here ↦ rw (here_first test b bs here, here, none_picked row test bs ks (none_after test b bs only here), append-nil (accepting row k)) refl
  | inr past ↦ rw (past_first test b bs past, past, at_later row (position test bs) k ks) (one_child row test bs ks (omega arith) (only_rest test b bs only))
]

mutual
  pub one : (columns : List Column) (row : List Value) (t : TableTree) → IsSound columns t → accepting row t ≡ found_leaf (routed row t)
  one columns row (LeafTable node leaf) s = refl
  one columns row (LevelTable node level bounds kids) s =
      one_child row (accepts_among bounds (key_of level row)) bounds kids s.0 (accepts_once bounds (key_of level row) s.2)
      ∙ one_at columns row node.table (child_of level bounds row) kids s.4

  one_at : (columns : List Column) (row : List Value) (table : TableNo) (o : Option ℕ) (ks : Trees) → AreSound columns ks → at_place row o ks ≡ found_leaf (routed_in row table o ks)
  one_at columns row table None ks s = refl
  one_at columns row table (Some i) End s = refl
  one_at columns row table (Some zero) (More k ks) s = one columns row k s.0
  one_at columns row table (Some (suc i)) (More k ks) s = one_at columns row table (Some i) ks s.1

pub one_leaf : OneLeaf
one_leaf columns row t sound = one columns row t sound
