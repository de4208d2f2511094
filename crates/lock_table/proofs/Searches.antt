-- A search for a cycle, level by level.
use Rattle.std.proofs.Common.{◌≡◌, ◌≢◌, ℕ, ◌+◌, ◌<◌, ◌≤◌, ◌==◌, ◌||◌, Bool, true, false, List, [], ◌∷◌, ◌++◌, length, slice_index_or, slice_set, nat_eq, inl, inr, refl, sym, ap, ◌∙◌, subst, arith, length-append}
use Rattle.std.specs.List.{list_any, IsDistinct}
use Rattle.std.proofs.lemmas.Grind.{common_steps, elements}
use Rattle.std.proofs.lemmas.Bool.{cases_lt, cases_Bool, cases_eq}
use Rattle.std.proofs.lemmas.Bool.Decides.{nat_tests}
use Rattle.std.proofs.lemmas.List.Folds.{list_any-append}
use Rattle.pg_values.specs.Numbers.{AreBelow65}
use Rattle.pg_values.specs.Sets.{has, empty}
use Rattle.pg_values.specs.declared.session_set.SessionSet.{SessionSet}
use Rattle.pg_values.proofs.Distinct.{distinct-none, distinct-behind, below-behind, room_behind}
use Rattle.lock_table.specs.Graph.{edge, leads, IsShortest}
use Rattle.lock_table.proofs.Chains.{leads_below, near_more, only_more, not_more}
use Rattle.lock_table.proofs.Ways.{IsSearched}

pub searched_first : (g : List SessionSet) (s : ℕ) (level reached : SessionSet) (levels : List SessionSet) → length levels ≡ 65 → ((x : ℕ) → has level x ≡ (x == s)) → ((x : ℕ) → has reached x ≡ false) → IsSearched g s 0 level reached levels
searched_first g s level reached levels len is none = record {
  len = len;
  room = omega arith;
  is = is;
  each = λ i x lt. absurd (omega arith);
  near = λ i x pos le. absurd (omega arith);
  only = λ x e. absurd (let f = none x in cc);
  not_yet = λ i pos le. absurd (omega arith);
  found = [];
  count = refl;
  distinct = distinct-none;
  small = λ q e. absurd (cc);
  inside = λ q e. absurd (cc);
}

-- there is room for one level more
pub found_room : (g : List SessionSet) (s k y : ℕ) (level reached next : SessionSet) (levels : List SessionSet) → length g ≤ 65 → IsSearched g s k level reached levels
    → ((x : ℕ) → has next x ≡ leads g s (k + 1) x) → has next y ≡ true → has reached y ≡ false → k < 65
found_room g s k y level reached next levels few b is in_next outside =
    let low = leads_below g s k y few (sym (is y) ∙ in_next) in
    let new : list_any (nat_eq y) b.found ≡ false = elim (cases_Bool (list_any (nat_eq y) b.found)) [
      | inr f ↦ f
      | inl t ↦ absurd (let here = b.inside y t in cc)
    ] in
    omega (arith, room_behind b.found y b.distinct b.small low new, b.count)

level_more : (g : List SessionSet) (s k : ℕ) (next : SessionSet) (levels : List SessionSet) → k < length levels → ((i x : ℕ) → i < k → has (slice_index_or levels i empty) x ≡ leads g s (i + 1) x)
    → ((x : ℕ) → has next x ≡ leads g s (k + 1) x) → (i x : ℕ) → i < k + 1 → has (slice_index_or (slice_set levels k next) i empty) x ≡ leads g s (i + 1) x
level_more g s k next levels room each is i x lt =
    elim (cases_eq i k) [
      | inl same ↦ let here : slice_index_or (slice_set levels k next) i empty ≡ next = grind (arith, common_steps, elements) in ap (λ l. has l x) here ∙ is x ∙ ap (λ j. leads g s (j + 1) x) (sym same)
      | inr apart ↦ let there : slice_index_or (slice_set levels k next) i empty ≡ slice_index_or levels i empty = grind (arith, common_steps, elements) in ap (λ l. has l x) there ∙ each i x (omega arith)
    ]

inside_more : (found : List ℕ) (y : ℕ) (reached next grown : ℕ → Bool) → ((x : ℕ) → grown x ≡ (reached x || next x)) → ((q : ℕ) → list_any (nat_eq q) found ≡ true → reached q ≡ true) → next y ≡ true
    → (q : ℕ) → list_any (nat_eq q) (found ++ y ∷ []) ≡ true → grown q ≡ true
inside_more found y reached next grown union inside in_next q t =
    elim (cases_Bool (list_any (nat_eq q) found)) [
      | inl here ↦ let r = inside q here in grind (arith, common_steps, union q, r)
      | inr not_here ↦
          let same : q ≡ y = grind (arith, common_steps, nat_tests, list_any-append (nat_eq q) found (y ∷ [])) in
          let n : next q ≡ true = ap next same ∙ in_next in
          grind (arith, common_steps, union q, n)
    ]

pub searched_more : (g : List SessionSet) (s k y : ℕ) (level reached next grown : SessionSet) (levels : List SessionSet) → length g ≤ 65 → IsSearched g s k level reached levels
    → ((x : ℕ) → has next x ≡ leads g s (k + 1) x) → ((x : ℕ) → has grown x ≡ (has reached x || has next x)) → has next y ≡ true → has reached y ≡ false → has next s ≡ false
    → IsSearched g s (k + 1) next grown (slice_set levels k next)
searched_more g s k y level reached next grown levels few b is union in_next outside not_s =
    let low = leads_below g s k y few (sym (is y) ∙ in_next) in
    let new : list_any (nat_eq y) b.found ≡ false = elim (cases_Bool (list_any (nat_eq y) b.found)) [
      | inr f ↦ f
      | inl t ↦ absurd (let here = b.inside y t in cc)
    ] in
    let room = found_room g s k y level reached next levels few b is in_next outside in
    let len = b.len in
    record {
      len = grind (arith, common_steps, elements);
      room = omega arith;
      is = is;
      each = level_more g s k next levels (omega arith) b.each is;
      near = near_more g s k (has reached) (has next) (has grown) is union b.near;
      only = only_more g s k (has reached) (has next) (has grown) is union b.only;
      not_yet = not_more g s k (sym (is s) ∙ not_s) b.not_yet;
      found = b.found ++ y ∷ [];
      count = length-append b.found (y ∷ []) ∙ omega (arith, b.count);
      distinct = distinct-behind b.found y b.distinct new;
      small = below-behind b.found y b.small low;
      inside = inside_more b.found y (has reached) (has next) (has grown) union b.inside in_next;
    }

pub shortest_of : (g : List SessionSet) (s k : ℕ) (level reached next : SessionSet) (levels : List SessionSet) → IsSearched g s k level reached levels → ((x : ℕ) → has next x ≡ leads g s (k + 1) x) → has next s ≡ true → IsShortest g s (k + 1)
shortest_of g s k level reached next levels b is here = record {
  some = omega arith;
  closed = sym (is s) ∙ here;
  least = λ i pos lt. b.not_yet i pos (omega arith);
}
