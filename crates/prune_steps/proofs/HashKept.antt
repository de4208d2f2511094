-- The one child of a level by hash that accepts a key.
use Rattle.std.proofs.Common.{◌≡◌, ℕ, ◌<◌, ◌≤◌, Bool, true, false, true≢false, not, ◌&&◌, ◌||◌, List, length, get_or, refl, sym, ap, ◌∙◌, arith}
use Rattle.std.specs.Prelude.{◌==◌, Option, Some, None, position}
use Rattle.std.specs.List.{list_any}
use Rattle.std.proofs.lemmas.Bool.Decides.{nat_tests}
use Rattle.std.proofs.lemmas.List.Quantifiers.{position-Some}
use Rattle.pg_values.specs.declared.value.Value.{Value}
use Rattle.bound_forms.specs.declared.partition_bound.Bound.{Bound}
use Rattle.bound_forms.specs.declared.partition_bound.Bound.TheVariants.{Range, List as Listed, Hash, Default}
use Rattle.bound_forms.specs.Accepts.{accepts, accepts_among}
use Rattle.bound_forms.specs.Bounds.{IsInPlainOrder}
use Rattle.bound_forms.specs.Laws.{AtMostOneAccepts}
use Rattle.part_bounds.specs.Stored.{of_hashes, IsHashLevel}
use Rattle.bound_forms.proofs.Choice.{position-None}
use Rattle.prune_steps.specs.Bits.{bit, AreBits}

by_itself : (bounds : List Bound) (key : List Value) (b : Bound) → of_hashes b ≡ true → accepts_among bounds key b ≡ accepts key b
by_itself bounds key (Hash m r) h = by (accepts key (Hash m r))
  where
    by : (t : Bool) → (t || (false && not (list_any (accepts key) bounds))) ≡ t
    by true = refl
    by false = refl
by_itself bounds key (Range l u) h = cc
by_itself bounds key (Listed values) h = cc
by_itself bounds key Default h = cc

pub found_kept : (bounds : List Bound) (key : List Value) (none new : List ℕ) (i : ℕ) → IsHashLevel bounds → IsInPlainOrder bounds → AtMostOneAccepts → length bounds ≤ 1024 → Some i ≡ position (accepts_among bounds key) bounds
    → AreBits 1024 none (λ k. false) → AreBits 1024 new (λ k. bit none k || ((k == i) && true)) → AreBits (length bounds) new (λ k. accepts key (get_or bounds k Default))
found_kept bounds key none new i hashes order one small found empty bits k lt = bits k (omega (arith, lt, small)) ∙ rw (empty k (omega (arith, lt, small))) (by (k == i) refl (accepts key (get_or bounds k Default)) refl)
  where
    first : (i < length bounds) × (accepts_among bounds key (get_or bounds i Default) ≡ true) × ((j : ℕ) → j < i → accepts_among bounds key (get_or bounds j Default) ≡ false)
    first = position-Some (accepts_among bounds key) bounds i Default (sym found)

    by : (s : Bool) → (k == i) ≡ s → (t : Bool) → accepts key (get_or bounds k Default) ≡ t → (false || (s && true)) ≡ t
    by true e true f = refl
    by false e false f = refl
    by true e false f =
        let same : k ≡ i = grind (arith, nat_tests, e) in
        absurd (true≢false (sym first.1 ∙ ap (λ j. accepts_among bounds key (get_or bounds j Default)) (sym same) ∙ by_itself bounds key (get_or bounds k Default) (hashes k Default lt) ∙ f))
    by false e true f =
        let same : k ≡ i = one bounds key k i Default order.siblings order.apart lt first.0 (by_itself bounds key (get_or bounds k Default) (hashes k Default lt) ∙ f) first.1 in
        let no : (k == i) ≡ true = grind (arith, nat_tests, same) in
        absurd (true≢false (sym no ∙ e))

pub none_kept : (bounds : List Bound) (key : List Value) (none : List ℕ) → IsHashLevel bounds → length bounds ≤ 1024 → None ≡ position (accepts_among bounds key) bounds → AreBits 1024 none (λ k. false) → AreBits (length bounds) none (λ k. accepts key (get_or bounds k Default))
none_kept bounds key none hashes small found empty k lt =
    empty k (omega (arith, lt, small)) ∙ sym (sym (by_itself bounds key (get_or bounds k Default) (hashes k Default lt)) ∙ position-None (accepts_among bounds key) bounds (sym found) k Default lt)
