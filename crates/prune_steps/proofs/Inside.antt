-- The point of a key whose column passes lies in the chain.
use Rattle.std.proofs.Common.{◌≡◌, ℕ, zero, suc, ◌+◌, ◌-◌, ◌<◌, ◌≤◌, Bool, true, false, not, ◌&&◌, ◌||◌, List, [], ◌∷◌, ◌++◌, map, length, refl, sym, ap, ◌∙◌, arith, append_assoc, length-append}
use Rattle.std.specs.Prelude.{replicate, slice_index_or, Option, Some, None}
use Rattle.std.specs.Ordering.{is_gt, is_le, is_lt, ordering_then, ordering_reverse}
use Rattle.std.specs.declared.cmp.Ordering.{Ordering}
use Rattle.std.specs.declared.cmp.Ordering.TheVariants.{Less, Equal, Greater}
use Rattle.pg_values.specs.declared.value.Value.{Value}
use Rattle.pg_values.specs.Order.{order}
use Rattle.pg_values.specs.KeyKinds.{order_total}
use Rattle.bound_forms.specs.declared.point.Edge.{Edge}
use Rattle.bound_forms.specs.declared.point.Edge.TheVariants.{Min, At, Max}
use Rattle.bound_forms.specs.Points.{point_order, point_of, is_null}
use Rattle.cond_logic.specs.declared.cond.CompareOp.{CompareOp}
use Rattle.cond_logic.specs.declared.cond.CompareOp.TheVariants.{Eq, Ne, Lt, Le, Gt, Ge}
use Rattle.cond_logic.specs.Truths.{passes_by}
use Rattle.prune_steps.specs.Chains.{Chain, chain_of, filled}

-- the values of a prefix equal the first values of the key, and are no nulls
abbrev pub Agrees : List Value → List Value → Type 0
Agrees [] key = Unit {0}
Agrees (v ∷ p) [] = ⊥
Agrees (v ∷ p) (k ∷ key) = (order v k ≡ Equal) × (is_null k ≡ false) × Agrees p key

map_push : (p : List Value) (v : Value) → map At (p ++ v ∷ []) ≡ map At p ++ At v ∷ []
map_push [] v = refl
map_push (w ∷ p) v = ap (λ l. At w ∷ l) (map_push p v)

pushed_long : (p : List Value) (v : Value) → length (p ++ v ∷ []) ≡ suc (length p)
pushed_long [] v = refl
pushed_long (w ∷ p) v = let ih = pushed_long p v in omega (arith, ih)

-- behind a prefix that agrees, the rest decides
pub behind : (p : List Value) (rest : List Edge) (front key : List Value) → length front ≡ length p → Agrees p front → point_order (map At p ++ rest) (map At (front ++ key) ++ Min ∷ []) ≡ point_order rest (map At key ++ Min ∷ [])
behind [] rest [] key e h = refl
behind [] rest (k ∷ front) key e h = absurd (omega arith)
behind (x ∷ p) rest [] key e h = absurd h
behind (x ∷ p) rest (k ∷ front) key e h = rw h.0 (behind p rest front key (omega arith) h.2)

-- n edges MIN are at most a key of n - 1 values; n edges MAX are above it
pub min_le : (n : ℕ) (key : List Value) → n ≡ length key + 1 → is_le (point_order (replicate n Min) (map At key ++ Min ∷ [])) ≡ true
min_le n [] e = rw e refl
min_le zero (k ∷ key) e = absurd (omega arith)
min_le (suc n) (k ∷ key) e = refl

pub max_gt : (n : ℕ) (key : List Value) → n ≡ length key + 1 → is_gt (point_order (replicate n Max) (map At key ++ Min ∷ [])) ≡ true
max_gt n [] e = rw e refl
max_gt zero (k ∷ key) e = absurd (omega arith)
max_gt (suc n) (k ∷ key) e = refl

-- ---- the four ends

module _ (p : List Value) (front later : List Value) (k : Value) (n : ℕ) (l : length front ≡ length p) (agrees : Agrees p front) (c : n ≡ length p + 1 + length later) where
  abbrev pub pt : List Edge
  pt = map At (front ++ k ∷ later) ++ Min ∷ []

  -- the prefix, then the value, then e
  at_value : (v : Value) (e : Edge) → point_order (filled (n + 1) (p ++ v ∷ []) e) pt ≡ ordering_then (order v k) (point_order (replicate (length later + 1) e) (map At later ++ Min ∷ []))
  at_value v e =
      let m : n + 1 - length (p ++ v ∷ []) ≡ length later + 1 = omega (arith, c, pushed_long p v) in
      rw (m, map_push p v, append_assoc) (behind p (At v ∷ replicate (length later + 1) e) front (k ∷ later) l agrees)

  -- the prefix, then e
  at_prefix : (e : Edge) → point_order (filled (n + 1) p e) pt ≡ point_order (replicate (length later + 2) e) (map At (k ∷ later) ++ Min ∷ [])
  at_prefix e =
      let m : n + 1 - length p ≡ length later + 2 = omega (arith, c) in
      rw m (behind p (replicate (length later + 2) e) front (k ∷ later) l agrees)

  low : is_le (point_order (filled (n + 1) p Min) pt) ≡ true
  low = ap is_le (at_prefix Min) ∙ min_le (length later + 2) (k ∷ later) (omega arith)

  high : is_gt (point_order (filled (n + 1) p Max) pt) ≡ true
  high = ap is_gt (at_prefix Max) ∙ max_gt (length later + 2) (k ∷ later) (omega arith)

  from_value : (v : Value) (e : Edge) (r : Ordering) → order k v ≡ r → point_order (filled (n + 1) (p ++ v ∷ []) e) pt ≡ ordering_then (ordering_reverse r) (point_order (replicate (length later + 1) e) (map At later ++ Min ∷ []))
  from_value v e r h = at_value v e ∙ ap (λ o. ordering_then o (point_order (replicate (length later + 1) e) (map At later ++ Min ∷ []))) (order_total.antisymm v k ∙ ap ordering_reverse h)

  min_tail : is_le (point_order (replicate (length later + 1) Min) (map At later ++ Min ∷ [])) ≡ true
  min_tail = min_le (length later + 1) later refl

  max_tail : is_gt (point_order (replicate (length later + 1) Max) (map At later ++ Min ∷ [])) ≡ true
  max_tail = max_gt (length later + 1) later refl

  abbrev pub Within : Option Chain → Type 0
  Within (Some ch) = (is_le (point_order ch.from pt) ≡ true) × (is_gt (point_order ch.to pt) ≡ true)
  Within None = Unit {0}

  pub within : (op : CompareOp) (v : Value) (r : Ordering) → order k v ≡ r → passes_by op r ≡ true → Within (chain_of (n + 1) op p v)
  within Eq v Equal h y = (ap is_le (from_value v Min Equal h) ∙ min_tail, ap is_gt (from_value v Max Equal h) ∙ max_tail)
  within Eq v Less h y = cc
  within Eq v Greater h y = cc
  within Ne v r h y = tt
  within Lt v Less h y = (low, ap is_gt (from_value v Min Less h))
  within Lt v Equal h y = cc
  within Lt v Greater h y = cc
  within Le v Less h y = (low, ap is_gt (from_value v Max Less h))
  within Le v Equal h y = (low, ap is_gt (from_value v Max Equal h) ∙ max_tail)
  within Le v Greater h y = cc
  within Gt v Greater h y = (ap is_le (from_value v Max Greater h), high)
  within Gt v Less h y = cc
  within Gt v Equal h y = cc
  within Ge v Greater h y = (ap is_le (from_value v Min Greater h), high)
  within Ge v Equal h y = (ap is_le (from_value v Min Equal h) ∙ min_tail, high)
  within Ge v Less h y = cc
