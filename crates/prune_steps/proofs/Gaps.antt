-- A point of a chain that no sibling accepts: the chain's start lies in no sibling, or some upper point is a gap.
use Rattle.std.proofs.Common.{◌≡◌, ◌⊎◌, inl, inr, Bool, true, false, not, ◌&&◌, ◌||◌, List, [], ◌∷◌, true≢false, refl, sym, ap, ◌∙◌}
use Rattle.std.specs.List.{list_any}
use Rattle.std.specs.Ordering.{is_gt, is_le, is_lt}
use Rattle.bound_forms.specs.declared.point.Edge.{Edge}
use Rattle.bound_forms.specs.Points.{point_order}
use Rattle.bound_forms.proofs.PointOrder.{point_total}
use Rattle.bound_forms.specs.declared.partition_bound.Bound.{Bound}
use Rattle.bound_forms.specs.declared.partition_bound.Bound.TheVariants.{Range, List as Listed, Hash, Default}
use Rattle.part_bounds.specs.Stored.{lies_in, upper_of}
use Rattle.prune_steps.specs.Chains.{Chain, is_gap}
use Rattle.prune_steps.proofs.Orders.{le_trans, le_above, not_above, above_not_le, gt_lt, lt_le, le_refl, not_le}

abbrev pub Among : Bound → List Bound → Type 0
Among x [] = ⊥
Among x (y ∷ ys) = (x ≡ y) ⊎ Among x ys

-- ---- tests

pub or_no1 : (a b : Bool) → a || b ≡ false → a ≡ false
or_no1 true b h = cc
or_no1 false b h = refl

pub or_no2 : (a b : Bool) → a || b ≡ false → b ≡ false
or_no2 true b h = cc
or_no2 false b h = h

pub or_yes1 : (a b : Bool) → a ≡ true → a || b ≡ true
or_yes1 true b h = refl
or_yes1 false b h = cc

pub or_yes2 : (a b : Bool) → b ≡ true → a || b ≡ true
or_yes2 true b h = refl
or_yes2 false b h = h

pub and_yes1 : (a b : Bool) → a && b ≡ true → a ≡ true
and_yes1 true b h = refl
and_yes1 false b h = cc

pub and_yes2 : (a b : Bool) → a && b ≡ true → b ≡ true
and_yes2 true b h = h
and_yes2 false b h = cc

pub both : (a b : Bool) → a ≡ true → b ≡ true → a && b ≡ true
both true b h k = k
both false b h k = cc

pub and_no : (a b : Bool) → a && b ≡ false → a ≡ true → b ≡ false
and_no true b h k = h
and_no false b h k = cc

pub none_at : (p : Bound → Bool) (xs : List Bound) (x : Bound) → list_any p xs ≡ false → Among x xs → p x ≡ false
none_at p [] x h m = absurd m
none_at p (y ∷ ys) x h (inl e) = ap p e ∙ or_no1 (p y) (list_any p ys) h
none_at p (y ∷ ys) x h (inr m) = none_at p ys x (or_no2 (p y) (list_any p ys) h) m

pub any_at : (p : Bound → Bool) (xs : List Bound) (x : Bound) → Among x xs → p x ≡ true → list_any p xs ≡ true
any_at p [] x m h = absurd m
any_at p (y ∷ ys) x (inl e) h = or_yes1 (p y) (list_any p ys) (ap p (sym e) ∙ h)
any_at p (y ∷ ys) x (inr m) h = or_yes2 (p y) (list_any p ys) (any_at p ys x m h)

pub some_at : (p : Bound → Bool) (xs : List Bound) → list_any p xs ≡ true → (x : Bound) × Among x xs × (p x ≡ true)
some_at p [] h = cc
some_at p (y ∷ ys) h = by (p y) refl h (some_at p ys)
  where
    by : (t : Bool) → p y ≡ t → t || list_any p ys ≡ true → (list_any p ys ≡ true → (x : Bound) × Among x ys × (p x ≡ true)) → (x : Bound) × Among x (y ∷ ys) × (p x ≡ true)
    by true e h' go = (y, inl refl, e)
    by false e h' go = let r = go h' in (r.0, inr r.1, r.2)

-- ---- the greatest upper point that is at most x

abbrev is_up : List Edge → Bound → Bool
is_up x (Range lower upper) = is_le (point_order upper x)
is_up x _ = false

record Top (x : List Edge) (xs : List Bound) : Type 0 where
  pub best : Bound
  pub among : Among best xs
  pub up : is_up x best ≡ true
  pub most : (b : Bound) → Among b xs → is_up x b ≡ true → is_le (point_order (upper_of b) (upper_of best)) ≡ true

abbrev Found : List Edge → List Bound → Type 0
Found x xs = ((b : Bound) → Among b xs → is_up x b ≡ false) ⊎ Top x xs

one_more : (x : List Edge) (y : Bound) (ys : List Bound) (t : Bool) → is_up x y ≡ t → Found x ys → Found x (y ∷ ys)
one_more x y ys false e (inl none) = inl (λ b m. elim m [ inl eq ↦ ap (is_up x) eq ∙ e | inr m' ↦ none b m' ])
one_more x y ys false e (inr top) = inr (record {
  best = top.best;
  among = inr top.among;
  up = top.up;
  most = λ b m h. elim m [ inl eq ↦ absurd (true≢false (sym h ∙ ap (is_up x) eq ∙ e)) | inr m' ↦ top.most b m' h ];
})
one_more x y ys true e (inl none) = inr (record {
  best = y;
  among = inl refl;
  up = e;
  most = λ b m h. elim m [ inl eq ↦ ap (λ z. is_le (point_order (upper_of z) (upper_of y))) eq ∙ le_refl point_total (upper_of y) | inr m' ↦ absurd (true≢false (sym h ∙ none b m')) ];
})
one_more x y ys true e (inr top) = by (is_le (point_order (upper_of top.best) (upper_of y))) refl
  where
    by : (t : Bool) → is_le (point_order (upper_of top.best) (upper_of y)) ≡ t → Found x (y ∷ ys)
    by true k = inr (record {
      best = y;
      among = inl refl;
      up = e;
      most = λ b m h. elim m [ inl eq ↦ ap (λ z. is_le (point_order (upper_of z) (upper_of y))) eq ∙ le_refl point_total (upper_of y) | inr m' ↦ le_trans point_total (upper_of b) (upper_of top.best) (upper_of y) (top.most b m' h) k ];
    })
    by false k = inr (record {
      best = top.best;
      among = inr top.among;
      up = top.up;
      most = λ b m h. elim m [ inl eq ↦ ap (λ z. is_le (point_order (upper_of z) (upper_of top.best))) eq ∙ not_le point_total (upper_of top.best) (upper_of y) k | inr m' ↦ top.most b m' h ];
    })

greatest : (x : List Edge) (xs : List Bound) → Found x xs
greatest x [] = inl (λ b m. absurd m)
greatest x (y ∷ ys) = one_more x y ys (is_up x y) refl (greatest x ys)

-- ---- the gap

-- a sibling that contains a lower point q and not x ends at x or below
ends_below : (q x : List Edge) (b : Bound) → lies_in q b ≡ true → lies_in x b ≡ false → is_le (point_order q x) ≡ true → is_up x b ≡ true
ends_below q x (Range lower upper) h k le = not_above point_total upper x (and_no (is_le (point_order lower x)) (is_gt (point_order upper x)) k (le_trans point_total lower q x (and_yes1 _ _ h) le))
ends_below q x Default h k le = cc
ends_below q x (Listed values) h k le = cc
ends_below q x (Hash m r) h k le = cc

above_point : (q : List Edge) (b : Bound) → lies_in q b ≡ true → is_lt (point_order q (upper_of b)) ≡ true
above_point q (Range lower upper) h = gt_lt point_total upper q (and_yes2 (is_le (point_order lower q)) _ h)
above_point q Default h = cc
above_point q (Listed values) h = cc
above_point q (Hash m r) h = cc

up_le : (x : List Edge) (b : Bound) → is_up x b ≡ true → is_le (point_order (upper_of b) x) ≡ true
up_le x (Range lower upper) h = h
up_le x Default h = cc
up_le x (Listed values) h = cc
up_le x (Hash m r) h = cc

gap_at : (all : List Bound) (c : Chain) (b : Bound) (x : List Edge) → is_up x b ≡ true → list_any (lies_in (upper_of b)) all ≡ false → is_le (point_order c.from (upper_of b)) ≡ true → is_lt (point_order (upper_of b) c.to) ≡ true → is_gap all c b ≡ true
gap_at all c (Range lower upper) x u h k m = both (not (list_any (lies_in upper) all) && is_le (point_order c.from upper)) (is_lt (point_order upper c.to)) (both (not (list_any (lies_in upper) all)) (is_le (point_order c.from upper)) (ap not h) k) m
gap_at all c Default x u h k m = cc
gap_at all c (Listed values) x u h k m = cc
gap_at all c (Hash n r) x u h k m = cc

-- a point of the chain that lies in no sibling, where the chain's start lies in one
pub gap : (all : List Bound) (c : Chain) (x : List Edge) → is_le (point_order c.from x) ≡ true → is_gt (point_order c.to x) ≡ true → list_any (lies_in x) all ≡ false → list_any (lies_in c.from) all ≡ true → list_any (is_gap all c) all ≡ true
gap all c x from to none start = by (greatest x all)
  where
    first : (b : Bound) × Among b all × (lies_in c.from b ≡ true)
    first = some_at (lies_in c.from) all start

    up : is_up x first.0 ≡ true
    up = ends_below c.from x first.0 first.2 (none_at (lies_in x) all first.0 none first.1) from

    by : Found x all → list_any (is_gap all c) all ≡ true
    by (inl no_up) = absurd (true≢false (sym up ∙ no_up first.0 first.1))
    by (inr top) = any_at (is_gap all c) all top.best top.among (gap_at all c top.best x top.up (lonely (list_any (lies_in (upper_of top.best)) all) refl)
        (le_trans point_total c.from (upper_of first.0) (upper_of top.best) (lt_le point_total c.from (upper_of first.0) (above_point c.from first.0 first.2)) (top.most first.0 first.1 up))
        (le_above point_total (upper_of top.best) c.to x (up_le x top.best top.up) to))
      where
        lonely : (t : Bool) → list_any (lies_in (upper_of top.best)) all ≡ t → t ≡ false
        lonely false e = refl
        lonely true e =
            let r = some_at (lies_in (upper_of top.best)) all e in
            let below = ends_below (upper_of top.best) x r.0 r.2 (none_at (lies_in x) all r.0 none r.1) (up_le x top.best top.up) in
            absurd (above_not_le point_total (upper_of top.best) (upper_of r.0) (above_point (upper_of top.best) r.0 r.2) (top.most r.0 r.1 below))
