-- A range that begins where another ends, or behind it, overlaps neither that one nor those before it.
use Rattle.std.proofs.Common.{◌≡◌, ℕ, zero, suc, ◌+◌, ◌<◌, ◌≤◌, ◌&&◌, arith, ap, refl, sym, ◌∙◌, Bool, true, false, List, [], ◌∷◌, drop, get_or, length, map, inl, inr}
use Rattle.std.specs.List.{All, find}
use Rattle.std.specs.Ordering.{is_ge, is_gt, is_lt}
use Rattle.std.specs.declared.cmp.Ordering.{Ordering}
use Rattle.std.specs.declared.cmp.Ordering.TheVariants.{Less, Equal, Greater}
use Rattle.std.proofs.lemmas.Bool.{cases_lt}
use Rattle.std.proofs.lemmas.List.{get_or-map, length-map}
use Rattle.pg_values.specs.KeyKinds.{IsNotNull}
use Rattle.bound_forms.specs.declared.point.Edge.{Edge}
use Rattle.bound_forms.specs.declared.partition_bound.Bound.{Bound}
use Rattle.bound_forms.specs.declared.partition_bound.Bound.TheVariants.{Range, List as Listed, Hash, Default}
use Rattle.bound_forms.specs.Points.{point_order}
use Rattle.bound_forms.specs.Bounds.{comes_after, is_below, is_filled, overlaps, BoundOfKind, IsInPlainOrder}
use Rattle.bound_forms.proofs.OverlapLaws.{overlap_of_filled}
use Rattle.bound_forms.proofs.PointOrder.{point_total}
use Rattle.bound_forms.proofs.TotalOrder.{lt-gt, le_lt, lt_le, lt_lt, not_lt-le}
use Rattle.history.specs.declared.catalogue.Entry.{Entry}
use Rattle.row_router.specs.Histories.{bound_of}
use Rattle.part_catalog.specs.Kept.{no_entry}
use Rattle.part_ddl.specs.Placing.{begins_behind}

ge-not_lt : (r : Ordering) → is_ge r ≡ true → is_lt r ≡ false
ge-not_lt Less h = cc
ge-not_lt Equal h = refl
ge-not_lt Greater h = refl

and_off : (s t : Bool) → t ≡ false → s && t ≡ false
and_off true t off = off
and_off false t off = refl

first_off : (s t : Bool) → s && t ≡ false → t ≡ true → s ≡ false
first_off true t off on = sym on ∙ off
first_off false t off on = refl

-- where the second ends before the first begins
ended_apart : (l u a e : List Edge) → is_below l u ≡ true → is_below a e ≡ true → is_lt (point_order l e) ≡ false → overlaps (Range l u) (Range a e) ≡ false
ended_apart l u a e f g ended =
    overlap_of_filled a e l u g f ∙ and_off (is_lt (point_order a u)) (is_gt (point_order e l)) (sym (lt-gt point_total l e) ∙ ended)

-- the other one
pub behind_apart : (b c : Bound) → is_filled b ≡ true → is_filled c ≡ true → begins_behind b c ≡ true → overlaps b c ≡ false
behind_apart (Range l u) (Range m v) f g behind = ended_apart l u m v f g (ge-not_lt (point_order l v) behind)
behind_apart (Range l u) (Listed vs) f g behind = refl
behind_apart (Range l u) (Hash n r) f g behind = refl
behind_apart (Range l u) Default f g behind = refl
behind_apart (Listed vs) c f g behind = absurd (cc)
behind_apart (Hash n r) c f g behind = absurd (cc)
behind_apart Default c f g behind = absurd (cc)

-- one that ends before a point lies before each range that begins there or later
ended_first : (l a e m v : List Edge) → is_below a e ≡ true → is_below m v ≡ true → is_lt (point_order l v) ≡ false → is_gt (point_order a m) ≡ false → overlaps (Range a e) (Range m v) ≡ false → is_lt (point_order l e) ≡ false
ended_first l a e m v g f over order apart = by (is_lt (point_order l e)) refl
  where
    begun : is_gt (point_order v a) ≡ true
    begun = sym (lt-gt point_total a v) ∙ le_lt point_total a m v order f

    ends : is_lt (point_order m e) ≡ false
    ends = first_off (is_lt (point_order m e)) (is_gt (point_order v a)) (sym (overlap_of_filled m v a e f g) ∙ apart) begun

    by : (t : Bool) → is_lt (point_order l e) ≡ t → t ≡ false
    by false is = refl
    by true is = sym (lt_lt point_total l m v (lt_le point_total l e m is (not_lt-le point_total m e ends)) f) ∙ over

-- and one before it
pub behind_earlier : (b x c : Bound) → is_filled b ≡ true → is_filled x ≡ true → is_filled c ≡ true → begins_behind b c ≡ true → comes_after x c ≡ false → overlaps x c ≡ false → overlaps b x ≡ false
behind_earlier (Range l u) (Range a e) (Range m v) f g k behind order apart =
    ended_apart l u a e f g (ended_first l a e m v g k (ge-not_lt (point_order l v) behind) order apart)
behind_earlier (Range l u) (Range a e) (Listed vs) f g k behind order apart = absurd (cc)
behind_earlier (Range l u) (Range a e) (Hash n r) f g k behind order apart = absurd (cc)
behind_earlier (Range l u) (Range a e) Default f g k behind order apart = absurd (cc)
behind_earlier (Range l u) (Listed vs) c f g k behind order apart = refl
behind_earlier (Range l u) (Hash n r) c f g k behind order apart = refl
behind_earlier (Range l u) Default c f g k behind order apart = refl
behind_earlier (Listed vs) x c f g k behind order apart = absurd (cc)
behind_earlier (Hash n r) x c f g k behind order apart = absurd (cc)
behind_earlier Default x c f g k behind order apart = absurd (cc)

-- a bound that begins behind something is filled
pub behind_filled : (b c : Bound) → BoundOfKind IsNotNull b → begins_behind b c ≡ true → is_filled b ≡ true
behind_filled (Range l u) c kind behind = kind.2
behind_filled (Listed vs) c kind behind = kind.2
behind_filled (Hash n r) c kind behind = absurd (cc)
behind_filled Default c kind behind = refl

-- ---- among partitions in plain order

-- the bound overlaps none of the first so many
abbrev pub ApartFrom : Bound → List Entry → ℕ → Type 0
ApartFrom b es n = (k : ℕ) → k < n → overlaps b (get_or es k no_entry.entry).bound ≡ false

pub apart_up_to : (b : Bound) (es : List Entry) (n at : ℕ) → n < length es → at ≡ n + 1 → BoundOfKind IsNotNull b → All (λ e. is_filled e.bound ≡ true) es → IsInPlainOrder (map bound_of es) → begins_behind b (get_or es n no_entry.entry).bound ≡ true → ApartFrom b es at
apart_up_to b es n at lt is kind filled ordered behind k le =
    let d : Entry = no_entry.entry in
    let c = (get_or es n d).bound in
    let full = behind_filled b c kind behind in
    elim (cases_lt k n) [
      | inl before ↦
          let within : k < length es = omega (arith, before, lt) in
          let x = (get_or es k d).bound in
          let at_k : get_or (map bound_of es) k d.bound ≡ x = get_or-map bound_of es k d d.bound within in
          let at_n : get_or (map bound_of es) n d.bound ≡ c = get_or-map bound_of es n d d.bound lt in
          let long : n < length (map bound_of es) = omega (arith, lt, length-map es bound_of) in
          let order : comes_after x c ≡ false = ap (λ y. comes_after y c) (sym at_k) ∙ ap (comes_after (get_or (map bound_of es) k d.bound)) (sym at_n) ∙ ordered.sorted k n d.bound before long in
          let apart : overlaps x c ≡ false = ap (λ y. overlaps y c) (sym at_k) ∙ ap (overlaps (get_or (map bound_of es) k d.bound)) (sym at_n) ∙ ordered.apart k n d.bound before long in
          behind_earlier b x c full (filled k d within) (filled n d lt) behind order apart
      | inr over ↦
          let same : k ≡ n = omega (arith, over, le, is) in
          ap (λ i. overlaps b (get_or es i d).bound) same ∙ behind_apart b c full (filled n d lt) behind
    ]

-- those that fail first are passed over
pub passed_over : {A : Type 0} (p : Entry → Bool) (f : A → Entry) (xs : List A) (n : ℕ) (d : Entry) → n ≤ length xs → ((k : ℕ) → k < n → p (get_or (map f xs) k d) ≡ false) → find p (map f (drop n xs)) ≡ find p (map f xs)
passed_over p f xs zero d le fail = refl
passed_over p f [] (suc n) d le fail = absurd (omega (arith, le))
passed_over p f (x ∷ xs) (suc n) d le fail =
    let first : p (f x) ≡ false = fail 0 (omega arith) in
    rw first (passed_over p f xs n d (omega (arith, le)) (λ k lt. fail (suc k) (omega (arith, lt))))
