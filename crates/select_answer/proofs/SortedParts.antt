-- Parts that are sorted one by one, and stand in order.
use Rattle.std.proofs.Common.{◌≡◌, ℕ, zero, suc, ◌+◌, ◌≤◌, ◌<◌, ◌==◌, arith, Bool, true, false, not, List, [], ◌∷◌, ◌++◌, length, take, drop, get_or, refl, sym, ap, ◌∙◌, subst, add-one, append-nil}
use Rattle.std.specs.List.{filter}
use Rattle.std.specs.Cmp.{IsStrictWeakOrder}
use Rattle.std.specs.List.Sorted.{IsSortedBy, IsStableBy, ties}
use Rattle.std.proofs.lemmas.Bool.Decides.{nat_tests}
use Rattle.std.proofs.lemmas.List.{length-take-le, take-append-drop, take_at, drop_at, take_all}
use Rattle.std.proofs.lemmas.List.Elements.{filter-append}
use Rattle.std.proofs.lemmas.List.Sorted.{sorted_far}
use Rattle.std.proofs.lemmas.Slice.{take-put_mid}
use borrow.Rule.Slice.PartMut.{put_mid}
use Rattle.cond_logic.specs.declared.select.SortKey.{SortKey}
use Rattle.part_bounds.specs.Sorted.{insert, sorted}
use Rattle.part_bounds.proofs.Stable.{NoneLess, Rising, rising, stably_sorted}
use Rattle.select_answer.specs.Keys.{row_less, before_all, stands_right}
use Rattle.select_answer.specs.declared.keyed_row.KeyedRow.{KeyedRow}
use Rattle.select_answer.proofs.Total.{row_weak}

-- ---- what stands behind the last row

pub stands_last : (ks : List SortKey) (front behind : List KeyedRow) (last : KeyedRow) → stands_right ks (front ++ last ∷ []) behind ≡ before_all ks last behind
stands_last ks [] behind last = refl
stands_last ks (r ∷ []) behind last = refl
stands_last ks (r ∷ q ∷ rs) behind last = stands_last ks (q ∷ rs) behind last

module _ {X : Type 0} (lt : X → X → Bool) (o : IsStrictWeakOrder lt) where
  -- ---- rows that ascend, one by one and by places

  none_behind : (x y : X) (ys : List X) → NoneLess lt o y ys → lt y x ≡ false → NoneLess lt o x ys
  none_behind x y [] n h = tt
  none_behind x y (w ∷ ys) n h = (o.chain w y x n.0 h, none_behind x y ys n.1 h)

  ascends : (xs : List X) → IsSortedBy lt xs → Rising lt o xs
  ascends xs up = rising lt o xs (sorted_far lt o xs up)

  next_to : (xs : List X) → Rising lt o xs → (k : ℕ) (d : X) → suc k < length xs → lt (get_or xs (suc k) d) (get_or xs k d) ≡ false
  next_to [] r k d less = absurd (omega (arith, less))
  next_to (x ∷ []) r k d less = absurd (omega (arith, less))
  next_to (x ∷ y ∷ xs) r zero d less = r.0.0
  next_to (x ∷ y ∷ xs) r (suc k) d less = next_to (y ∷ xs) r.1 k d (omega (arith, less))

  by_places : (xs : List X) → Rising lt o xs → IsSortedBy lt xs
  by_places xs r = λ k d low less. subst (λ n. lt (get_or xs n d) (get_or xs k d) ≡ false) (sym (add-one k)) (next_to xs r k d (omega (arith, less)))

  -- ---- a part among others

  -- rows that tie stay in order where they do in the part
  pub part_stable : (a k : ℕ) (xs ys : List X) → IsStableBy lt (take k (drop a xs)) ys → IsStableBy lt xs (put_mid a k xs ys)
  part_stable a k xs ys stable w =
      let p = ties lt w in
      let front = take a xs in
      let mid = take k (drop a xs) in
      let post = drop k (drop a xs) in
      let whole : front ++ (mid ++ post) ≡ xs = ap (λ l. front ++ l) (take-append-drop k (drop a xs)) ∙ take-append-drop a xs in
      filter-append p front (ys ++ post)
      ∙ ap (λ l. filter p front ++ l) (filter-append p ys post ∙ ap (λ l. l ++ filter p post) (stable w) ∙ sym (filter-append p mid post))
      ∙ sym (filter-append p front (mid ++ post)) ∙ ap (filter p) whole

  pub stable_again : (xs ys zs : List X) → IsStableBy lt xs ys → IsStableBy lt ys zs → IsStableBy lt xs zs
  stable_again xs ys zs first second w = second w ∙ first w

  -- all are sorted
  pub all_sorted : (xs ys : List X) → IsSortedBy lt ys → IsStableBy lt xs ys → ys ≡ sorted lt xs
  all_sorted xs ys up stable = stably_sorted lt o xs ys up stable

  pub front_sorted : (xs ys : List X) (n : ℕ) → n ≡ length ys → IsSortedBy lt (take n ys) → IsStableBy lt xs ys → ys ≡ sorted lt xs
  front_sorted xs ys n is up stable = all_sorted xs ys (subst (IsSortedBy lt) (take_all n ys (omega (arith, is))) up) stable

-- by no keys all rows stay in order
none_moved : (rows : List KeyedRow) → sorted (row_less []) rows ≡ rows
none_moved [] = refl
none_moved (r ∷ []) = refl
none_moved (r ∷ q ∷ rows) = ap (insert (row_less []) r) (none_moved (q ∷ rows))

pub unsorted : (ks : List SortKey) (n : ℕ) (rows : List KeyedRow) → n ≡ length ks → (n == 0) ≡ true → rows ≡ sorted (row_less ks) rows
unsorted [] n rows size none = sym (none_moved rows)
unsorted (k ∷ ks) n rows size none = let left : n ≡ 0 = grind (arith, nat_tests, none) in absurd (omega (arith, size, left))

-- a part of rows that stands right behind those before it
module _ (ks : List SortKey) where
  joined_rising : (xs ys rest : List KeyedRow) → Rising (row_less ks) (row_weak ks) xs → Rising (row_less ks) (row_weak ks) ys → stands_right ks xs (ys ++ rest) ≡ true → Rising (row_less ks) (row_weak ks) (xs ++ ys)
  joined_rising [] ys rest r s right = s
  joined_rising (x ∷ []) [] rest r s right = r
  joined_rising (x ∷ []) (y ∷ ys) rest r s right =
      let less : row_less ks y x ≡ false = is_not (row_less ks y x) right in
      ((less, none_behind (row_less ks) (row_weak ks) x y ys s.0 less), s)
    where
      is_not : (b : Bool) → not b ≡ true → b ≡ false
      is_not false h = refl
      is_not true h = absurd (cc)
  joined_rising (x ∷ z ∷ xs) ys rest r s right =
      let go = joined_rising (z ∷ xs) ys rest r.1 s right in
      ((r.0.0, none_behind (row_less ks) (row_weak ks) x z (xs ++ ys) go.0 r.0.0), go)

  pub part_sorted : (a k e : ℕ) (xs ys before behind : List KeyedRow) → a ≤ length xs → length ys ≡ k → e ≡ a + k → before ≡ take a (put_mid a k xs ys) → behind ≡ drop a (put_mid a k xs ys)
      → stands_right ks before behind ≡ true → IsSortedBy (row_less ks) ys → IsSortedBy (row_less ks) (take a xs) → IsSortedBy (row_less ks) (take e (put_mid a k xs ys))
  part_sorted a k e xs ys before behind less long is front back right up first =
      let post = drop k (drop a xs) in
      let count : length (take a xs) ≡ a = length-take-le a xs less in
      let b : before ≡ take a xs = front ∙ take_at (take a xs) (ys ++ post) a count in
      let h : behind ≡ ys ++ post = back ∙ drop_at (take a xs) (ys ++ post) a count in
      let here : stands_right ks (take a xs) (ys ++ post) ≡ true = subst (λ l. stands_right ks l (ys ++ post) ≡ true) b (subst (λ l. stands_right ks before l ≡ true) h right) in
      subst (IsSortedBy (row_less ks)) (sym (take-put_mid a k xs ys e (omega (arith, is, long)) less))
      (by_places (row_less ks) (row_weak ks) (take a xs ++ ys) (joined_rising (take a xs) ys post (ascends (row_less ks) (row_weak ks) (take a xs) first) (ascends (row_less ks) (row_weak ks) ys up) here))

  -- a part without rows
  pub no_part : (a k e : ℕ) (xs ys : List KeyedRow) → a ≤ length xs → length ys ≡ k → e ≡ a + k → k ≡ 0 → IsSortedBy (row_less ks) (take a xs) → IsSortedBy (row_less ks) (take e (put_mid a k xs ys))
  no_part a k e xs ys less long is none first =
      subst (IsSortedBy (row_less ks)) (sym (take-put_mid a k xs ys e (omega (arith, is, long)) less)) (subst (λ l. IsSortedBy (row_less ks) (take a xs ++ l)) (sym (nothing ys (omega (arith, long, none)))) (subst (IsSortedBy (row_less ks)) (sym (append-nil (take a xs))) first))
    where
      nothing : (ls : List KeyedRow) → length ls ≡ 0 → ls ≡ []
      nothing [] h = refl
      nothing (l ∷ ls) h = absurd (omega (arith, h))
