-- Lists of entries in which one stands at another place, with the same bound and of the same two tables.
use Rattle.std.proofs.Common.{◌≡◌, ◌≢◌, ℕ, zero, suc, ◌+◌, ◌==◌, Bool, true, false, ◌&&◌, not, List, [], ◌∷◌, ◌++◌, inl, inr, refl, sym, ap, ◌∙◌, subst, arith, filter, map, get_or, All, append_assoc, if◌then◌else◌, Option, Some, None}
use Rattle.std.specs.List.{position_or_len}
use Rattle.std.specs.Ordering.{is_gt, is_lt}
use Rattle.std.proofs.lemmas.Bool.{cases_Bool}
use Rattle.std.proofs.lemmas.Bool.Decides.{nat_tests}
use Rattle.std.proofs.lemmas.List.Elements.{All-nil, All-cons, All-head, All-tail, filter-append}
use Rattle.bound_forms.specs.declared.partition_bound.Bound.{Bound}
use Rattle.bound_forms.specs.declared.partition_bound.Bound.TheVariants.{Range, List as Listed, Hash, Default}
use Rattle.bound_forms.specs.Bounds.{comes_after, overlaps, are_siblings, is_filled}
use Rattle.bound_forms.specs.Points.{point_order}
use Rattle.bound_forms.proofs.PointOrder.{point_total}
use Rattle.bound_forms.proofs.TotalOrder.{gt-le, le_trans, lt-gt}
use Rattle.bound_forms.proofs.OverlapLaws.{overlap_of_filled}
use Rattle.bound_forms.proofs.ListedLaws.{shared_least}
use Rattle.bound_forms.proofs.Residues.{meets_self}
use Rattle.bound_forms.proofs.PlainOrder.{plain_total, either_order}
use Rattle.history.specs.declared.catalogue.Entry.{Entry}
use Rattle.history.specs.declared.catalogue.Table.{Table}
use Rattle.history.specs.declared.catalogue.TableShape.{TableShape}
use Rattle.history.specs.declared.catalogue.TableShape.TheVariants.{Leaf, Level}
use Rattle.history.specs.Places.{table_at}
use Rattle.row_router.specs.Trees.{TableTree}
use Rattle.row_router.specs.declared.path_part.PathPart.{PathPart}
use Rattle.row_router.specs.Histories.{placed, all_placed, is_under, is_over, is_entry, children, above, parent_in, place_among, place_of, upwards, bound_of, child_of_entry, node_at, grown, tree_within}
use Rattle.legal_statements.proofs.Behind.{other_number}

-- ---- two entries that are placed

placed_first : (e x : Entry) (xs : List Entry) → comes_after x.bound e.bound ≡ true → placed e (x ∷ xs) ≡ e ∷ (x ∷ xs)
placed_first e x xs is = rw is refl

placed_later : (e x : Entry) (xs : List Entry) → comes_after x.bound e.bound ≡ false → placed e (x ∷ xs) ≡ x ∷ placed e xs
placed_later e x xs is = rw is refl

two_placed : (a b : Entry) (xs : List Entry) → comes_after b.bound a.bound ≡ true → placed a (placed b xs) ≡ placed b (placed a xs)
two_placed a b [] h = placed_first a b [] h ∙ sym (placed_later b a [] (gt-le plain_total b.bound a.bound h))
two_placed a b (c ∷ cs) h = by (comes_after c.bound a.bound) refl (comes_after c.bound b.bound) refl (two_placed a b cs h)
  where
    turned : comes_after a.bound b.bound ≡ false
    turned = gt-le plain_total b.bound a.bound h

    by : (s : Bool) → comes_after c.bound a.bound ≡ s → (t : Bool) → comes_after c.bound b.bound ≡ t → placed a (placed b cs) ≡ placed b (placed a cs) → placed a (placed b (c ∷ cs)) ≡ placed b (placed a (c ∷ cs))
    by true e true f rest =
        ap (placed a) (placed_first b c cs f) ∙ placed_first a b (c ∷ cs) h
        ∙ sym (ap (placed b) (placed_first a c cs e) ∙ placed_later b a (c ∷ cs) turned ∙ ap (λ l. a ∷ l) (placed_first b c cs f))
    by true e false f rest =
        ap (placed a) (placed_later b c cs f) ∙ placed_first a c (placed b cs) e
        ∙ sym (ap (placed b) (placed_first a c cs e) ∙ placed_later b a (c ∷ cs) turned ∙ ap (λ l. a ∷ l) (placed_later b c cs f))
    by false e t f rest =
        let g = le_trans plain_total c.bound a.bound b.bound e turned in
        ap (placed a) (placed_later b c cs g) ∙ placed_later a c (placed b cs) e ∙ ap (λ l. c ∷ l) rest
        ∙ sym (ap (placed b) (placed_later a c cs e) ∙ placed_later b c (placed a cs) g)

-- a bound that is not empty overlaps itself
self_overlaps : (b : Bound) → is_filled b ≡ true → overlaps b b ≡ true
self_overlaps (Range l u) f =
    let ended : is_gt (point_order u l) ≡ true = sym (lt-gt point_total l u) ∙ f in
    let both : is_lt (point_order l u) && is_gt (point_order u l) ≡ true = rw (f, ended) refl in
    overlap_of_filled l u l u f f ∙ both
self_overlaps (Listed values) f = elim (cases_Bool (comes_after (Listed values) (Listed values))) [
  | inl y ↦ absurd (let n : comes_after (Listed values) (Listed values) ≡ false = gt-le plain_total (Listed values) (Listed values) y in let c : true ≡ false = sym y ∙ n in cc)
  | inr n ↦ shared_least values values f f n n
]
self_overlaps (Hash m r) f = rw (meets_self m r) refl
self_overlaps Default f = refl

abbrev pub IsApart : Entry → Entry → Type 0
IsApart a b = (are_siblings a.bound b.bound ≡ true) × (overlaps a.bound b.bound ≡ false) × (is_filled a.bound ≡ true) × (is_filled b.bound ≡ true)

heads_same : (a b : Bound) → (b ∷ (a ∷ [])) ≡ (a ∷ (b ∷ [])) → b ≡ a
heads_same a b e = cc

-- neither stands behind the other
not_beside : (a b : Entry) → IsApart a b → comes_after b.bound a.bound ≡ false → comes_after a.bound b.bound ≡ false → ⊥
not_beside a b apart n m =
    let order = either_order a.bound b.bound [] apart.0 apart.1 apart.2 apart.3 in
    let same : b.bound ≡ a.bound = heads_same a.bound b.bound (rw (n, m) at order) in
    let over : overlaps a.bound b.bound ≡ true = subst (λ (z : Bound). overlaps a.bound z ≡ true) (sym same) (self_overlaps a.bound apart.2) in
    absurd (let c : true ≡ false = sym over ∙ apart.1 in cc)

apart_placed : (a b : Entry) (xs : List Entry) → IsApart a b → placed a (placed b xs) ≡ placed b (placed a xs)
apart_placed a b xs apart = elim (cases_Bool (comes_after b.bound a.bound)) [
  | inl y ↦ two_placed a b xs y
  | inr n ↦ elim (cases_Bool (comes_after a.bound b.bound)) [
    | inl z ↦ sym (two_placed b a xs z)
    | inr m ↦ absurd (not_beside a b apart n m)
  ]
]

-- ---- one that is placed among many

one_more : (e : Entry) (done es : List Entry) → All (IsApart e) es → all_placed (placed e done) es ≡ placed e (all_placed done es)
one_more e done [] apart = refl
one_more e done (x ∷ xs) apart =
    ap (λ (d : List Entry). all_placed d xs) (sym (apart_placed e x done (All-head (IsApart e) x xs apart))) ∙ one_more e (placed x done) xs (All-tail (IsApart e) x xs apart)

placed_append : (done xs ys : List Entry) → all_placed done (xs ++ ys) ≡ all_placed (all_placed done xs) ys
placed_append done [] ys = refl
placed_append done (x ∷ xs) ys = placed_append (placed x done) xs ys

among : (e : Entry) (before after : List Entry) → All (IsApart e) after → all_placed [] (before ++ (e ∷ after)) ≡ placed e (all_placed [] (before ++ after))
among e before after apart =
    placed_append [] before (e ∷ after) ∙ (one_more e (all_placed [] before) after apart ∙ ap (placed e) (sym (placed_append [] before after)))

last : (e : Entry) (xs : List Entry) → all_placed [] (xs ++ (e ∷ [])) ≡ placed e (all_placed [] xs)
last e xs = placed_append [] xs (e ∷ [])

alike : {Y : Type 0} (f : Entry → Y) (a b : Entry) (xs : List Entry) → a.bound ≡ b.bound → f a ≡ f b → map f (placed a xs) ≡ map f (placed b xs)
alike f a b [] bound same = ap (λ y. y ∷ []) same
alike f a b (x ∷ xs) bound same = elim (cases_Bool (comes_after x.bound a.bound)) [
  | inl y ↦ ap (map f) (placed_first a x xs y) ∙ (ap (λ z. z ∷ map f (x ∷ xs)) same ∙ sym (ap (map f) (placed_first b x xs (subst (λ (z : Bound). comes_after x.bound z ≡ true) bound y))))
  | inr n ↦ ap (map f) (placed_later a x xs n) ∙ (ap (λ zs. f x ∷ zs) (alike f a b xs bound same) ∙ sym (ap (map f) (placed_later b x xs (subst (λ (z : Bound). comes_after x.bound z ≡ false) bound n))))
]

-- ---- below one table

-- where they stand below the same table
abbrev pub StandsApart : Entry → Entry → Type 0
StandsApart e x = e.parent.number ≡ x.parent.number → IsApart e x

same_number : (n m : ℕ) → (n == m) ≡ true → n ≡ m
same_number n m is = grind (arith, nat_tests, is)

apart_below : (t : ℕ) (e : Entry) (es : List Entry) → is_under t e ≡ true → All (StandsApart e) es → All (IsApart e) (filter (is_under t) es)
apart_below t e [] is all = All-nil (IsApart e)
apart_below t e (x ∷ xs) is all = elim (cases_Bool (is_under t x)) [
  | inl y ↦
      let parent : e.parent.number ≡ x.parent.number = same_number e.parent.number t is ∙ sym (same_number x.parent.number t y) in
      rw y (All-cons (IsApart e) x (filter (is_under t) xs) (All-head (StandsApart e) x xs all parent) (apart_below t e xs is (All-tail (StandsApart e) x xs all)))
  | inr n ↦ rw n (apart_below t e xs is (All-tail (StandsApart e) x xs all))
]

module _ (old again : Entry) (before after : List Entry) (parent : again.parent.number ≡ old.parent.number) (child : again.child.number ≡ old.child.number) (bound : again.bound ≡ old.bound) (apart : All (StandsApart old) after) where
  abbrev moved : List Entry
  moved = (before ++ after) ++ (again ∷ [])

  abbrev stayed : List Entry
  stayed = before ++ (old ∷ after)

  abbrev under : (t : ℕ) → List Entry
  under t = filter (is_under t) before ++ filter (is_under t) after

  both_under : (t : ℕ) → filter (is_under t) (before ++ after) ≡ under t
  both_under t = filter-append (is_under t) before after

  here_with : (t : ℕ) → is_under t again ≡ true → children moved t ≡ placed again (all_placed [] (under t))
  here_with t y =
      let tail : filter (is_under t) (again ∷ []) ≡ again ∷ [] = rw y refl in
      ap (all_placed []) (filter-append (is_under t) (before ++ after) (again ∷ []) ∙ (ap (λ (xs : List Entry). xs ++ filter (is_under t) (again ∷ [])) (both_under t) ∙ ap (λ (ys : List Entry). under t ++ ys) tail)) ∙ last again (under t)

  here_without : (t : ℕ) → is_under t old ≡ true → children stayed t ≡ placed old (all_placed [] (under t))
  here_without t y =
      let tail : filter (is_under t) (old ∷ after) ≡ old ∷ filter (is_under t) after = rw y refl in
      ap (all_placed []) (filter-append (is_under t) before (old ∷ after) ∙ ap (λ (ys : List Entry). filter (is_under t) before ++ ys) tail) ∙ among old (filter (is_under t) before) (filter (is_under t) after) (apart_below t old after y apart)

  nothing_behind : (xs : List Entry) → xs ++ [] ≡ xs
  nothing_behind [] = refl
  nothing_behind (x ∷ xs) = ap (λ (ys : List Entry). x ∷ ys) (nothing_behind xs)

  there_with : (t : ℕ) → is_under t again ≡ false → children moved t ≡ all_placed [] (under t)
  there_with t n =
      let tail : filter (is_under t) (again ∷ []) ≡ [] = rw n refl in
      ap (all_placed []) (filter-append (is_under t) (before ++ after) (again ∷ []) ∙ (ap (λ (xs : List Entry). xs ++ filter (is_under t) (again ∷ [])) (both_under t) ∙ (ap (λ (ys : List Entry). under t ++ ys) tail ∙ nothing_behind (under t))))

  there_without : (t : ℕ) → is_under t old ≡ false → children stayed t ≡ all_placed [] (under t)
  there_without t n =
      let tail : filter (is_under t) (old ∷ after) ≡ filter (is_under t) after = rw n refl in
      ap (all_placed []) (filter-append (is_under t) before (old ∷ after) ∙ ap (λ (ys : List Entry). filter (is_under t) before ++ ys) tail)

  below_alike : {Y : Type 0} (f : Entry → Y) (t : ℕ) → f again ≡ f old → map f (children moved t) ≡ map f (children stayed t)
  below_alike f t same = elim (cases_Bool (is_under t again)) [
    | inl y ↦
        let z : is_under t old ≡ true = ap (λ (n : ℕ). n == t) (sym parent) ∙ y in
        ap (map f) (here_with t y) ∙ (alike f again old (all_placed [] (under t)) bound same ∙ sym (ap (map f) (here_without t z)))
    | inr n ↦
        let m : is_under t old ≡ false = ap (λ (k : ℕ). k == t) (sym parent) ∙ n in
        ap (map f) (there_with t n) ∙ sym (ap (map f) (there_without t m))
  ]

  pub children_alike : again ≡ old → (t : ℕ) → children moved t ≡ children stayed t
  children_alike same t = sym (itself (children moved t)) ∙ (below_alike (λ x. x) t same ∙ itself (children stayed t))
    where
      itself : (xs : List Entry) → map (λ (x : Entry). x) xs ≡ xs
      itself [] = refl
      itself (x ∷ xs) = ap (λ (ys : List Entry). x ∷ ys) (itself xs)

  maps_agree : (f g : Entry → TableTree) → ((x : Entry) → f x ≡ g x) → (xs : List Entry) → map f xs ≡ map g xs
  maps_agree f g same [] = refl
  maps_agree f g same (x ∷ xs) = ap (λ (t : TableTree). t ∷ map f xs) (same x) ∙ ap (λ (ts : List TableTree). g x ∷ ts) (maps_agree f g same xs)

  pub trees_alike : (tables : List Table) (n named t : ℕ) → tree_within n tables moved named t ≡ tree_within n tables stayed named t
  trees_alike tables zero named t = refl
  trees_alike tables (suc n) named t =
      let f : Entry → TableTree = λ e. tree_within n tables moved named (child_of_entry e) in
      let g : Entry → TableTree = λ e. tree_within n tables stayed named (child_of_entry e) in
      let kids : map f (children moved t) ≡ map g (children stayed t) =
      maps_agree f g (λ x. trees_alike tables n named (child_of_entry x)) (children moved t) ∙ below_alike g t (ap (tree_within n tables stayed named) child) in
      ap (λ (bs : List Bound). grown (table_at tables t).shape (node_at tables named t) bs (map f (children moved t))) (below_alike bound_of t bound)
      ∙ ap (λ (ts : List TableTree). grown (table_at tables t).shape (node_at tables named t) (map bound_of (children stayed t)) ts) kids

-- ---- lists of entries of the same tables with the same bounds, whose numbers are related

module _ (Q : ℕ → ℕ → Type 0) where
  pub record IsLike (a b : Entry) : Type 0 where
    pub parent : a.parent.number ≡ b.parent.number
    pub child : a.child.number ≡ b.child.number
    pub bound : a.bound ≡ b.bound
    pub number : Q a.id.number b.id.number

  abbrev pub AreLike : List Entry → List Entry → Type 0
  AreLike [] [] = Unit {0}
  AreLike [] (y ∷ ys) = ⊥
  AreLike (x ∷ xs) [] = ⊥
  AreLike (x ∷ xs) (y ∷ ys) = IsLike x y × AreLike xs ys

  pub like_append : (xs ys us vs : List Entry) → AreLike xs ys → AreLike us vs → AreLike (xs ++ us) (ys ++ vs)
  like_append [] [] us vs first second = second
  like_append [] (y ∷ ys) us vs first second = absurd first
  like_append (x ∷ xs) [] us vs first second = absurd first
  like_append (x ∷ xs) (y ∷ ys) us vs first second = (first.0, like_append xs ys us vs first.1 second)

  like_under : (t : ℕ) (xs ys : List Entry) → AreLike xs ys → AreLike (filter (is_under t) xs) (filter (is_under t) ys)
  like_under t [] [] like = tt
  like_under t [] (y ∷ ys) like = absurd like
  like_under t (x ∷ xs) [] like = absurd like
  like_under t (x ∷ xs) (y ∷ ys) like = by (is_under t x) (is_under t y) (ap (λ (n : ℕ). n == t) like.0.parent) (like_under t xs ys like.1)
    where
      by : (a b : Bool) → a ≡ b → AreLike (filter (is_under t) xs) (filter (is_under t) ys) → AreLike (if a then x ∷ filter (is_under t) xs else filter (is_under t) xs) (if b then y ∷ filter (is_under t) ys else filter (is_under t) ys)
      by true true e rest = (like.0, rest)
      by false false e rest = rest
      by true false e rest = absurd (cc)
      by false true e rest = absurd (cc)

  like_placed : (e f : Entry) (xs ys : List Entry) → IsLike e f → AreLike xs ys → AreLike (placed e xs) (placed f ys)
  like_placed e f [] [] same like = (same, tt)
  like_placed e f [] (y ∷ ys) same like = absurd like
  like_placed e f (x ∷ xs) [] same like = absurd like
  like_placed e f (x ∷ xs) (y ∷ ys) same like = by (comes_after x.bound e.bound) (comes_after y.bound f.bound) both (like_placed e f xs ys same like.1)
    where
      both : comes_after x.bound e.bound ≡ comes_after y.bound f.bound
      both = ap (λ (b : Bound). comes_after b e.bound) like.0.bound ∙ ap (λ (b : Bound). comes_after y.bound b) same.bound

      by : (a b : Bool) → a ≡ b → AreLike (placed e xs) (placed f ys) → AreLike (if a then e ∷ (x ∷ xs) else x ∷ placed e xs) (if b then f ∷ (y ∷ ys) else y ∷ placed f ys)
      by true true is rest = (same, like)
      by false false is rest = (like.0, rest)
      by true false is rest = absurd (cc)
      by false true is rest = absurd (cc)

  like_all_placed : (ds es xs ys : List Entry) → AreLike ds es → AreLike xs ys → AreLike (all_placed ds xs) (all_placed es ys)
  like_all_placed ds es [] [] done like = done
  like_all_placed ds es [] (y ∷ ys) done like = absurd like
  like_all_placed ds es (x ∷ xs) [] done like = absurd like
  like_all_placed ds es (x ∷ xs) (y ∷ ys) done like = like_all_placed (placed x ds) (placed y es) xs ys (like_placed x y ds es like.0 done) like.1

  pub like_children : (xs ys : List Entry) (t : ℕ) → AreLike xs ys → AreLike (children xs t) (children ys t)
  like_children xs ys t like = like_all_placed [] [] (filter (is_under t) xs) (filter (is_under t) ys) tt (like_under t xs ys like)

  pub like_bounds : (xs ys : List Entry) → AreLike xs ys → map bound_of xs ≡ map bound_of ys
  like_bounds [] [] like = refl
  like_bounds [] (y ∷ ys) like = absurd like
  like_bounds (x ∷ xs) [] like = absurd like
  like_bounds (x ∷ xs) (y ∷ ys) like = ap (λ (b : Bound). b ∷ map bound_of xs) like.0.bound ∙ ap (λ (bs : List Bound). y.bound ∷ bs) (like_bounds xs ys like.1)

  like_kids : (f g : ℕ → TableTree) → ((c : ℕ) → f c ≡ g c) → (xs ys : List Entry) → AreLike xs ys → map (λ (e : Entry). f (child_of_entry e)) xs ≡ map (λ (e : Entry). g (child_of_entry e)) ys
  like_kids f g same [] [] like = refl
  like_kids f g same [] (y ∷ ys) like = absurd like
  like_kids f g same (x ∷ xs) [] like = absurd like
  like_kids f g same (x ∷ xs) (y ∷ ys) like =
      ap (λ (c : ℕ). f c ∷ map (λ (e : Entry). f (child_of_entry e)) xs) like.0.child
      ∙ ap (λ (t : TableTree). t ∷ map (λ (e : Entry). f (child_of_entry e)) xs) (same y.child.number)
      ∙ ap (λ (ts : List TableTree). g y.child.number ∷ ts) (like_kids f g same xs ys like.1)

  -- their trees are the same
  pub like_trees : (tables : List Table) (xs ys : List Entry) → AreLike xs ys → (n named t : ℕ) → tree_within n tables xs named t ≡ tree_within n tables ys named t
  like_trees tables xs ys like zero named t = refl
  like_trees tables xs ys like (suc n) named t =
      let kids = like_children xs ys t like in
      let f : ℕ → TableTree = λ c. tree_within n tables xs named c in
      let g : ℕ → TableTree = λ c. tree_within n tables ys named c in
      ap (λ (bs : List Bound). grown (table_at tables t).shape (node_at tables named t) bs (map (λ (e : Entry). f (child_of_entry e)) (children xs t))) (like_bounds (children xs t) (children ys t) kids)
      ∙ ap (λ (ts : List TableTree). grown (table_at tables t).shape (node_at tables named t) (map bound_of (children ys t)) ts) (like_kids f g (λ c. like_trees tables xs ys like n named c) (children xs t) (children ys t) kids)

  -- ---- which of them a table has above it, and its place among those below its parent

  abbrev pub IsFoundLike : Option Entry → Option Entry → Type 0
  IsFoundLike None None = Unit {0}
  IsFoundLike None (Some y) = ⊥
  IsFoundLike (Some x) None = ⊥
  IsFoundLike (Some x) (Some y) = IsLike x y

  pub like_found : (t : ℕ) (xs ys : List Entry) → AreLike xs ys → IsFoundLike (above xs t) (above ys t)
  like_found t [] [] like = tt
  like_found t [] (y ∷ ys) like = absurd like
  like_found t (x ∷ xs) [] like = absurd like
  like_found t (x ∷ xs) (y ∷ ys) like = by (is_over t x) (is_over t y) (ap (λ (n : ℕ). n == t) like.0.child) (like_found t xs ys like.1)
    where
      by : (a b : Bool) → a ≡ b → IsFoundLike (above xs t) (above ys t) → IsFoundLike (if a then Some x else above xs t) (if b then Some y else above ys t)
      by true true e rest = like.0
      by false false e rest = rest
      by true false e rest = absurd (cc)
      by false true e rest = absurd (cc)

  module _ (tested : (a b c d : ℕ) → Q a b → Q c d → (c == a) ≡ (d == b)) where
    like_position : (e f : Entry) (xs ys : List Entry) → IsLike e f → AreLike xs ys → position_or_len (is_entry e) xs ≡ position_or_len (is_entry f) ys
    like_position e f [] [] same like = refl
    like_position e f [] (y ∷ ys) same like = absurd like
    like_position e f (x ∷ xs) [] same like = absurd like
    like_position e f (x ∷ xs) (y ∷ ys) same like = by (is_entry e x) (is_entry f y) (tested e.id.number f.id.number x.id.number y.id.number same.number like.0.number) (like_position e f xs ys same like.1)
      where
        by : (a b : Bool) → a ≡ b → position_or_len (is_entry e) xs ≡ position_or_len (is_entry f) ys → (if not a then 1 + position_or_len (is_entry e) xs else 0) ≡ (if not b then 1 + position_or_len (is_entry f) ys else 0)
        by true true is rest = refl
        by false false is rest = ap (λ (k : ℕ). 1 + k) rest
        by true false is rest = absurd (cc)
        by false true is rest = absurd (cc)

    among_same : (shape : TableShape) (e f : Entry) (xs ys : List Entry) → IsLike e f → AreLike xs ys → place_among xs shape e ≡ place_among ys shape f
    among_same (Leaf leaf) e f xs ys same like = refl
    among_same (Level level) e f xs ys same like =
        ap (λ (bs : List Bound). Some (record { level = level; bounds = bs; child = position_or_len (is_entry e) xs })) (like_bounds xs ys like)
        ∙ ap (λ (k : ℕ). Some (record { level = level; bounds = map bound_of ys; child = k })) (like_position e f xs ys same like)

    pub like_place : (tables : List Table) (xs ys : List Entry) → AreLike xs ys → (o p : Option Entry) → IsFoundLike o p → place_of tables xs o ≡ place_of tables ys p
    like_place tables xs ys like None None same = refl
    like_place tables xs ys like None (Some f) same = absurd same
    like_place tables xs ys like (Some e) None same = absurd same
    like_place tables xs ys like (Some e) (Some f) same =
        among_same (table_at tables e.parent.number).shape e f (children xs e.parent.number) (children ys e.parent.number) same (like_children xs ys e.parent.number like)
        ∙ ap (λ (t : ℕ). place_among (children ys t) (table_at tables t).shape f) same.parent

  pub like_parent : (o p : Option Entry) → IsFoundLike o p → parent_in o ≡ parent_in p
  like_parent None None same = refl
  like_parent None (Some f) same = absurd same
  like_parent (Some e) None same = absurd same
  like_parent (Some e) (Some f) same = ap (λ (t : ℕ). Some t) same.parent

-- what is said of each table, and the table above it, make the path
pub same_upwards : (n : ℕ) (part other : ℕ → PathPart) (up down : ℕ → Option Entry) → ((t : ℕ) → part t ≡ other t) → ((t : ℕ) → parent_in (up t) ≡ parent_in (down t)) → (o : Option ℕ) → upwards n part up o ≡ upwards n other down o
same_upwards n part other up down parts ups None = refl
same_upwards zero part other up down parts ups (Some t) = refl
same_upwards (suc n) part other up down parts ups (Some t) =
    ap (λ (p : PathPart). p ∷ upwards n part up (parent_in (up t))) (parts t)
    ∙ (ap (λ (o : Option ℕ). other t ∷ upwards n part up o) (ups t) ∙ ap (λ (ps : List PathPart). other t ∷ ps) (same_upwards n part other up down parts ups (parent_in (down t))))

-- ---- one that is moved behind others

-- what is found first
abbrev found_or : Option Entry → Option Entry → Option Entry
found_or (Some x) o = Some x
found_or None o = o

find_both : (t : ℕ) (xs ys : List Entry) → above (xs ++ ys) t ≡ found_or (above xs t) (above ys t)
find_both t [] ys = refl
find_both t (x ∷ xs) ys = by (is_over t x) (find_both t xs ys)
  where
    by : (b : Bool) → above (xs ++ ys) t ≡ found_or (above xs t) (above ys t) → (if b then Some x else above (xs ++ ys) t) ≡ found_or (if b then Some x else above xs t) (above ys t)
    by true rest = refl
    by false rest = rest

none_over : (t : ℕ) (xs : List Entry) → All (λ (x : Entry). is_over t x ≡ false) xs → above xs t ≡ None
none_over t [] all = refl
none_over t (x ∷ xs) all =
    let here = All-head (λ (y : Entry). is_over t y ≡ false) x xs all in
    rw here (none_over t xs (All-tail (λ (y : Entry). is_over t y ≡ false) x xs all))

-- the two are found, whichever comes first
either_found : (t : ℕ) (e : Entry) (xs : List Entry) → All (λ (x : Entry). x.child.number ≢ e.child.number) xs → above (xs ++ (e ∷ [])) t ≡ above (e ∷ xs) t
either_found t e xs apart = elim (cases_Bool (is_over t e)) [
  | inl y ↦
      let here : e.child.number ≡ t = same_number e.child.number t y in
      let others : All (λ (x : Entry). is_over t x ≡ false) xs = λ k d lt. other_number (get_or xs k d).child.number t (λ same. apart k d lt (same ∙ sym here)) in
      let none = none_over t xs others in
      let last : above (e ∷ []) t ≡ Some e = rw y refl in
      let first : above (e ∷ xs) t ≡ Some e = rw y refl in
      find_both t xs (e ∷ []) ∙ (ap (λ (o : Option Entry). found_or o (above (e ∷ []) t)) none ∙ (last ∙ sym first))
  | inr f ↦
      let last : above (e ∷ []) t ≡ None = rw f refl in
      let first : above (e ∷ xs) t ≡ above xs t = rw f refl in
      find_both t xs (e ∷ []) ∙ (ap (λ (o : Option Entry). found_or (above xs t) o) last ∙ (or_none (above xs t) ∙ sym first))
]
  where
    or_none : (o : Option Entry) → found_or o None ≡ o
    or_none None = refl
    or_none (Some x) = refl

pub moved_found : (t : ℕ) (e : Entry) (before after rest : List Entry) → All (λ (x : Entry). x.child.number ≢ e.child.number) after
    → above (((before ++ after) ++ (e ∷ [])) ++ rest) t ≡ above (before ++ (e ∷ (after ++ rest))) t
moved_found t e before after rest apart =
    ap (λ (es : List Entry). above es t) (append_assoc (before ++ after) (e ∷ []) rest ∙ append_assoc before after (e ∷ rest))
    ∙ (find_both t before (after ++ (e ∷ rest))
    ∙ (ap (λ (o : Option Entry). found_or (above before t) o) behind ∙ sym (find_both t before (e ∷ (after ++ rest)))))
  where
    behind : above (after ++ (e ∷ rest)) t ≡ above (e ∷ (after ++ rest)) t
    behind =
        ap (λ (es : List Entry). above es t) (sym (append_assoc after (e ∷ []) rest))
        ∙ (find_both t (after ++ (e ∷ [])) rest
        ∙ (ap (λ (o : Option Entry). found_or o (above rest t)) (either_found t e after apart) ∙ sym (find_both t (e ∷ after) rest)))
