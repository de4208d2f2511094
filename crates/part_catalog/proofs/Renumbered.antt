-- Entries under other numbers: what is grown from them is the same.
use Rattle.std.proofs.Common.{◌≡◌, ℕ, zero, suc, ◌+◌, arith, ap, refl, subst, ◌∙◌, true, false, List, [], ◌∷◌, Option, Some, None, filter, map, length, get_or, inl, inr}
use Rattle.std.specs.List.{All, position_or_len}
use Rattle.std.specs.Option.{option_map}
use Rattle.std.proofs.lemmas.Bool.{cases_Bool}
use Rattle.std.proofs.lemmas.List.{get_or-map, length-map}
use Rattle.std.proofs.lemmas.List.Elements.{All-head, All-tail}
use Rattle.bound_forms.specs.declared.partition_bound.Bound.{Bound}
use Rattle.bound_forms.specs.Bounds.{comes_after}
use Rattle.history.specs.declared.catalogue.Table.{Table}
use Rattle.history.specs.declared.catalogue.TableShape.{TableShape}
use Rattle.history.specs.declared.catalogue.TableShape.TheVariants.{Leaf, Level}
use Rattle.history.specs.declared.catalogue.Entry.{Entry}
use Rattle.history.specs.Places.{table_at}
use Rattle.row_router.specs.declared.path_part.Place.{Place}
use Rattle.row_router.specs.Trees.{TableTree}
use Rattle.row_router.specs.Histories.{placed, all_placed, is_under, children, bound_of, child_of_entry, node_at, grown, tree_within, is_over, above, is_entry, place_among, place_of, parent_in}
use Rattle.row_router.specs.Siblings.{CanStandTogether, AreSiblings}

-- an entry whose number is another
abbrev pub renumbered : (ℕ → ℕ) → Entry → Entry
renumbered g e = record { id = record { number = g e.id.number }; parent = e.parent; child = e.child; bound = e.bound; by = e.by; cmd = e.cmd }

maps_meet : {X Y : Type 0} (p : Y → X) (q : Entry → X) (f : Entry → Y) → ((e : Entry) → p (f e) ≡ q e) → (es : List Entry) → map p (map f es) ≡ map q es
maps_meet p q f same [] = refl
maps_meet p q f same (e ∷ es) = ap (λ x. x ∷ map p (map f es)) (same e) ∙ ap (λ xs. q e ∷ xs) (maps_meet p q f same es)

-- ---- children

placed_anew : (g : ℕ → ℕ) (e : Entry) (es : List Entry) → placed (renumbered g e) (map (renumbered g) es) ≡ map (renumbered g) (placed e es)
placed_anew g e [] = refl
placed_anew g e (x ∷ xs) = elim (cases_Bool (comes_after x.bound e.bound)) [
  | inl y ↦ rw y refl
  | inr n ↦ rw n (ap (λ es. renumbered g x ∷ es) (placed_anew g e xs))
]

all_placed_anew : (g : ℕ → ℕ) (done es : List Entry) → all_placed (map (renumbered g) done) (map (renumbered g) es) ≡ map (renumbered g) (all_placed done es)
all_placed_anew g done [] = refl
all_placed_anew g done (e ∷ es) = ap (λ d. all_placed d (map (renumbered g) es)) (placed_anew g e done) ∙ all_placed_anew g (placed e done) es

under_anew : (g : ℕ → ℕ) (t : ℕ) (es : List Entry) → filter (is_under t) (map (renumbered g) es) ≡ map (renumbered g) (filter (is_under t) es)
under_anew g t [] = refl
under_anew g t (e ∷ es) = elim (cases_Bool (is_under t e)) [
  | inl y ↦ rw y (ap (λ xs. renumbered g e ∷ xs) (under_anew g t es))
  | inr n ↦ rw n (under_anew g t es)
]

pub children_anew : (g : ℕ → ℕ) (es : List Entry) (t : ℕ) → children (map (renumbered g) es) t ≡ map (renumbered g) (children es t)
children_anew g es t = ap (all_placed []) (under_anew g t es) ∙ all_placed_anew g [] (filter (is_under t) es)

-- ---- trees

pub tree_anew : (g : ℕ → ℕ) (n : ℕ) (tables : List Table) (es : List Entry) (named t : ℕ) → tree_within n tables (map (renumbered g) es) named t ≡ tree_within n tables es named t
tree_anew g zero tables es named t = refl
tree_anew g (suc n) tables es named t =
    let kids = children es t in
    let are = children_anew g es t in
    let bounds : map bound_of (children (map (renumbered g) es) t) ≡ map bound_of kids = ap (map bound_of) are ∙ maps_meet bound_of bound_of (renumbered g) (λ e. refl) kids in
    let new : Entry → TableTree = λ e. tree_within n tables (map (renumbered g) es) named (child_of_entry e) in
    let old : Entry → TableTree = λ e. tree_within n tables es named (child_of_entry e) in
    let trees : map new (children (map (renumbered g) es) t) ≡ map old kids = ap (map new) are ∙ maps_meet new old (renumbered g) (λ e. tree_anew g n tables es named (child_of_entry e)) kids in
    ap (λ bs. grown (table_at tables t).shape (node_at tables named t) bs (map new (children (map (renumbered g) es) t))) bounds
    ∙ ap (λ ts. grown (table_at tables t).shape (node_at tables named t) (map bound_of kids) ts) trees

-- ---- the way upwards

pub above_anew : (g : ℕ → ℕ) (es : List Entry) (t : ℕ) → above (map (renumbered g) es) t ≡ option_map (renumbered g) (above es t)
above_anew g [] t = refl
above_anew g (e ∷ es) t = elim (cases_Bool (is_over t e)) [
  | inl y ↦ rw y refl
  | inr n ↦ rw n (above_anew g es t)
]

parent_same : (g : ℕ → ℕ) (o : Option Entry) → parent_in (option_map (renumbered g) o) ≡ parent_in o
parent_same g None = refl
parent_same g (Some e) = refl

pub parent_anew : (g : ℕ → ℕ) (es : List Entry) (t : ℕ) → parent_in (above (map (renumbered g) es) t) ≡ parent_in (above es t)
parent_anew g es t = ap parent_in (above_anew g es t) ∙ parent_same g (above es t)

-- ---- the place of an entry

-- the two are told from each other as before
abbrev pub IsToldApart : (ℕ → ℕ) → Entry → Entry → Type 0
IsToldApart g e x = is_entry (renumbered g e) (renumbered g x) ≡ is_entry e x

position_anew : (g : ℕ → ℕ) (e : Entry) (kids : List Entry) → All (IsToldApart g e) kids → position_or_len (is_entry (renumbered g e)) (map (renumbered g) kids) ≡ position_or_len (is_entry e) kids
position_anew g e [] apart = refl
position_anew g e (x ∷ xs) apart =
    let first : is_entry (renumbered g e) (renumbered g x) ≡ is_entry e x = All-head (IsToldApart g e) x xs apart in
    let rest = position_anew g e xs (All-tail (IsToldApart g e) x xs apart) in
    elim (cases_Bool (is_entry e x)) [
      | inl y ↦ let z : is_entry (renumbered g e) (renumbered g x) ≡ true = first ∙ y in rw (y, z) refl
      | inr n ↦ let z : is_entry (renumbered g e) (renumbered g x) ≡ false = first ∙ n in rw (n, z) (ap (λ i. 1 + i) rest)
    ]

among_anew : (g : ℕ → ℕ) (e : Entry) (shape : TableShape) (kids : List Entry) → All (IsToldApart g e) kids → place_among (map (renumbered g) kids) shape (renumbered g e) ≡ place_among kids shape e
among_anew g e (Leaf leaf) kids apart = refl
among_anew g e (Level level) kids apart =
    let make : List Bound → ℕ → Option Place = λ bounds child. Some (record { level = level; bounds = bounds; child = child }) in
    ap (λ bs. make bs (position_or_len (is_entry (renumbered g e)) (map (renumbered g) kids))) (maps_meet bound_of bound_of (renumbered g) (λ x. refl) kids)
    ∙ ap (make (map bound_of kids)) (position_anew g e kids apart)

pub place_anew : (g : ℕ → ℕ) (tables : List Table) (es : List Entry) (o : Option Entry) → ((e : Entry) → o ≡ Some e → All (IsToldApart g e) (children es e.parent.number)) → place_of tables (map (renumbered g) es) (option_map (renumbered g) o) ≡ place_of tables es o
place_anew g tables es None apart = refl
place_anew g tables es (Some e) apart =
    let shape = (table_at tables e.parent.number).shape in
    ap (λ kids. place_among kids shape (renumbered g e)) (children_anew g es e.parent.number) ∙ among_anew g e shape (children es e.parent.number) (apart e refl)

-- ---- siblings

pub siblings_before : (g : ℕ → ℕ) (es : List Entry) → AreSiblings (map (renumbered g) es) → AreSiblings es
siblings_before g es h i j d lt le =
    let new : Entry = renumbered g d in
    let long : length (map (renumbered g) es) ≡ length es = length-map es (renumbered g) in
    let first : get_or (map (renumbered g) es) i new ≡ renumbered g (get_or es i d) = get_or-map (renumbered g) es i d new (omega (arith, lt, le)) in
    let second : get_or (map (renumbered g) es) j new ≡ renumbered g (get_or es j d) = get_or-map (renumbered g) es j d new le in
    let pair : CanStandTogether (get_or (map (renumbered g) es) i new) (get_or (map (renumbered g) es) j new) = h i j new lt (omega (arith, le, long)) in
    subst (CanStandTogether (renumbered g (get_or es i d))) second (subst (λ e. CanStandTogether e (get_or (map (renumbered g) es) j new)) first pair)
