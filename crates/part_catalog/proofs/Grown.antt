-- A table that has grown over the entries below it.
use Rattle.std.proofs.Common.{◌≡◌, ℕ, ◌+◌, ◌-◌, ◌<◌, ◌≤◌, zero, suc, arith, ap, refl, sym, subst, ◌∙◌, Bool, true, false, List, [], ◌∷◌, ◌++◌, length, drop, drop-cons, add-one, append-nil, map, filter, get_or}
use Rattle.std.specs.List.{All}
use Rattle.std.proofs.lemmas.Grind.{common_steps, elements}
use Rattle.std.proofs.lemmas.List.{get_or-map, length-map}
use Rattle.pg_values.specs.KeyKinds.{IsNotNull}
use Rattle.bound_forms.specs.declared.partition_bound.Bound.{Bound}
use Rattle.bound_forms.specs.declared.level.Level.{Level}
use Rattle.bound_forms.specs.Bounds.{BoundOfKind, IsInPlainOrder}
use Rattle.history.specs.declared.catalogue.TableShape.TheVariants.{Leaf as LeafShape, Level as LevelShape}
use Rattle.history.specs.declared.catalogue.Table.{Table}
use Rattle.history.specs.declared.catalogue.Entry.{Entry}
use Rattle.history.specs.Places.{table_at, no_table}
use Rattle.pg_values.specs.declared.ids.LeafId.{LeafId}
use Rattle.row_router.specs.declared.node.Node.{Node}
use Rattle.row_router.specs.Trees.{TableTree, LeafTable, LevelTable, trees_of}
use Rattle.row_router.specs.Histories.{tree_within, node_at, children, bound_of, child_of_entry, grown}
use Rattle.row_router.specs.Siblings.{AreSiblings}
use Rattle.row_router.proofs.Order.{children_of_part, siblings_in_order, all_children, all_kept}
use Rattle.part_catalog.specs.declared.stored.StoredTable.{StoredTable}
use Rattle.part_catalog.specs.declared.stored.StoredEntry.{StoredEntry}
use Rattle.part_catalog.specs.Kept.{table_in, number_of, no_entry, with_place, by_place}
use Rattle.part_catalog.specs.Groves.{IsGrove, IsLevel}
use Rattle.part_catalog.proofs.Places.{all_by_place}

-- ---- the entry that stands at a place below a table

-- an entry stands at its place
abbrev pub IsOwn : List StoredEntry → Entry → Type 0
IsOwn entries e = (e.id.number < length entries) × (with_place e.id.number (get_or entries e.id.number no_entry).entry ≡ e)

pub all_own : (entries : List StoredEntry) → All (IsOwn entries) (by_place entries)
all_own entries = all_by_place (IsOwn entries) entries (λ k lt. (lt, refl))

pub record Kid (entries : List StoredEntry) (kids : List Entry) (i n : ℕ) (x : StoredEntry) : Type 0 where
  pub known : n < length entries
  pub there : drop i kids ≡ with_place n x.entry ∷ drop (i + 1) kids

drop_at : {X : Type 0} (xs : List X) (i : ℕ) (d : X) → i < length xs → drop i xs ≡ get_or xs i d ∷ drop (i + 1) xs
drop_at xs i d lt = let next : i + 1 ≡ suc i = add-one i in rw next (drop-cons xs i d lt)

pub kid_at : (entries : List StoredEntry) (numbers : List ℕ) (t i : ℕ) → numbers ≡ map number_of (children (by_place entries) t) → i < length numbers
    → Kid entries (children (by_place entries) t) i (get_or numbers i 0) (get_or entries (get_or numbers i 0) no_entry)
kid_at entries numbers t i are lt =
    let kids = children (by_place entries) t in
    let n = get_or numbers i 0 in
    let within : i < length kids = omega (arith, lt, ap length are, length-map kids number_of) in
    let kid : Entry = get_or kids i no_entry.entry in
    let is : n ≡ kid.id.number = ap (λ ns. get_or ns i 0) are ∙ get_or-map number_of kids i no_entry.entry 0 within in
    let own : IsOwn entries kid = all_children (IsOwn entries) (by_place entries) t (all_own entries) i no_entry.entry within in
    let known : n < length entries = omega (arith, own.0, is) in
    let same : with_place n (get_or entries n no_entry).entry ≡ kid = ap (λ k. with_place k (get_or entries k no_entry).entry) is ∙ own.1 in
    record {
      known = known;
      there = drop_at kids i no_entry.entry within ∙ ap (λ e. e ∷ drop (i + 1) kids) (sym same);
    }

-- ---- what a loop over the numbers keeps

pub skip_step : {X : Type 0} (p : Entry → Bool) (f : Entry → X) (done : List X) (kids : List Entry) (i : ℕ) (e : Entry) (all : List X) → drop i kids ≡ e ∷ drop (i + 1) kids → p e ≡ false → done ++ map f (filter p (drop i kids)) ≡ all → done ++ map f (filter p (drop (i + 1) kids)) ≡ all
skip_step p f done kids i e all there flag h =
    let here : filter p (drop i kids) ≡ filter p (drop (i + 1) kids) = ap (filter p) there ∙ rw flag refl in
    ap (λ es. done ++ map f es) (sym here) ∙ h

pub take_step : {X : Type 0} (p : Entry → Bool) (f : Entry → X) (done more : List X) (kids : List Entry) (i : ℕ) (e : Entry) (all : List X) → drop i kids ≡ e ∷ drop (i + 1) kids → p e ≡ true → more ≡ done ++ f e ∷ [] → done ++ map f (filter p (drop i kids)) ≡ all → more ++ map f (filter p (drop (i + 1) kids)) ≡ all
take_step p f done more kids i e all there flag put h =
    let here : filter p (drop i kids) ≡ e ∷ filter p (drop (i + 1) kids) = ap (filter p) there ∙ rw flag refl in
    ap (λ l. l ++ map f (filter p (drop (i + 1) kids))) put ∙ grind (arith, common_steps) ∙ ap (λ es. done ++ map f es) (sym here) ∙ h

pub past_end : {A : Type 0} (i : ℕ) (xs : List A) → length xs ≤ i → drop i xs ≡ []
past_end i [] h = grind (arith, common_steps)
past_end zero (x ∷ xs) h = absurd (omega arith)
past_end (suc i) (x ∷ xs) h = past_end i xs (omega arith)

pub all_done : {X : Type 0} (p : Entry → Bool) (f : Entry → X) (done : List X) (kids : List Entry) (i : ℕ) (all : List X) → length kids ≤ i → done ++ map f (filter p (drop i kids)) ≡ all → done ≡ all
all_done p f done kids i all over h = sym (append-nil done) ∙ ap (λ es. done ++ map f (filter p es)) (sym (past_end i kids over)) ∙ h

-- ---- the level that is made

grown_over : (depth : ℕ) (tables : List Table) (part : List Entry) (named t : ℕ) (level : Level) (bounds : List Bound) (below : List TableTree) → 0 < depth → (table_at tables t).shape ≡ LevelShape level → bounds ≡ map bound_of (children part t) → below ≡ map (λ (e : Entry). tree_within (depth - 1) tables part named (child_of_entry e)) (children part t)
    → LevelTable (node_at tables named t) level bounds (trees_of below) ≡ tree_within depth tables part named t
grown_over zero tables part named t level bounds below lt shape b k = absurd (omega arith)
grown_over (suc n) tables part named t level bounds below lt shape b k =
    let less : suc n - 1 ≡ n = omega arith in
    let there : below ≡ map (λ (e : Entry). tree_within n tables part named (child_of_entry e)) (children part t) = k ∙ ap (λ d. map (λ (e : Entry). tree_within d tables part named (child_of_entry e)) (children part t)) less in
    ap (λ bs. LevelTable (node_at tables named t) level bs (trees_of below)) b
    ∙ ap (λ ks. LevelTable (node_at tables named t) level (map bound_of (children part t)) (trees_of ks)) there
    ∙ ap (λ s. grown s (node_at tables named t) (map bound_of (children part t)) (map (λ (e : Entry). tree_within n tables part named (child_of_entry e)) (children part t))) (sym shape)

pub grown_level : (depth : ℕ) (tables : List Table) (entries : List Entry) (p : Entry → Bool) (named t : ℕ) (level : Level) (bounds : List Bound) (below : List TableTree) → 0 < depth → (table_at tables t).shape ≡ LevelShape level → bounds ≡ map bound_of (filter p (children entries t)) → below ≡ map (λ (e : Entry). tree_within (depth - 1) tables (filter p entries) named (child_of_entry e)) (filter p (children entries t))
    → LevelTable (node_at tables named t) level bounds (trees_of below) ≡ tree_within depth tables (filter p entries) named t
grown_level depth tables entries p named t level bounds below lt shape b k =
    let part = children_of_part p entries t in
    grown_over depth tables (filter p entries) named t level bounds below lt shape (b ∙ ap (map bound_of) part) (k ∙ ap (map (λ (e : Entry). tree_within (depth - 1) tables (filter p entries) named (child_of_entry e))) part)

pub grown_bare : (depth : ℕ) (tables : List Table) (part : List Entry) (named t : ℕ) (level : Level) → depth ≡ 0 → (table_at tables t).shape ≡ LevelShape level → LevelTable (node_at tables named t) level [] (trees_of []) ≡ tree_within depth tables part named t
grown_bare depth tables part named t level none shape =
    ap (λ s. grown s (node_at tables named t) [] []) (sym shape) ∙ ap (λ d. tree_within d tables part named t) (sym none)

-- ---- the bounds of its set

pub shown_in_order : (entries : List Entry) (p : Entry → Bool) (t : ℕ) (bounds : List Bound) → AreSiblings (filter p entries) → bounds ≡ map bound_of (filter p (children entries t)) → IsInPlainOrder bounds
shown_in_order entries p t bounds siblings are =
    subst IsInPlainOrder (sym (are ∙ ap (map bound_of) (children_of_part p entries t))) (siblings_in_order (filter p entries) t siblings)

abbrev HasKind : Entry → Type 0
HasKind e = BoundOfKind IsNotNull e.bound

all_kinds : (entries : List StoredEntry) → ((k : ℕ) → k < length entries → BoundOfKind IsNotNull (get_or entries k no_entry).entry.bound) → All HasKind (by_place entries)
all_kinds entries kinds = all_by_place HasKind entries kinds

mapped_all : (P : Bound → Type 0) (es : List Entry) → All (λ e. P e.bound) es → All P (map bound_of es)
mapped_all P es h k d lt =
    let within : k < length es = omega (arith, lt, length-map es bound_of) in
    subst P (sym (get_or-map bound_of es k no_entry.entry d within)) (h k no_entry.entry within)

pub shown_kinds : (entries : List StoredEntry) (p : Entry → Bool) (t : ℕ) (bounds : List Bound) → ((k : ℕ) → k < length entries → BoundOfKind IsNotNull (get_or entries k no_entry).entry.bound) → bounds ≡ map bound_of (filter p (children (by_place entries) t)) → All (BoundOfKind IsNotNull) bounds
shown_kinds entries p t bounds kinds are =
    subst (All (BoundOfKind IsNotNull)) (sym are) (mapped_all (BoundOfKind IsNotNull) (filter p (children (by_place entries) t)) (all_kept HasKind p (children (by_place entries) t) (all_children HasKind (by_place entries) t (all_kinds entries kinds))))

pub none_in_order : (bounds : List Bound) → bounds ≡ [] → IsInPlainOrder bounds
none_in_order bounds none = subst IsInPlainOrder (sym none) (siblings_in_order [] 0 (λ i j d lt le. absurd (omega arith)))

-- ---- as the code finds them

pub level_of : (tables : List StoredTable) (entries : List StoredEntry) (numbers : List (List ℕ)) (flags : List Bool) (t : ℕ) (l d : List ℕ) → IsGrove tables entries numbers flags → t < length tables → l ≡ get_or numbers t d → IsLevel entries l flags t
level_of tables entries numbers flags t l d g lt is =
    let within : t < length numbers = omega (arith, lt, g.listed.count) in
    let same : get_or numbers t d ≡ get_or numbers t [] = grind (arith, common_steps, elements, within) in
    record { below = is ∙ same ∙ g.listed.below t lt; flagged = g.flagged; siblings = g.siblings; kinds = g.kinds }

pub table_is : (tables : List StoredTable) (t : ℕ) (x : StoredTable) → t < length tables → x ≡ get_or tables t x → table_at (map table_in tables) t ≡ x.table
table_is tables t x lt is =
    get_or-map table_in tables t x no_table lt ∙ ap (λ (y : StoredTable). y.table) (sym is)

pub grown_leaf : (depth : ℕ) (tables : List Table) (part : List Entry) (named t : ℕ) (leaf : LeafId) → (table_at tables t).shape ≡ LeafShape leaf → LeafTable (node_at tables named t) leaf ≡ tree_within depth tables part named t
grown_leaf zero tables part named t leaf shape = ap (λ s. grown s (node_at tables named t) [] []) (sym shape)
grown_leaf (suc n) tables part named t leaf shape = ap (λ s. grown s (node_at tables named t) (map bound_of (children part t)) (map (λ (e : Entry). tree_within n tables part named (child_of_entry e)) (children part t))) (sym shape)

pub level_made : (n n2 : Node) (l l2 : Level) (b b2 : List Bound) (k k2 : List TableTree) → n ≡ n2 → l ≡ l2 → b ≡ b2 → k ≡ k2 → LevelTable n l b (trees_of k) ≡ LevelTable n2 l2 b2 (trees_of k2)
level_made n n2 l l2 b b2 k k2 p q r s = ap (λ x. LevelTable x l b (trees_of k)) p ∙ ap (λ x. LevelTable n2 x b (trees_of k)) q ∙ ap (λ x. LevelTable n2 l2 x (trees_of k)) r ∙ ap (λ x. LevelTable n2 l2 b2 (trees_of x)) s
