-- Which rows the bounds below a table, and its path, may be asked of.
use Rattle.std.proofs.Common.{◌≡◌, ℕ, ◌<◌, Bool, true, false, List, [], ◌∷◌, ◌++◌, refl, sym, ◌∙◌, subst, arith, Option, Some, None, All, map, length}
use Rattle.std.specs.List.{list_any, position}
use Rattle.std.proofs.lemmas.List.Folds.{list_any_none}
use Rattle.std.proofs.lemmas.List.Elements.{All-nil, All-cons, All-head, All-tail}
use Rattle.pg_values.specs.declared.value.Value.{Value}
use Rattle.pg_values.specs.declared.fault.Fault.{Fault}
use Rattle.pg_values.specs.declared.ids.TableNo.{TableNo}
use Rattle.refusals.specs.Refusals.{second_default}
use Rattle.bound_forms.specs.declared.level.Level.{Level as OneLevel}
use Rattle.bound_forms.specs.declared.partition_bound.Bound.{Bound}
use Rattle.bound_forms.specs.declared.partition_bound.Bound.TheVariants.{Range, List as Listed, Hash, Default}
use Rattle.bound_forms.specs.Accepts.{is_default, FitsBound, FitsSet}
use Rattle.bound_forms.specs.Bounds.{IsInPlainOrder}
use Rattle.bound_forms.specs.Levels.{IsOfLevel}
use Rattle.bound_forms.proofs.Choice.{position-None}
use Rattle.bound_forms.proofs.LevelLaws.{level_kind}
use Rattle.history.specs.declared.catalogue.Column.{Column}
use Rattle.history.specs.Catalogue.{tables_made}
use Rattle.history.specs.History.{History, catalogue_events}
use Rattle.history.specs.Places.{table_at, LiesIn, AreCatalogueSound}
use Rattle.history.specs.Presence.{entries_present}
use Rattle.row_router.specs.declared.node.Node.{Node}
use Rattle.row_router.specs.declared.tree.Shape.TheVariants.{Level as ShapeLevel}
use Rattle.row_router.specs.declared.tree.Tree.{Tree}
use Rattle.row_router.specs.declared.tree.TreeList.{TreeList}
use Rattle.row_router.specs.Histories.{ddl_tree, node_at, path_of}
use Rattle.row_router.specs.Seen.{seen, items_of}
use Rattle.row_router.specs.Siblings.{AreSiblings}
use Rattle.row_router.specs.Trees.{TableTree, LeafTable, LevelTable, End, More, trees_of, key_of, IsRowOf, IsSound, Fits}
use Rattle.row_router.proofs.RowsFit.{rows_fit}
use Rattle.row_router.proofs.Seen.{seen_level}
use Rattle.row_router.proofs.Sound.{ddl_tree_sound}
use Rattle.part_catalog.specs.Found.{made_at}
use Rattle.part_ddl.specs.Placing.{names_below, bounds_below, pending_name, fault_at, default_faults, bound_faults, place_faults}
use Rattle.row_router.specs.declared.path_part.PathPart.{PathPart}
use Rattle.row_router.specs.Paths.{PartFits}
use Rattle.row_change.specs.Laws.{PathsFit}
use Rattle.soundness.specs.Laws.{SessionsHaveSiblings}
use Rattle.stores.specs.Stand.{Stands}
use Rattle.stores.specs.declared.stores.Stores.{Stores}
use Rattle.stores.proofs.Goodness.{legal_of, permitted_of}
use Rattle.ddl_steps.specs.Fitting.{KeyFits, SiblingsFit}
use Rattle.ddl_steps.proofs.Leaves.{tables_kept}

-- ---- one bound

abbrev no_leaf : Node → TableTree
no_leaf node = LeafTable node (record { number = 0 })

pub key_fits : (columns : List Column) (level : OneLevel) (b : Bound) (row : List Value) → All (LiesIn columns) level.columns → IsOfLevel level b → IsRowOf columns row → KeyFits level b row
key_fits columns level b row lie of is =
    let node = node_at [] 0 0 in
    let order : IsInPlainOrder (b ∷ []) = record { sorted = λ i j d lt le. absurd (omega arith); apart = λ i j d lt le. absurd (omega arith); siblings = λ i j d lt le. absurd (omega arith) } in
    let sound : IsSound columns (LevelTable node level (b ∷ []) (More (no_leaf node) End)) = (refl, All-cons (IsOfLevel level) b [] of (All-nil (IsOfLevel level)), order, lie, (tt, tt)) in
    let fits : Fits row (LevelTable node level (b ∷ []) (More (no_leaf node) End)) = rows_fit columns row (LevelTable node level (b ∷ []) (More (no_leaf node) End)) sound is in
    record { columns = fits.1; bound = All-head (FitsBound (key_of level row)) b [] fits.2; kind = level_kind level b of }

-- ---- all bounds of a level

pub set_fits : (columns : List Column) (level : OneLevel) (bounds : List Bound) (row : List Value) → All (LiesIn columns) level.columns → All (IsOfLevel level) bounds → IsRowOf columns row → FitsSet bounds (key_of level row)
set_fits columns level [] row lie of is = All-nil (FitsBound (key_of level row))
set_fits columns level (b ∷ bs) row lie of is =
    All-cons (FitsBound (key_of level row)) b bs (key_fits columns level b row lie (All-head (IsOfLevel level) b bs of) is).bound (set_fits columns level bs row lie (All-tail (IsOfLevel level) b bs of) is)

-- ---- a default stands beside no other one

both_empty : (xs ys : List Fault) → xs ++ ys ≡ [] → xs ≡ []
both_empty [] ys e = refl
both_empty (x ∷ xs) ys e = absurd (let c = e in cc)

found_none : (f : List ℕ → Fault) (names : List (List ℕ)) (o : Option ℕ) → fault_at f names o ≡ [] → o ≡ None
found_none f names None e = refl
found_none f names (Some i) e = absurd (let c = e in cc)

none_is : (p : Bound → Bool) (xs : List Bound) → position p xs ≡ None → list_any p xs ≡ false
none_is p xs e = list_any_none p xs (position-None p xs e)

pub no_default_beside : (h : History) (s p : ℕ) (b : Bound) (height : ℕ) → place_faults h s p b height ≡ [] → is_default b ≡ true → list_any is_default (bounds_below h s p) ≡ false
no_default_beside h s p (Range l u) height none is = absurd (let c = is in cc)
no_default_beside h s p (Listed vs) height none is = absurd (let c = is in cc)
no_default_beside h s p (Hash m r) height none is = absurd (let c = is in cc)
no_default_beside h s p Default height none is =
    let names = names_below h s p in
    let bounds = bounds_below h s p in
    let name = (made_at h p).name in
    let first = both_empty (bound_faults name (pending_name h s p) names bounds Default) _ none in
    let second = both_empty (default_faults name (pending_name h s p) names bounds Default) _ first in
    let third = both_empty (fault_at (second_default name) names (position is_default bounds)) _ second in
    none_is is_default bounds (found_none (second_default name) names (position is_default bounds) third)

-- ---- what the tree of a table says of its level

pub record IsLevelOf (h : History) (p : ℕ) (level : OneLevel) (bounds : List Bound) : Type 0 where
  pub bounds_of : All (IsOfLevel level) bounds
  pub keys : All (LiesIn (made_at h p).columns) level.columns

pub level_of_tree : (h : History) (s p : ℕ) (t : Tree) (level : OneLevel) (bounds : List Bound) (kids : TreeList) → AreCatalogueSound h → AreSiblings (entries_present h s) → t.shape ≡ ShapeLevel level bounds kids → seen t ≡ ddl_tree h s p → IsLevelOf h p level bounds
level_of_tree h s p t level bounds kids sound siblings is tree =
    let columns = (table_at (tables_made (catalogue_events h)) p).columns in
    let whole : IsSound columns (LevelTable t.node level bounds (trees_of (map seen (items_of kids)))) = subst (IsSound columns) (sym tree ∙ seen_level t level bounds kids is) (ddl_tree_sound h s p sound siblings) in
    record { bounds_of = whole.1; keys = whole.3 }

-- ---- what the tests may be asked of

path_fits : PathsFit → SessionsHaveSiblings → (stores : Stores) (h : History) (s : ℕ) (p : TableNo) (row : List Value) → Stands stores h → p.number < length stores.catalog.tables → IsRowOf (made_at h p.number).columns row → All (PartFits row) (path_of h s p.number)
path_fits fit together stores h s p row stands low is =
    let count = tables_kept stores h stands in
    let made : p.number < length (tables_made (catalogue_events h)) = omega (arith, count, low) in
    fit h s p row stands.all.catalog.sound (together h s (legal_of h stands.good) (permitted_of h stands.good)) (made, is)

pub place_fits : PathsFit → SessionsHaveSiblings → (stores : Stores) (h : History) (s : ℕ) (p : TableNo) (level : OneLevel) (bounds : List Bound) (path : List PathPart) (b : Bound) → Stands stores h → p.number < length stores.catalog.tables → bounds ≡ bounds_below h s p.number → path ≡ path_of h s p.number
    → All (LiesIn (made_at h p.number).columns) level.columns → IsOfLevel level b → All (IsOfLevel level) bounds → (height : ℕ) → place_faults h s p.number b height ≡ [] → (row : List Value) → IsRowOf (made_at h p.number).columns row
    → KeyFits level b row × SiblingsFit level bounds b row × All (PartFits row) path
place_fits fit together stores h s p level bounds path b stands low siblings above lie of all height none row is = (
  key_fits (made_at h p.number).columns level b row lie of is,
  record {
    set = set_fits (made_at h p.number).columns level bounds row lie all is;
    apart = λ e. subst (λ (bs : List Bound). list_any is_default bs ≡ false) (sym siblings) (no_default_beside h s p.number b height none e);
  },
  subst (λ (ps : List PathPart). All (PartFits row) ps) (sym above) (path_fits fit together stores h s p row stands low is),
)
