-- The table that has a leaf of a tree, and the fault that names it.
use Rattle.std.proofs.Common.{◌≡◌, List, [], ◌∷◌, refl, ap, sym, Option, Some, None, All, unwrap_or}
use Rattle.std.proofs.lemmas.List.Elements.{All-head, All-tail}
use Rattle.pg_values.specs.declared.ids.LeafId.{LeafId}
use Rattle.pg_values.specs.declared.ids.TableNo.{TableNo}
use Rattle.row_router.specs.Trees.{TableTree}
use Rattle.row_change.specs.Ways.{AllTables, root, way_to}
use Rattle.row_change.proofs.Ways.{all_root, all_to}
use Rattle.row_change.specs.Targets.{holder, last_table as last_or}

pub holder_some : (tree : TableTree) (leaf : LeafId) (way : List TableNo) → way_to leaf tree ≡ Some way → last_or (root tree) way ≡ holder tree leaf
holder_some tree leaf way is = ap (λ o. last_or (root tree) (unwrap_or o [])) (sym is)

pub holder_none : (tree : TableTree) (leaf : LeafId) → way_to leaf tree ≡ None → root tree ≡ holder tree leaf
holder_none tree leaf is = ap (λ o. last_or (root tree) (unwrap_or o [])) (sym is)

last_of_all : (P : TableNo → Type 0) (t : TableNo) (ts : List TableNo) → P t → All P ts → P (last_or t ts)
last_of_all P t [] here all = here
last_of_all P t (x ∷ xs) here all = last_of_all P x xs (All-head P x xs all) (All-tail P x xs all)

by_way : (P : TableNo → Type 0) (tree : TableTree) (leaf : LeafId) (o : Option (List TableNo)) → way_to leaf tree ≡ o → AllTables P tree → P (last_or (root tree) (unwrap_or o []))
by_way P tree leaf None is all = all_root P tree all
by_way P tree leaf (Some tables) is all = last_of_all P (root tree) tables (all_root P tree all) (all_to P leaf tree tables all is)

-- what holds of all tables holds of the one that has the leaf
pub holder_all : (P : TableNo → Type 0) (tree : TableTree) (leaf : LeafId) → AllTables P tree → P (holder tree leaf)
holder_all P tree leaf all = by_way P tree leaf (way_to leaf tree) refl all
