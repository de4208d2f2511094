-- The leaf of each table was added, and there are not too many tables.
use Rattle.std.proofs.Common.{◌≡◌, ◌≤◌, ◌<◌, ℕ, [], ◌∷◌, inl, inr, sym, ◌∙◌, ap, subst, arith, length}
use Rattle.std.proofs.lemmas.List.{length-append, length-map}
use Rattle.pg_values.specs.declared.ids.LeafId.{LeafId}
use Rattle.history.specs.declared.catalogue.TableShape.TheVariants.{Leaf}
use Rattle.history.specs.Rows.{LeafAdded, RowBorn, RowEnded}
use Rattle.history.specs.Catalogue.{tables_made, TableMade, TableDropped, EntryAdded, EntryEnded, EntryMarked, CheckKept}
use Rattle.history.specs.History.{History, TxChange, SnapshotChange, RowChange, CatalogueChange, LockChange, catalogue_events}
use Rattle.soundness.proofs.Made.{leaf_was}
use Rattle.part_catalog.specs.Kept.{table_in}
use Rattle.stores.specs.Good.{HasLeafOf, IsGood}
use Rattle.stores.specs.Laws.{LeavesAreHoused, TablesAreFew}

pub leaves_are_housed : LeavesAreHoused
leaves_are_housed [] x leaf good at = let none = at.0 in absurd (omega (arith, none))
leaves_are_housed (TxChange e ∷ h) x leaf good at = leaves_are_housed h x leaf good.1 at
leaves_are_housed (SnapshotChange e ∷ h) x leaf good at = leaves_are_housed h x leaf good.1 at
leaves_are_housed (LockChange e ∷ h) x leaf good at = leaves_are_housed h x leaf good.1 at
leaves_are_housed (RowChange (LeafAdded l) ∷ h) x leaf good at = let lt = leaves_are_housed h x leaf good.1 at in omega (arith, lt)
leaves_are_housed (RowChange (RowBorn v) ∷ h) x leaf good at = leaves_are_housed h x leaf good.1 at
leaves_are_housed (RowChange (RowEnded k e) ∷ h) x leaf good at = leaves_are_housed h x leaf good.1 at
leaves_are_housed (CatalogueChange (TableMade t) ∷ h) x leaf good at = elim (leaf_was t (catalogue_events h) x leaf at) [
  | inl its ↦ subst (λ s. HasLeafOf s h) its good.0.housed.leaf
  | inr old ↦ leaves_are_housed h x leaf good.1 old
]
leaves_are_housed (CatalogueChange (TableDropped k s) ∷ h) x leaf good at = leaves_are_housed h x leaf good.1 at
leaves_are_housed (CatalogueChange (EntryAdded e) ∷ h) x leaf good at = leaves_are_housed h x leaf good.1 at
leaves_are_housed (CatalogueChange (EntryEnded k s) ∷ h) x leaf good at = leaves_are_housed h x leaf good.1 at
leaves_are_housed (CatalogueChange (EntryMarked k s) ∷ h) x leaf good at = leaves_are_housed h x leaf good.1 at
leaves_are_housed (CatalogueChange (CheckKept c) ∷ h) x leaf good at = leaves_are_housed h x leaf good.1 at

few_made : (h : History) → IsGood h → length (tables_made (catalogue_events h)) ≤ 4096
few_made [] good = omega arith
few_made (TxChange e ∷ h) good = few_made h good.1
few_made (SnapshotChange e ∷ h) good = few_made h good.1
few_made (LockChange e ∷ h) good = few_made h good.1
few_made (RowChange e ∷ h) good = few_made h good.1
few_made (CatalogueChange (TableMade t) ∷ h) good =
    let next = good.0.legal.0 in
    let few = good.0.housed.few in
    let more = length-append (tables_made (catalogue_events h)) (t ∷ []) in
    omega (arith, next, few, more)
few_made (CatalogueChange (TableDropped k s) ∷ h) good = few_made h good.1
few_made (CatalogueChange (EntryAdded e) ∷ h) good = few_made h good.1
few_made (CatalogueChange (EntryEnded k s) ∷ h) good = few_made h good.1
few_made (CatalogueChange (EntryMarked k s) ∷ h) good = few_made h good.1
few_made (CatalogueChange (CheckKept c) ∷ h) good = few_made h good.1

pub tables_are_few : TablesAreFew
tables_are_few stores h stands =
    let few = few_made h stands.good in
    let same = sym (length-map stores.catalog.tables table_in) ∙ ap length stands.all.catalog.tables in
    omega (arith, few, same)
