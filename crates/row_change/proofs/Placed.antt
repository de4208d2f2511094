-- Leaves of rows, one after the other.
use Rattle.std.proofs.Common.{◌≡◌, ℕ, ◌+◌, ◌<◌, suc, List, [], ◌∷◌, ◌++◌, Result, Ok, Err, map, drop, length, get_or, drop-cons, add-one, refl, sym, ap, subst, ◌∙◌, append_assoc, append-nil}
use Rattle.pg_values.specs.declared.value.Value.{Value}
use Rattle.pg_values.specs.declared.fault.Fault.{Fault}
use Rattle.pg_values.specs.declared.ids.LeafId.{LeafId}
use Rattle.pg_values.specs.Refusals.{faults_in, read_in, or_first}
use Rattle.history.specs.declared.catalogue.Table.{Table}
use Rattle.row_router.specs.declared.path_part.PathPart.{PathPart}
use Rattle.row_router.specs.declared.tree.NoPartition.{NoPartition}
use Rattle.row_router.specs.Trees.{TableTree, routed}
use Rattle.row_change.specs.Placing.{placed, first_or, way_told, bounds_faults}

-- of all rows, those that are left decide, and these are the leaves of the others
pub record ArePlaced (place : List Value → Result LeafId Fault) (rows left : List (List Value)) (leaves : List LeafId) : Type 0 where
  pub faults : faults_in (map place left) ≡ faults_in (map place rows)
  pub found : leaves ++ read_in (map place left) ≡ read_in (map place rows)

pub none_placed : (place : List Value → Result LeafId Fault) (rows : List (List Value)) → ArePlaced place rows rows []
none_placed place rows = record { faults = refl; found = refl }

-- the first row that is left has a leaf
first_placed : (place : List Value → Result LeafId Fault) (rows left : List (List Value)) (row : List Value) (leaves : List LeafId) (leaf : LeafId) (answer : Result LeafId Fault) → place row ≡ answer → answer ≡ Ok leaf → ArePlaced place rows (row ∷ left) leaves → ArePlaced place rows left (leaves ++ leaf ∷ [])
first_placed place rows left row leaves leaf answer is ok a =
    let at : place row ≡ Ok leaf = is ∙ ok in
    let faults : faults_in (place row ∷ map place left) ≡ faults_in (map place left) = ap (λ r. faults_in (r ∷ map place left)) at in
    let read : read_in (place row ∷ map place left) ≡ leaf ∷ read_in (map place left) = ap (λ r. read_in (r ∷ map place left)) at in
    record {
      faults = sym faults ∙ a.faults;
      found = append_assoc leaves (leaf ∷ []) (read_in (map place left)) ∙ (ap (λ ls. leaves ++ ls) (sym read) ∙ a.found);
    }

pub next_placed : (place : List Value → Result LeafId Fault) (rows : List (List Value)) (i : ℕ) (row : List Value) (leaves : List LeafId) (leaf : LeafId) → i < length rows → row ≡ get_or rows i row → place row ≡ Ok leaf → ArePlaced place rows (drop i rows) leaves → ArePlaced place rows (drop (i + 1) rows) (leaves ++ leaf ∷ [])
next_placed place rows i row leaves leaf within is ok a =
    let cut : drop i rows ≡ row ∷ drop (i + 1) rows = drop-cons rows i row within ∙ (ap (λ r. r ∷ drop (suc i) rows) (sym is) ∙ ap (λ n. row ∷ drop n rows) (sym (add-one i))) in
    first_placed place rows (drop (i + 1) rows) row leaves leaf (Ok leaf) ok refl (subst (λ rs. ArePlaced place rows rs leaves) cut a)

-- where the first row that is left is refused, all are
pub refused_here : (place : List Value → Result LeafId Fault) (rows : List (List Value)) (i : ℕ) (row : List Value) (leaves : List LeafId) (f : Fault) → i < length rows → row ≡ get_or rows i row → place row ≡ Err f → ArePlaced place rows (drop i rows) leaves → or_first (faults_in (map place rows)) (read_in (map place rows)) ≡ Err f
refused_here place rows i row leaves f within is err a =
    let cut : drop i rows ≡ row ∷ drop (suc i) rows = drop-cons rows i row within ∙ ap (λ r. r ∷ drop (suc i) rows) (sym is) in
    let first : faults_in (map place rows) ≡ f ∷ faults_in (map place (drop (suc i) rows)) =
    sym a.faults ∙ (ap (λ rs. faults_in (map place rs)) cut ∙ ap (λ r. faults_in (r ∷ map place (drop (suc i) rows))) err) in
    ap (λ fs. or_first fs (read_in (map place rows))) first

-- where none is left, all have leaves
pub all_have : (place : List Value → Result LeafId Fault) (rows : List (List Value)) (leaves : List LeafId) → ArePlaced place rows [] leaves → or_first (faults_in (map place rows)) (read_in (map place rows)) ≡ Ok leaves
all_have place rows leaves a =
    ap (λ fs. or_first fs (read_in (map place rows))) (sym a.faults) ∙ ap Ok (sym a.found ∙ append-nil leaves)

-- ---- what placing one row tells

-- what placing one row tells
pub record IsPlaced (tables : List Table) (tree : TableTree) (path : List PathPart) (leaf : LeafId) (row : List Value) : Type 0 where
  pub bounds : bounds_faults tables path row ≡ []
  pub routed : routed row tree ≡ Ok leaf

told_placed : (tables : List Table) (tree : TableTree) (path : List PathPart) (row : List Value) (leaf : LeafId) (faults : List Fault) (way : Result LeafId NoPartition) → first_or faults (way_told tables row way) ≡ Ok leaf → (faults ≡ []) × (way ≡ Ok leaf)
told_placed tables tree path row leaf [] (Ok own) e = (refl, let c = e in cc)
told_placed tables tree path row leaf [] (Err lost) e = absurd (let c = e in cc)
told_placed tables tree path row leaf (f ∷ fs) way e = absurd (let c = e in cc)

pub is_placed : (tables : List Table) (tree : TableTree) (path : List PathPart) (row : List Value) (leaf : LeafId) → placed tables tree path row ≡ Ok leaf → IsPlaced tables tree path leaf row
is_placed tables tree path row leaf e =
    let parts = told_placed tables tree path row leaf (bounds_faults tables path row) (routed row tree) e in
    record { bounds = parts.0; routed = parts.1 }
