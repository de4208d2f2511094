-- The rows of VALUES are of the table's columns.
use Rattle.std.proofs.Common.{◌≡◌, ℕ, zero, suc, ◌+◌, ◌<◌, ◌==◌, Bool, true, false, if◌then◌else◌, List, [], ◌∷◌, refl, sym, subst, arith, Option, Result, Ok, Err, All, map, length, slice_index_or}
use Rattle.std.specs.List.{range_with_len}
use Rattle.std.proofs.lemmas.List.Elements.{All-nil, All-cons}
use Rattle.pg_values.specs.declared.value.Kind.{Kind}
use Rattle.pg_values.specs.declared.value.Value.{Value}
use Rattle.pg_values.specs.declared.value.Value.TheVariants.{Null, Int4, Int8, Text, Day, Truth}
use Rattle.pg_values.specs.declared.fault.Fault.{Fault}
use Rattle.pg_values.specs.declared.ids.TableNo.{TableNo}
use Rattle.bound_forms.specs.Levels.{IsOf}
use Rattle.history.specs.declared.catalogue.Column.{Column}
use Rattle.history.specs.Catalogue.{tables_made}
use Rattle.history.specs.History.{History, catalogue_events}
use Rattle.row_router.specs.Trees.{IsRowOf}
use Rattle.part_catalog.specs.Found.{made_at}
use Rattle.part_catalog.specs.Kept.{KeptCatalogue}
use Rattle.part_catalog.specs.Stands.{CatalogueStands}
use Rattle.sql_ast.specs.Expressions.{Trees}
use Rattle.expression_binder.specs.declared.scope.Param.{Param}
use Rattle.expression_binder.specs.declared.scope.ScopeColumn.{ScopeColumn}
use Rattle.cond_logic.specs.Asked.{InsertMeant}
use Rattle.binding_laws.specs.Fitting.{IsOf as IsOfKind}
use Rattle.sql_binder.specs.Inserts.{bound_insert, kind_at, kinds_of}
use Rattle.binding_laws.specs.FittingAsks.{RowFits, RowsFit, InsertsFit}
use Rattle.row_change.specs.FullRows.{value_for, full_row}
use Rattle.row_change.specs.Laws.{AreRowsOf}
use Rattle.stores.proofs.Goodness.{same_session}
use Rattle.insert_statement.specs.Inserted.{whole, whole_rows}
use Rattle.statement_steps.specs.Scopes.{scope_column}
use Rattle.statement_steps.proofs.Rights.{tables_kept}

of_kind : (v : Value) (k : Kind) → IsOfKind v k → IsOf k v
of_kind Null k is none = absurd (cc)
of_kind (Int4 n) k is none = sym is
of_kind (Int8 n) k is none = sym is
of_kind (Text s) k is none = sym is
of_kind (Day d) k is none = sym is
of_kind (Truth p) k is none = sym is

picked : (columns : List ScopeColumn) (n i : ℕ) (v w : Value) (b : Bool) → (n == i) ≡ b → IsOfKind v (kind_at columns n) → IsOfKind w (kind_at columns i) → IsOfKind (if b then v else w) (kind_at columns i)
picked columns n i v w true e first other = subst (λ m. IsOfKind v (kind_at columns m)) (same_session n i e) first
picked columns n i v w false e first other = other

value_fits : (columns : List ScopeColumn) (named : List ℕ) (vs : List Value) (i : ℕ) → RowFits (kinds_of columns named) vs → IsOfKind (value_for named vs i) (kind_at columns i)
value_fits columns [] vs i fits = tt
value_fits columns (n ∷ ns) [] i fits = absurd fits
value_fits columns (n ∷ ns) (v ∷ vs) i fits = picked columns n i v (value_for ns vs i) (n == i) refl fits.0 (value_fits columns ns vs i fits.1)

kind_is : (columns : List Column) (i : ℕ) (d : Column) → i < length columns → kind_at (map scope_column columns) i ≡ (slice_index_or columns i d).kind
kind_is [] i d lt = absurd (omega (arith, lt))
kind_is (c ∷ cs) zero d lt = refl
kind_is (c ∷ cs) (suc i) d lt = kind_is cs i d (omega (arith, lt))

row_of : (columns : List Column) (f : ℕ → Value) (n : ℕ) → ((i : ℕ) (d : Column) → i < length columns → IsOf (slice_index_or columns i d).kind (f (n + i))) → IsRowOf columns (map f (range_with_len n (length columns)))
row_of [] f n each = tt
row_of (c ∷ cs) f n each =
    let first : n + 0 ≡ n = omega arith in (
      subst (λ m. IsOf c.kind (f m)) first (each 0 c (omega arith)),
      row_of cs f (n + 1) (λ i d lt. let next : n + suc i ≡ (n + 1) + i = omega arith in subst (λ m. IsOf (slice_index_or cs i d).kind (f m)) next (each (suc i) d (omega (arith, lt)))),
    )

whole_row : (columns : List Column) (named : List ℕ) (vs : List Value) → RowFits (kinds_of (map scope_column columns) named) vs → IsRowOf columns (full_row (length columns) named vs)
whole_row columns named vs fits =
    row_of columns (value_for named vs) 0 (λ i d lt.
    let from_0 : i ≡ 0 + i = omega arith in
    let fit : IsOf (kind_at (map scope_column columns) i) (value_for named vs i) = of_kind (value_for named vs i) (kind_at (map scope_column columns) i) (value_fits (map scope_column columns) named vs i fits) in
    subst (λ n. IsOf (slice_index_or columns i d).kind (value_for named vs n)) from_0 (subst (λ k. IsOf k (value_for named vs i)) (kind_is columns i d lt) fit))

each_row : (columns : List Column) (named : List ℕ) (rows : List (List Value)) → RowsFit (kinds_of (map scope_column columns) named) rows → All (λ row. IsRowOf columns row) (map (full_row (length columns) named) rows)
each_row columns named [] fits = All-nil (λ row. IsRowOf columns row)
each_row columns named (r ∷ rs) fits = All-cons (λ row. IsRowOf columns row) (full_row (length columns) named r) (map (full_row (length columns) named) rs) (whole_row columns named r fits.0) (each_row columns named rs fits.1)

from_meant : (columns : List Column) (asked : Result InsertMeant Fault) (rows : List (List Value)) → ((m : InsertMeant) → asked ≡ Ok m → RowsFit (kinds_of (map scope_column columns) m.columns) m.rows)
    → whole (length columns) asked ≡ Ok rows → All (λ row. IsRowOf columns row) rows
from_meant columns (Ok m) rows fits is = subst (λ (rs : List (List Value)). All (λ row. IsRowOf columns row) rs) (let e : map (full_row (length columns) m.columns) m.rows ≡ rows = (let c = is in cc) in e) (each_row columns m.columns m.rows (fits m refl))
from_meant columns (Err f) rows fits is = absurd (let c = is in cc)

pub rows_are_whole : InsertsFit → (columns : List Column) (params : List Param) (s : ℕ) (names : Option (List (List ℕ))) (values : List Trees) (rows : List (List Value)) → whole_rows columns params s names values ≡ Ok rows → All (λ row. IsRowOf columns row) rows
rows_are_whole law columns params s names values rows is =
    from_meant columns (bound_insert (map scope_column columns) params s names values) rows (λ m asked. (law (map scope_column columns) params s names values m asked).1) is

-- so they are of the columns of the table that is kept
pub are_rows_of : InsertsFit → (catalog : KeptCatalogue) (t : TableNo) (columns : List Column) (params : List Param) (s : ℕ) (names : Option (List (List ℕ))) (values : List Trees) (rows : List (List Value)) → t.number < length catalog.tables
    → ((h : History) → CatalogueStands catalog h → columns ≡ (made_at h t.number).columns) → whole_rows columns params s names values ≡ Ok rows → AreRowsOf catalog t rows
are_rows_of law catalog t columns params s names values rows known are is h stands i d lt =
    let kept = tables_kept catalog h stands in
    let made : t.number < length (tables_made (catalogue_events h)) = omega (arith, kept, known) in
    (made, subst (λ cs. IsRowOf cs (slice_index_or rows i d)) (are h stands) (rows_are_whole law columns params s names values rows is i d lt))
