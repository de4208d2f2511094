-- A row of the columns may be asked of each tree whose keys lie in them.
use Rattle.std.proofs.Common.{◌≡◌, ℕ, zero, suc, ◌<◌, arith, ap, refl, sym, subst, ◌∙◌, List, [], ◌∷◌, Option, Some, None, map, length, get_or, slice_index_or}
use Rattle.std.specs.List.{All, AllZip, slice_get}
use Rattle.pg_values.specs.declared.value.Kind.{Kind}
use Rattle.pg_values.specs.declared.value.Value.{Value}
use Rattle.pg_values.specs.declared.value.Value.TheVariants.{Null}
use Rattle.bound_forms.specs.declared.level.KeyColumn.{KeyColumn}
use Rattle.bound_forms.specs.Levels.{IsOf}
use Rattle.bound_forms.proofs.LevelKeys.{level_keys_sets, row_keys}
use Rattle.history.specs.declared.catalogue.Column.{Column}
use Rattle.history.specs.Places.{LiesIn}
use Rattle.row_router.specs.Laws.{RowsFit}
use Rattle.row_router.specs.Trees.{TableTree, LeafTable, LevelTable, Trees, End, More, key_of, IsSound, AreSound, IsRowOf, Fits, AllFit}

-- the value of a row at the place of a column of that kind
record HasAt (row : List Value) (i : ℕ) (kind : Kind) : Type 0 where
  within : i < length row
  of_kind : IsOf kind (slice_index_or row i Null)

has_at : (columns : List Column) (row : List Value) (i : ℕ) (kind : Kind) → IsRowOf columns row → slice_get (map (λ c. c.kind) columns) i ≡ Some kind → HasAt row i kind
has_at [] [] i kind r is = absurd (cc)
has_at [] (v ∷ row) i kind r is = absurd r
has_at (c ∷ columns) [] i kind r is = absurd r
has_at (c ∷ columns) (v ∷ row) zero kind r is =
    let same : c.kind ≡ kind = cc in
    record { within = omega arith; of_kind = subst (λ k. IsOf k v) same r.0 }
has_at (c ∷ columns) (v ∷ row) (suc i) kind r is =
    let h = has_at columns row i kind r.1 is in
    record { within = omega (arith, h.within); of_kind = h.of_kind }

mutual
  fits : (columns : List Column) (row : List Value) (t : TableTree) → IsSound columns t → IsRowOf columns row → Fits row t
  fits columns row (LeafTable node leaf) s r = tt
  fits columns row (LevelTable node level bounds kids) s r =
      let at : (i : ℕ) (d : KeyColumn) → i < length level.columns → HasAt row (get_or level.columns i d).position (get_or level.columns i d).kind = λ i d lt. has_at columns row (get_or level.columns i d).position (get_or level.columns i d).kind r (s.3 i d lt) in
      (s.0, λ i d lt. (at i d lt).within, level_keys_sets level bounds (key_of level row) s.1 (row_keys level row (λ i d lt. (at i d lt).of_kind)), all_fit columns row kids s.4 r)

  all_fit : (columns : List Column) (row : List Value) (ks : Trees) → AreSound columns ks → IsRowOf columns row → AllFit row ks
  all_fit columns row End s r = tt
  all_fit columns row (More k ks) s r = (fits columns row k s.0 r, all_fit columns row ks s.1 r)

pub rows_fit : RowsFit
rows_fit columns row t sound r = fits columns row t sound r
