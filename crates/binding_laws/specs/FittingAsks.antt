-- What statements ask for fits their tables.
use Rattle.std.specs.Prelude.{◌≡◌, ◌≢◌, ◌<◌, ℕ, nat_le, true, List, [], ◌∷◌, Option, Some, None, Ok, length, map}
use Rattle.pg_values.specs.declared.value.Kind.{Kind}
use Rattle.pg_values.specs.declared.value.Value.{Value}
use Rattle.sql_ast.specs.Expressions.{Tree, Trees}
use Rattle.sql_ast.specs.Queries.{SelectTree, Setting}
use Rattle.cond_logic.specs.Trees.{CondTree, listed}
use Rattle.cond_logic.specs.declared.select.SortBy.{SortBy}
use Rattle.cond_logic.specs.declared.select.SortBy.TheVariants as by
use Rattle.cond_logic.specs.declared.select.SortKey.{SortKey}
use Rattle.expression_binder.specs.Kinds.{are_alike}
use Rattle.expression_binder.specs.Scopes.{Item}
use Rattle.expression_binder.specs.declared.scope.Param.{Param}
use Rattle.expression_binder.specs.declared.scope.ScopeColumn.{ScopeColumn}
use Rattle.binding_laws.specs.Fitting.{IsOf, Lies, IsNumbered, ArgumentsFit, Fits, AllFit, HasKind}
use Rattle.cond_logic.specs.Asked.{OutputTree, SelectMeant, InsertMeant, SettingMeant, ChangeMeant}
use Rattle.sql_binder.specs.Selects.{bound_select}
use Rattle.sql_binder.specs.Inserts.{bound_insert, kind_at, kinds_of}
use Rattle.sql_binder.specs.Changes.{bound_change}

-- each output has the kind that it is told to have, of columns that lie in their items
abbrev pub OutputsFit : List Item → List OutputTree → Type 0
OutputsFit items [] = Unit {0}
OutputsFit items (o ∷ os) = HasKind items o.value o.kind × OutputsFit items os

abbrev pub SelectFits : List Item → List Param → SelectMeant → Type 0
SelectFits items params m = OutputsFit items m.outputs × AllFit items params (listed m.conditions)

-- a value for each column, of its kind or null
abbrev pub RowFits : List Kind → List Value → Type 0
RowFits [] [] = Unit {0}
RowFits (k ∷ ks) (v ∷ vs) = IsOf v k × RowFits ks vs
RowFits _ _ = ⊥

abbrev pub RowsFit : List Kind → List (List Value) → Type 0
RowsFit ks [] = Unit {0}
RowsFit ks (r ∷ rs) = RowFits ks r × RowsFit ks rs

abbrev pub AreWithin : (count : ℕ) → List ℕ → Type 0
AreWithin count [] = Unit {0}
AreWithin count (p ∷ ps) = (p < count) × AreWithin count ps

abbrev pub InsertFits : List ScopeColumn → InsertMeant → Type 0
InsertFits columns m = AreWithin (length columns) m.columns × RowsFit (kinds_of columns m.columns) m.rows

-- each column is the table's, and its new value may be assigned to it
abbrev pub SettingsFit : Item → List SettingMeant → Type 0
SettingsFit item [] = Unit {0}
SettingsFit item (w ∷ ws) = (w.column < length item.columns) × ((k : Kind) × HasKind (item ∷ []) w.value k × (are_alike k (kind_at item.columns w.column) ≡ true)) × SettingsFit item ws

abbrev pub MaybeFits : List Item → List Param → Option CondTree → Type 0
MaybeFits items params None = Unit {0}
MaybeFits items params (Some c) = Fits items params c

abbrev pub ChangeFits : Item → List Param → ChangeMeant → Type 0
ChangeFits item params m = SettingsFit item m.settings × MaybeFits (item ∷ []) params m.condition

-- ---- the laws

-- for arguments of their parameters' kinds, and a session whose number is an integer
abbrev pub SelectsFit : Type 0
SelectsFit = (items : List Item) (params : List Param) (session : ℕ) (t : SelectTree) (m : SelectMeant) → ArgumentsFit params → nat_le session 2147483647 ≡ true → bound_select items params session t ≡ Ok m → SelectFits items params m

abbrev pub InsertsFit : Type 0
InsertsFit = (columns : List ScopeColumn) (params : List Param) (session : ℕ) (names : Option (List (List ℕ))) (rows : List Trees) (m : InsertMeant) → bound_insert columns params session names rows ≡ Ok m → InsertFits columns m

abbrev pub ChangesFit : Type 0
ChangesFit = (item : Item) (params : List Param) (session : ℕ) (ws : List Setting) (cond : Option Tree) (m : ChangeMeant) → ArgumentsFit params → nat_le session 2147483647 ≡ true → bound_change item params session ws cond ≡ Ok m → ChangeFits item params m

-- ---- ORDER BY

-- an output that is there, a column that lies in its item, or the tables of an item
abbrev pub KeyFits : List Item → (outputs : ℕ) → SortBy → Type 0
KeyFits items n (by.Output place) = place < n
KeyFits items n (by.Column c) = (k : Kind) × Lies items c k
KeyFits items n (by.TableName i) = IsNumbered items i

abbrev pub KeysFit : List Item → (outputs : ℕ) → List SortKey → Type 0
KeysFit items n [] = Unit {0}
KeysFit items n (k ∷ ks) = KeyFits items n k.by × KeysFit items n ks

abbrev pub OrdersFit : Type 0
OrdersFit = (items : List Item) (params : List Param) (session : ℕ) (t : SelectTree) (m : SelectMeant) → bound_select items params session t ≡ Ok m → KeysFit items (length m.outputs) m.order

-- ---- columns that are set come once

abbrev pub IsAbsent : ℕ → List ℕ → Type 0
IsAbsent p [] = Unit {0}
IsAbsent p (q ∷ qs) = (p ≢ q) × IsAbsent p qs

abbrev pub ComeOnce : List ℕ → Type 0
ComeOnce [] = Unit {0}
ComeOnce (p ∷ ps) = IsAbsent p ps × ComeOnce ps

abbrev pub InsertsOnce : Type 0
InsertsOnce = (columns : List ScopeColumn) (params : List Param) (session : ℕ) (names : Option (List (List ℕ))) (rows : List Trees) (m : InsertMeant) → bound_insert columns params session names rows ≡ Ok m → ComeOnce m.columns

abbrev pub ChangesOnce : Type 0
ChangesOnce = (item : Item) (params : List Param) (session : ℕ) (ws : List Setting) (cond : Option Tree) (m : ChangeMeant) → bound_change item params session ws cond ≡ Ok m → ComeOnce (map (λ w. w.column) m.settings)
