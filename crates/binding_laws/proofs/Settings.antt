-- New values of SET, and values that are stored.
use Rattle.std.proofs.Common.{◌≡◌, ℕ, ℤ, ◌<◌, Bool, true, false, List, [], ◌∷◌, ◌++◌, Option, Some, None, Result, Ok, Err, length, refl, sym, ap, subst, if◌then◌else◌}
use Rattle.std.specs.List.{list_any}
use Rattle.std.specs.Str.{bytes_eq}
use Rattle.pg_values.specs.declared.fault.Fault.{Fault}
use Rattle.pg_values.specs.declared.value.Kind.{Kind}
use Rattle.pg_values.specs.declared.value.Kind.TheVariants.{Int4 as KInt4, Int8 as KInt8, Text as KText, Day as KDay, Truth as KTruth}
use Rattle.pg_values.specs.declared.value.Value.{Value}
use Rattle.pg_values.specs.declared.value.Value.TheVariants.{Null, Int4, Int8, Text, Day, Truth}
use Rattle.value_rules.specs.Assignment.{assigned}
use Rattle.value_rules.specs.Ranges.{fitted, or_fault, is_integer}
use Rattle.value_rules.specs.declared.assignment.CoerceFault.{CoerceFault}
use Rattle.value_rules.specs.declared.assignment.CoerceFault.TheVariants.{Kinds, Range}
use Rattle.sql_ast.specs.Queries.{Setting as Written}
use Rattle.cond_logic.specs.Scalars.{ScalarTree, column, literal, table_name, computes, cancels}
use Rattle.expression_binder.specs.declared.scope.ScopeColumn.{ScopeColumn}
use Rattle.expression_binder.specs.declared.typed.Given.{Given}
use Rattle.expression_binder.specs.declared.typed.Given.TheVariants.{Of, Quoted, Nothing}
use Rattle.expression_binder.specs.Constants.{scalar, as_literal, or_coerced, stored}
use Rattle.expression_binder.specs.Firsts.{fault_in}
use Rattle.expression_binder.specs.Kinds.{are_alike, assigned_faults}
use Rattle.expression_binder.specs.Operands.{operand_faults, typed}
use Rattle.expression_binder.specs.Scopes.{Item, Scope}
use Rattle.binding_laws.specs.Fitting.{IsOf, HasKind, IsSound}
use Rattle.binding_laws.proofs.Names.{within}
use Rattle.binding_laws.proofs.Operands.{front_none, back_none, kept, Gives, scalar_has}
use Rattle.sql_binder.specs.Changes.{set_kind, setting_faults, settings_faults, literal_of, stored_as, stored_scalar, new_value, settings_constants, meant_if, settings_meant}
use Rattle.sql_binder.specs.Inserts.{place_of, place_or, target_faults}
use Rattle.binding_laws.specs.FittingAsks.{SettingsFit}

pub alike_self : (k : Kind) → are_alike k k ≡ true
alike_self KInt4 = refl
alike_self KInt8 = refl
alike_self KText = refl
alike_self KDay = refl
alike_self KTruth = refl

-- ---- assignment

fitted_is : (z : ℤ) (u : Value) → or_fault Range (fitted false z) ≡ Ok u → IsOf u KInt4
fitted_is z u h = by_test (is_integer z) h
  where
    by_test : (b : Bool) → or_fault Range (if b then Some (Int4 z) else None) ≡ Ok u → IsOf u KInt4
    by_test true q = let same : Int4 z ≡ u = cc in subst (λ v. IsOf v KInt4) same refl
    by_test false q = cc

same_is : (v u : Value) (k : Kind) → IsOf v k → assigned v k ≡ Ok v → assigned v k ≡ Ok u → IsOf u k
same_is v u k has e h = let same : v ≡ u = cc in subst (λ w. IsOf w k) same has

-- what a column gets is of its kind
pub assigned_is : (v u : Value) (k : Kind) → assigned v k ≡ Ok u → IsOf u k
assigned_is Null u k h = same_is Null u k tt refl h
assigned_is (Int4 n) u KInt4 h = same_is (Int4 n) u KInt4 refl refl h
assigned_is (Int4 n) u KInt8 h = same_is (Int8 n) u KInt8 refl refl h
assigned_is (Int4 n) u KText h = cc
assigned_is (Int4 n) u KDay h = cc
assigned_is (Int4 n) u KTruth h = cc
assigned_is (Int8 n) u KInt4 h = fitted_is n u h
assigned_is (Int8 n) u KInt8 h = same_is (Int8 n) u KInt8 refl refl h
assigned_is (Int8 n) u KText h = cc
assigned_is (Int8 n) u KDay h = cc
assigned_is (Int8 n) u KTruth h = cc
assigned_is (Text s) u KText h = same_is (Text s) u KText refl refl h
assigned_is (Text s) u KInt4 h = cc
assigned_is (Text s) u KInt8 h = cc
assigned_is (Text s) u KDay h = cc
assigned_is (Text s) u KTruth h = cc
assigned_is (Day d) u KDay h = same_is (Day d) u KDay refl refl h
assigned_is (Day d) u KInt4 h = cc
assigned_is (Day d) u KInt8 h = cc
assigned_is (Day d) u KText h = cc
assigned_is (Day d) u KTruth h = cc
assigned_is (Truth p) u KTruth h = same_is (Truth p) u KTruth refl refl h
assigned_is (Truth p) u KInt4 h = cc
assigned_is (Truth p) u KInt8 h = cc
assigned_is (Truth p) u KText h = cc
assigned_is (Truth p) u KDay h = cc

coerced_ok : (k : Kind) (u : Value) (r : Result Value CoerceFault) → or_coerced k r ≡ Ok u → r ≡ Ok u
coerced_ok k u (Ok v) h = let same : v ≡ u = cc in ap Ok same
coerced_ok k u (Err Range) h = cc
coerced_ok k u (Err Kinds) h = cc

pub stored_is : (k : Kind) (r : Result Value Fault) (u : Value) → stored k r ≡ Ok u → IsOf u k
stored_is k (Ok v) u h = assigned_is v u k (coerced_ok k u (assigned v k) h)
stored_is k (Err f) u h = cc

-- ---- SET

literal_ok : (x : ScalarTree) (r : Result Value Fault) → literal_of r ≡ Ok x → (u : Value) × (r ≡ Ok u) × (literal u ≡ x)
literal_ok x (Ok u) h = (u, refl, cc)
literal_ok x (Err f) h = cc

stored_ok : (k : Kind) (x : ScalarTree) (r : Result ScalarTree Fault) → stored_scalar k r ≡ Ok x → (y : ScalarTree) × (r ≡ Ok y) × (stored_as k y (as_literal y) ≡ Ok x)
stored_ok k x (Ok y) h = (y, refl, h)
stored_ok k x (Err f) h = cc

-- a new value may be assigned to a column of the kind
abbrev pub MayBeSet : List Item → Kind → ScalarTree → Type 0
MayBeSet items kind x = (k : Kind) × HasKind items x k × (are_alike k kind ≡ true)

by_given : (items : List Item) (kind : Kind) (y : ScalarTree) (g : Given) → assigned_faults kind g ≡ [] → ((k : Kind) → Gives g kind k → HasKind items y k) → MayBeSet items kind y
by_given items kind y (Of m) none has = (m, has m refl, kept _ _ none)
by_given items kind y Quoted none has = (kind, has kind refl, alike_self kind)
by_given items kind y Nothing none has = (kind, has kind tt, alike_self kind)

same_set : (items : List Item) (kind : Kind) (y x : ScalarTree) (r : Result ScalarTree Fault) → MayBeSet items kind y → r ≡ Ok y → r ≡ Ok x → MayBeSet items kind x
same_set items kind y x r may e h = let same : y ≡ x = cc in subst (λ z. MayBeSet items kind z) same may

stored_set : (items : List Item) (kind : Kind) (y x : ScalarTree) → MayBeSet items kind y → stored_as kind y (as_literal y) ≡ Ok x → MayBeSet items kind x
stored_set items kind (literal v) x may h =
    let u = literal_ok x (stored kind (Ok v)) h in
    (kind, subst (λ z. HasKind items z kind) u.2 (stored_is kind (Ok v) u.0 u.1), alike_self kind)
stored_set items kind (column c) x may h = same_set items kind (column c) x (Ok (column c)) may refl h
stored_set items kind (table_name n) x may h = same_set items kind (table_name n) x (Ok (table_name n)) may refl h
stored_set items kind (computes a l r) x may h = same_set items kind (computes a l r) x (Ok (computes a l r)) may refl h
stored_set items kind (cancels y) x may h = same_set items kind (cancels y) x (Ok (cancels y)) may refl h

found : {A : Type 0} (r : Result A Fault) → fault_in r ≡ [] → (x : A) × (r ≡ Ok x)
found (Ok x) h = (x, refl)
found (Err f) h = cc

target_there : (is_set : Bool) (name : List ℕ) (o : Option ℕ) → target_faults is_set name o ≡ [] → o ≡ Some (place_or o)
target_there is_set name None h = cc
target_there is_set name (Some p) h = refl

pub target_within : (cs : List ScopeColumn) (is_set : Bool) (name : List ℕ) → target_faults is_set name (place_of cs name) ≡ [] → place_or (place_of cs name) < length cs
target_within cs is_set name h = within name cs (place_or (place_of cs name)) (target_there is_set name (place_of cs name) h)

module _ (item : Item) (s : Scope) (sound : IsSound s) (over : s.items ≡ item ∷ []) where
  setting_may : (w : Written) (x : ScalarTree) → operand_faults s w.1 ≡ [] → assigned_faults (set_kind item w.0) (typed s w.1).given ≡ [] → new_value item s w ≡ Ok x → MayBeSet (item ∷ []) (set_kind item w.0) x
  setting_may w x none may e =
      let kind = set_kind item w.0 in
      let y = stored_ok kind x (scalar s kind w.1) e in
      let has = by_given s.items kind y.0 (typed s w.1).given may (λ k g. scalar_has s sound w.1 kind k y.0 none g y.1) in
      subst (λ items. MayBeSet items kind x) over (stored_set s.items kind y.0 x has y.2)

  pub settings_fit : (earlier : List (List ℕ)) (ws : List Written) → settings_faults item s earlier ws ≡ [] → settings_constants item s ws ≡ [] → SettingsFit item (settings_meant item s ws)
  settings_fit earlier [] h e = tt
  settings_fit earlier (w ∷ ws) h e =
      let own = front_none (setting_faults item s earlier w) _ h in
      let target = target_faults (list_any (bytes_eq w.0) earlier) w.0 (place_of item.columns w.0) in
      let value = back_none target _ own in
      let place = place_or (place_of item.columns w.0) in
      let x = found (new_value item s w) (front_none (fault_in (new_value item s w)) _ e) in
      let rest = settings_fit (earlier ++ w.0 ∷ []) ws (back_none (setting_faults item s earlier w) _ h) (back_none (fault_in (new_value item s w)) _ e) in
      subst (λ r. SettingsFit item (meant_if place r ++ settings_meant item s ws)) (sym x.1)
      (target_within item.columns (list_any (bytes_eq w.0) earlier) w.0 (front_none target _ own), setting_may w x.0 (front_none (operand_faults s w.1) _ value) (back_none (operand_faults s w.1) _ value) x.1, rest)
