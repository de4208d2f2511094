-- Rows of an INSERT.
use Rattle.std.proofs.Common.{◌≡◌, ℕ, zero, suc, ◌+◌, ◌-◌, ◌≤◌, ◌==◌, min, List, [], ◌∷◌, ◌++◌, Option, Some, None, Result, Ok, Err, length, refl, sym, subst, ◌∙◌, arith}
use Rattle.std.proofs.lemmas.Bool.{eqb-true}
use Rattle.std.specs.List.{list_any}
use Rattle.std.specs.Str.{bytes_eq}
use Rattle.pg_values.specs.declared.fault.Fault.{Fault}
use Rattle.pg_values.specs.declared.value.Kind.{Kind}
use Rattle.refusals.specs.Refusals.{wrong_count}
use Rattle.sql_ast.specs.Expressions.{Trees, no_more, and_more}
use Rattle.expression_binder.specs.declared.scope.ScopeColumn.{ScopeColumn}
use Rattle.expression_binder.specs.Constants.{constant}
use Rattle.expression_binder.specs.Firsts.{fault_in}
use Rattle.expression_binder.specs.Kinds.{count_faults}
use Rattle.expression_binder.specs.Scopes.{Scope}
use Rattle.binding_laws.proofs.Operands.{front_none, back_none, kept}
use Rattle.sql_binder.specs.Inserts.{place_of, target_faults, column_faults, places_of, from_to, value_faults, count_of, row_faults, stored_value, value_constants, row_constants, read_in, row_values, all_values, first_count, targets, named_faults}
use Rattle.binding_laws.specs.FittingAsks.{RowFits, RowsFit, AreWithin}
use Rattle.binding_laws.proofs.Settings.{stored_is, target_within}

-- ---- columns

pub places_within : (cs : List ScopeColumn) (earlier names : List (List ℕ)) → column_faults cs earlier names ≡ [] → AreWithin (length cs) (places_of cs names)
places_within cs earlier [] h = tt
places_within cs earlier (n ∷ ns) h =
    let own = target_faults (list_any (bytes_eq n) earlier) n (place_of cs n) in
    (target_within cs (list_any (bytes_eq n) earlier) n (front_none own _ h), places_within cs (earlier ++ n ∷ []) ns (back_none own _ h))

from_within : (count place n : ℕ) → place + n ≤ count → AreWithin count (from_to place n)
from_within count place zero h = tt
from_within count place (suc n) h = (omega (arith, h), from_within count (place + 1) n (omega (arith, h)))

pub targets_within : (cs : List ScopeColumn) (names : Option (List (List ℕ))) (rows : List Trees) → named_faults cs names ≡ [] → AreWithin (length cs) (targets cs names rows)
targets_within cs None rows h = from_within (length cs) 0 (min (first_count rows) (length cs)) (omega arith)
targets_within cs (Some names) rows h = places_within cs [] names h

-- ---- rows

found : {A : Type 0} (r : Result A Fault) → fault_in r ≡ [] → (x : A) × (r ≡ Ok x)
found (Ok x) h = (x, refl)
found (Err f) h = cc

row_fits : (s : Scope) (ks : List Kind) (ts : Trees) → count_of ts ≡ length ks → value_constants s ks ts ≡ [] → RowFits ks (row_values s ks ts)
row_fits s [] no_more n e = tt
row_fits s (k ∷ ks) no_more n e = absurd (omega (arith, n))
row_fits s [] (and_more t ts) n e = absurd (omega (arith, n))
row_fits s (k ∷ ks) (and_more t ts) n e =
    let v = found (stored_value s k t) (front_none (fault_in (stored_value s k t)) _ e) in
    let rest = row_fits s ks ts (omega (arith, n)) (back_none (fault_in (stored_value s k t)) _ e) in
    subst (λ r. RowFits (k ∷ ks) (read_in r ++ row_values s ks ts)) (sym v.1) (stored_is k (constant s k t) v.0 v.1, rest)

pub rows_fit : (s : Scope) (ks : List Kind) (wanted : ℕ) (rows : List Trees) → wanted ≡ length ks → row_faults s ks wanted rows ≡ [] → row_constants s ks rows ≡ [] → RowsFit ks (all_values s ks rows)
rows_fit s ks wanted [] w h e = tt
rows_fit s ks wanted (r ∷ rs) w h e =
    let own = value_faults s ks r ++ count_faults (count_of r) wanted in
    let count = kept (count_of r == wanted) (wrong_count (count_of r) wanted) (back_none (value_faults s ks r) _ (front_none own _ h)) in
    (row_fits s ks r (eqb-true (count_of r) wanted count ∙ w) (front_none (value_constants s ks r) _ e), rows_fit s ks wanted rs w (back_none own _ h) (back_none (value_constants s ks r) _ e))
