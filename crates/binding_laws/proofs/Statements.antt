-- Statements without a fault fit their tables.
use Rattle.std.proofs.Common.{◌≡◌, ℕ, nat_le, true, List, [], ◌∷◌, ◌++◌, Option, Some, None, Ok, length, refl, sym, subst}
use Rattle.std.proofs.lemmas.List.{length-map}
use Rattle.sql_ast.specs.Expressions.{Tree, Trees}
use Rattle.sql_ast.specs.Queries.{SelectTree, selected, Setting as Written}
use Rattle.expression_binder.specs.declared.scope.Param.{Param}
use Rattle.expression_binder.specs.declared.scope.ScopeColumn.{ScopeColumn}
use Rattle.expression_binder.specs.Scopes.{Item}
use Rattle.expression_binder.proofs.Firsts.{value_of}
use Rattle.binding_laws.specs.Fitting.{ArgumentsFit}
use Rattle.binding_laws.proofs.Conditions.{condition_fits}
use Rattle.binding_laws.proofs.Operands.{front_none, back_none}
use Rattle.cond_logic.specs.Asked.{SelectMeant, InsertMeant, ChangeMeant}
use Rattle.sql_binder.specs.From.{from_faults, all_conditions, condition_faults, condition_constants}
use Rattle.sql_binder.specs.Items.{list_faults, list_constants}
use Rattle.sql_binder.specs.Selects as selects
use Rattle.sql_binder.specs.Selects.{list_scope, select_faults, bound_select}
use Rattle.sql_binder.specs.Inserts.{value_scope, row_faults, named_faults, targets, kinds_of, kind_at, insert_faults, all_values, bound_insert}
use Rattle.sql_binder.specs.Changes.{set_scope, where_scope, settings_faults, settings_constants, settings_meant, where_faults, where_constants, where_meaning, change_faults, bound_change}
use Rattle.binding_laws.specs.FittingAsks.{SelectFits, InsertFits, ChangeFits, MaybeFits}
use Rattle.binding_laws.proofs.Inserts.{targets_within, rows_fit}
use Rattle.binding_laws.proofs.Selects.{list_fits, conditions_fit}
use Rattle.binding_laws.proofs.Settings.{settings_fit}

pub select_fits : (items : List Item) (params : List Param) (session : ℕ) (t : SelectTree) (m : SelectMeant) → ArgumentsFit params → nat_le session 2147483647 ≡ true → bound_select items params session t ≡ Ok m → SelectFits items params m
select_fits items params session (selected ls from cond keys limit offset) m arguments small e =
    let t = selected ls from cond keys limit offset in
    let p = value_of (select_faults items params session t) (selects.meaning items params session t) m e in
    let behind = back_none (from_faults from) _ p.0 in
    let names = front_none (selects.name_faults items params session t) _ behind in
    let constants = back_none (selects.name_faults items params session t) _ behind in
    let s = list_scope items params session in
    let conditions = all_conditions items from cond in
    let first = front_none (list_faults s ls ++ condition_faults params session conditions) _ names in
    let computed = front_none (list_constants s ls ++ condition_constants params session conditions) _ constants in
    subst (λ b. SelectFits items params b) p.1 (
      list_fits s (arguments, small) ls (front_none (list_faults s ls) _ first) (front_none (list_constants s ls) _ computed),
      conditions_fit items params session arguments small from cond (back_none (list_faults s ls) _ first) (back_none (list_constants s ls) _ computed),
    )

pub insert_fits : (columns : List ScopeColumn) (params : List Param) (session : ℕ) (names : Option (List (List ℕ))) (rows : List Trees) (m : InsertMeant) → bound_insert columns params session names rows ≡ Ok m → InsertFits columns m
insert_fits columns params session names rows m e =
    let ps = targets columns names rows in
    let ks = kinds_of columns ps in
    let s = value_scope params session in
    let p = value_of (insert_faults columns params session names rows) (record { columns = ps; rows = all_values s ks rows }) m e in
    let behind = back_none (named_faults columns names) _ p.0 in
    subst (λ b. InsertFits columns b) p.1 (
      targets_within columns names rows (front_none (named_faults columns names) _ p.0),
      rows_fit s ks (length ps) rows (sym (length-map ps (kind_at columns))) (front_none (row_faults s ks (length ps) rows) _ behind) (back_none (row_faults s ks (length ps) rows) _ behind),
    )

where_fits : (item : Item) (params : List Param) (session : ℕ) (cond : Option Tree) → ArgumentsFit params → nat_le session 2147483647 ≡ true → where_faults (where_scope item params session) cond ≡ [] → where_constants (where_scope item params session) cond ≡ []
    → MaybeFits (item ∷ []) params (where_meaning (where_scope item params session) cond)
where_fits item params session None arguments small h e = tt
where_fits item params session (Some t) arguments small h e = condition_fits (where_scope item params session) (arguments, small) t h e

pub change_fits : (item : Item) (params : List Param) (session : ℕ) (ws : List Written) (cond : Option Tree) (m : ChangeMeant) → ArgumentsFit params → nat_le session 2147483647 ≡ true → bound_change item params session ws cond ≡ Ok m → ChangeFits item params m
change_fits item params session ws cond m arguments small e =
    let s = set_scope item params session in
    let w = where_scope item params session in
    let p = value_of (change_faults item params session ws cond) (record { settings = settings_meant item s ws; condition = where_meaning w cond }) m e in
    let names = front_none (settings_faults item s [] ws ++ where_faults w cond) _ p.0 in
    let constants = back_none (settings_faults item s [] ws ++ where_faults w cond) _ p.0 in
    subst (λ b. ChangeFits item params b) p.1 (
      settings_fit item s (arguments, small) refl [] ws (front_none (settings_faults item s [] ws) _ names) (front_none (settings_constants item s ws) _ constants),
      where_fits item params session cond arguments small (back_none (settings_faults item s [] ws) _ names) (back_none (settings_constants item s ws) _ constants),
    )
