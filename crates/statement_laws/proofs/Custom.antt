-- With parameters an UPDATE, a DELETE or an INSERT does what it does with their values written out.
use Rattle.std.proofs.Common.{◌≡◌, ℕ, List, [], ◌++◌, refl, ap, subst, ◌∙◌, append_assoc, Option, Some, None, Result, Ok}
use Rattle.pg_values.specs.declared.fault.Fault.{Fault}
use Rattle.pg_values.specs.declared.value.Value.{Value}
use Rattle.pg_values.specs.declared.lock_mode.LockMode.TheVariants.{RowExclusive}
use Rattle.history.specs.History.{History}
use Rattle.row_router.specs.Histories.{path_of, tree_of}
use Rattle.cond_logic.specs.Asked.{ChangeMeant}
use Rattle.expression_binder.specs.declared.scope.Param.{Param}
use Rattle.plan_tree.specs.Plans.{custom}
use Rattle.plan_tree.specs.declared.planning.Planning.{Planning}
use Rattle.sql_ast.specs.Expressions.{Trees}
use Rattle.sql_ast.specs.declared.named_table.NamedTable.{NamedTable}
use Rattle.stores.specs.Events.{look_of}
use Rattle.statement_steps.specs.Asks.{held_at, named}
use Rattle.statement_steps.specs.Ended.{giving}
use Rattle.statement_steps.specs.Gathered.{Found, RowsLeft}
use Rattle.statement_steps.specs.Made.{Made, and_then, answered}
use Rattle.statement_steps.specs.Steps.{follow}
use Rattle.statement_steps.specs.declared.caller.Caller.{Caller}
use Rattle.statement_steps.specs.declared.rest.Rest.{Rest}
use Rattle.select_statement.proofs.Custom.{both_done, follow_alike, follow_from}
use Rattle.change_statement.specs.Changed.{Changing, Told, begun_or_left, changed, changed_by, changed_on, told_of}
use Rattle.change_statement.specs.Deleted.{deleting}
use Rattle.change_statement.specs.Gathered.{gathered, locked, of_table}
use Rattle.change_statement.specs.Standing.{left_of}
use Rattle.change_statement.specs.Updated.{updating}
use Rattle.insert_statement.specs.Inserted as inserts
use Rattle.insert_statement.specs.Inserted.{into, rows_meant}
use Rattle.statement_laws.specs.Custom.{WhereLocated, Change, ChangesBindAs, RowsBindAs, CustomUpdates, CustomDeletes, CustomInserts}

-- ---- where the table is found and locked

-- behind the snapshot that may be taken first
abbrev WhereNamed : List (List ℕ) → Caller → (name : List ℕ) → (History → ℕ → Type 0) → History → Type 0
WhereNamed names c name P h = let m = named names c.session RowExclusive name h in (t : ℕ) → m.told ≡ Ok t → P (m.events ++ h) t

located_behind : (names : List (List ℕ)) (c : Caller) (name : List ℕ) (P : History → ℕ → Type 0) (h : History) → WhereLocated names c name P h
    → (v : Unit {0}) → (held_at c.level c.session c.cmd h).told ≡ Ok v → WhereNamed names c name P ((held_at c.level c.session c.cmd h).events ++ h)
located_behind names c name P h there v first t second =
    let b = held_at c.level c.session c.cmd h in
    let n = named names c.session RowExclusive name (b.events ++ h) in
    let done = both_done b (λ x. named names c.session RowExclusive name (b.events ++ h)) v t first second in
    subst (λ (es : History). P es t) (ap (λ (es : History). es ++ h) done.1 ∙ append_assoc n.events b.events h) (there t done.0)

-- ---- UPDATE and DELETE

module _ (how : Planning) (names : List (List ℕ)) (c : Caller) (table : NamedTable) where
  abbrev begun : (change : Found → Changing) → List Param → Change → History → Made Told
  begun change params one = follow (held_at c.level c.session c.cmd) (λ u. follow (gathered (custom how) names params c table one.0 one.1) (λ g. changed (change g) names c g))

  module _ (params : List Param) (one other : Change) where
    table_alike : (h : History) (t : ℕ) → ChangesBindAs params c table one other h t → of_table (custom how) names params c table one.0 one.1 t h ≡ of_table (custom how) names [] c table other.0 other.1 t h
    table_alike h t binds =
        ap (λ (r : Result ChangeMeant Fault). and_then (answered r) (λ m. locked (custom how) names c [] t (tree_of h c.session t (look_of h c.session c.cmd)) (path_of h c.session t) m ((answered r).events ++ h))) binds

    gathered_alike : (h : History) → WhereNamed names c table.name (ChangesBindAs params c table one other) h → gathered (custom how) names params c table one.0 one.1 h ≡ gathered (custom how) names [] c table other.0 other.1 h
    gathered_alike h there =
        let f = named names c.session RowExclusive table.name in
        follow_alike f (of_table (custom how) names params c table one.0 one.1) (of_table (custom how) names [] c table other.0 other.1) h (λ t told. table_alike ((f h).events ++ h) t (there t told))

    begun_alike : (change : Found → Changing) (h : History) → WhereLocated names c table.name (ChangesBindAs params c table one other) h → begun change params one h ≡ begun change [] other h
    begun_alike change h there =
        let b = held_at c.level c.session c.cmd in
        let next : Found → History → Made Told = λ g. changed (change g) names c g in
        follow_alike b (λ u. follow (gathered (custom how) names params c table one.0 one.1) next) (λ u. follow (gathered (custom how) names [] c table other.0 other.1) next) h (λ v first.
        follow_from (gathered (custom how) names params c table one.0 one.1) (gathered (custom how) names [] c table other.0 other.1) next ((b h).events ++ h)
        (gathered_alike ((b h).events ++ h) (located_behind names c table.name (ChangesBindAs params c table one other) h there v first)))

    -- one that goes on takes the rows that it has left
    changed_alike : (change : Found → Changing) (rest : Option Rest) (h : History) → WhereLocated names c table.name (ChangesBindAs params c table one other) h
        → changed_by change names c rest (begun change params one) h ≡ changed_by change names c rest (begun change [] other) h
    changed_alike change rest h there = by (left_of h c rest)
      where
        by : (o : Option RowsLeft) → begun_or_left (begun change params one) (λ r k. giving (told_of r.found) (changed_on change names c r k)) o h ≡ begun_or_left (begun change [] other) (λ r k. giving (told_of r.found) (changed_on change names c r k)) o h
        by None = begun_alike change h there
        by (Some r) = refl

pub custom_updates : CustomUpdates
custom_updates how names params c rest table settings others condition other h there = changed_alike how names c table params (settings, condition) (others, other) (λ g. updating c g) rest h there

pub custom_deletes : CustomDeletes
custom_deletes how names params c rest table condition other h there = changed_alike how names c table params ([], condition) ([], other) (λ g. deleting c) rest h there

-- ---- INSERT

module _ (names : List (List ℕ)) (params : List Param) (c : Caller) (table : List ℕ) (columns : Option (List (List ℕ))) (values others : List Trees) where
  abbrev stored : List Param → List Trees → (t : ℕ) → History → Made (Unit {0})
  stored ps vs t = follow (rows_meant ps c.session t columns vs) (λ rows. into names c t rows)

  rows_alike : (h : History) (t : ℕ) → RowsBindAs params c columns values others h t → stored params values t h ≡ stored [] others t h
  rows_alike h t binds = ap (λ (r : Result (List (List Value)) Fault). and_then (answered r) (λ rows. into names c t rows ((answered r).events ++ h))) binds

  inserted_alike : (h : History) → WhereNamed names c table (RowsBindAs params c columns values others) h → inserts.gathered names params c table columns values h ≡ inserts.gathered names [] c table columns others h
  inserted_alike h there =
      let f = named names c.session RowExclusive table in
      follow_alike f (stored params values) (stored [] others) h (λ t told. rows_alike ((f h).events ++ h) t (there t told))

pub custom_inserts : CustomInserts
custom_inserts names params c table columns values others h there =
    let b = held_at c.level c.session c.cmd in
    follow_alike b (λ u. inserts.gathered names params c table columns values) (λ u. inserts.gathered names [] c table columns others) h (λ v first.
    inserted_alike names params c table columns values others ((b h).events ++ h) (located_behind names c table (RowsBindAs params c columns values others) h there v first))
