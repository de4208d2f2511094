-- A custom plan is made of the statement with its values in place (the manual, PREPARE, Notes): with parameters an UPDATE, a
-- DELETE or an INSERT does what it does with their values written out, wherever the two bind alike.
use Rattle.std.specs.Prelude.{◌≡◌, ℕ, ◌++◌, List, [], Ok, Option}
use Rattle.pg_values.specs.declared.lock_mode.LockMode.TheVariants.{RowExclusive}
use Rattle.history.specs.History.{History}
use Rattle.part_catalog.specs.Found.{made_at}
use Rattle.expression_binder.specs.declared.scope.Param.{Param}
use Rattle.sql_ast.specs.Expressions.{Tree, Trees}
use Rattle.sql_ast.specs.Queries.{Setting}
use Rattle.sql_ast.specs.declared.named_table.NamedTable.{NamedTable}
use Rattle.sql_binder.specs.Values.{custom_change}
use Rattle.statement_steps.specs.Asks.{held_at, named}
use Rattle.statement_steps.specs.Made.{Made}
use Rattle.statement_steps.specs.Steps.{follow}
use Rattle.statement_steps.specs.declared.caller.Caller.{Caller}
use Rattle.statement_steps.specs.declared.rest.Rest.{Rest}
use Rattle.change_statement.specs.Deleted.{deleted}
use Rattle.change_statement.specs.Gathered.{item_of}
use Rattle.change_statement.specs.Updated.{updated}
use Rattle.insert_statement.specs.Inserted.{inserted, whole_rows}
use Rattle.plan_tree.specs.Plans.{custom}
use Rattle.plan_tree.specs.declared.planning.Planning.{Planning}

-- the table of that name is found and locked
abbrev pub located : List (List ℕ) → Caller → (name : List ℕ) → History → Made ℕ
located names c name = follow (held_at c.level c.session c.cmd) (λ u. named names c.session RowExclusive name)

-- what holds of the table where it is found
abbrev pub WhereLocated : List (List ℕ) → Caller → (name : List ℕ) → (History → ℕ → Type 0) → History → Type 0
WhereLocated names c name P h = let m = located names c name h in (t : ℕ) → m.told ≡ Ok t → P (m.events ++ h) t

-- ---- UPDATE and DELETE

-- what is set and the condition
abbrev pub Change : Type 0
Change = List Setting × Option Tree

-- the one with parameters and the other one without mean the same there, or have the same fault
abbrev pub ChangesBindAs : List Param → Caller → NamedTable → (one other : Change) → History → (table : ℕ) → Type 0
ChangesBindAs params c table one other h t =
    custom_change (item_of table (made_at h t).columns) params c.session one.0 one.1 ≡ custom_change (item_of table (made_at h t).columns) [] c.session other.0 other.1

abbrev pub CustomUpdates : Type 0
CustomUpdates = (how : Planning) (names : List (List ℕ)) (params : List Param) (c : Caller) (rest : Option Rest) (table : NamedTable) (settings others : List Setting) (condition other : Option Tree) (h : History)
    → WhereLocated names c table.name (ChangesBindAs params c table (settings, condition) (others, other)) h
    → updated (custom how) names params c rest table settings condition h ≡ updated (custom how) names [] c rest table others other h

abbrev pub CustomDeletes : Type 0
CustomDeletes = (how : Planning) (names : List (List ℕ)) (params : List Param) (c : Caller) (rest : Option Rest) (table : NamedTable) (condition other : Option Tree) (h : History)
    → WhereLocated names c table.name (ChangesBindAs params c table ([], condition) ([], other)) h
    → deleted (custom how) names params c rest table condition h ≡ deleted (custom how) names [] c rest table other h

-- ---- INSERT

-- the rows of VALUES, with parameters and without
abbrev pub RowsBindAs : List Param → Caller → Option (List (List ℕ)) → (values others : List Trees) → History → (table : ℕ) → Type 0
RowsBindAs params c columns values others h t = whole_rows (made_at h t).columns params c.session columns values ≡ whole_rows (made_at h t).columns [] c.session columns others

abbrev pub CustomInserts : Type 0
CustomInserts = (names : List (List ℕ)) (params : List Param) (c : Caller) (table : List ℕ) (columns : Option (List (List ℕ))) (values others : List Trees) (h : History)
    → WhereLocated names c table (RowsBindAs params c columns values others) h → inserted names params c table columns values h ≡ inserted names [] c table columns others h
