-- A plan names columns as its statement does (the manual, 14.1.1 EXPLAIN Basics; 4.2.1 Column References).
use Rattle.std.specs.Prelude.{◌≡◌, ℕ, List}
use Rattle.row_router.specs.Trees.{TableTree}
use Rattle.sql_ast.specs.Queries.{Joined}
use Rattle.expression_binder.specs.declared.naming.Hit.{Hit}
use Rattle.expression_binder.specs.declared.naming.Lookup.TheVariants.{One}
use Rattle.expression_binder.specs.Scopes.{item_called, look_up, look_up_in}
use Rattle.plan_text.specs.Names.{bare_name, item_name}
use Rattle.select_statement.specs.Explained.{named_items}
use Rattle.select_statement.specs.Items.{items_of}

-- the column that a name by itself is bound to is printed by that name
abbrev pub ColumnsAreNamedAsAsked : Type 0
ColumnsAreNamedAsAsked = (from : List Joined) (trees : List TableTree) (name : List ℕ) (h : Hit) → look_up (items_of 0 from trees) name ≡ One h → bare_name (named_items from trees) h.column ≡ name

-- and so is the one that a name behind that of an item is bound to, and its item by that of the item
abbrev pub ItemsAreNamedAsAsked : Type 0
ItemsAreNamedAsAsked = (from : List Joined) (trees : List TableTree) (item name : List ℕ) (h : Hit) → look_up_in (item_called (items_of 0 from trees) item) name ≡ One h
    → (item_name (named_items from trees) h.column.item ≡ item) × (bare_name (named_items from trees) h.column ≡ name)
