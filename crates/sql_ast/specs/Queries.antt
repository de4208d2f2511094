-- Queries as trees, without where they lie in memory (VI. SQL Commands).
use Rattle.std.specs.Prelude.{ℕ, Bool, List, Option, Some, None, map}
use Rattle.sql_ast.specs.Expressions.{Tree, Trees, tree, trees}
use Rattle.sql_ast.specs.declared.changes.Assignment.{Assignment}
use Rattle.sql_ast.specs.declared.expr.Expr.{Expr}
use Rattle.sql_ast.specs.declared.named_table.NamedTable.{NamedTable}
use Rattle.sql_ast.specs.declared.query.Query.{Query}
use Rattle.sql_ast.specs.declared.query.Query.TheVariants as queries
use Rattle.sql_ast.specs.declared.query.RowStatement.{RowStatement}
use Rattle.sql_ast.specs.declared.query.RowStatement.TheVariants as statements
use Rattle.sql_ast.specs.declared.select.FromItem.{FromItem}
use Rattle.sql_ast.specs.declared.select.Select.{Select}
use Rattle.sql_ast.specs.declared.select.SelectItem.{SelectItem}
use Rattle.sql_ast.specs.declared.select.SelectItem.TheVariants as items
use Rattle.sql_ast.specs.declared.select.SortKey.{SortKey}

-- an expression, and its alias
abbrev pub Output : Type 0
Output = Tree × Option (List ℕ)

-- what a SELECT lists: `*`, a table's name and `.*`, or an expression
pub data Item : Type 0 where
  all_columns : Item
  columns_of : List ℕ → Item
  one_column : Output → Item

-- a table of FROM, and the condition of ON where it is joined
abbrev pub Joined : Type 0
Joined = NamedTable × Option Tree

-- a key of ORDER BY: whether it descends, and whether nulls come first
abbrev pub Key : Type 0
Key = Tree × (Bool × Bool)

-- a column and its new value
abbrev pub Setting : Type 0
Setting = List ℕ × Tree

-- items, FROM, WHERE, ORDER BY, LIMIT, OFFSET
pub data SelectTree : Type 0 where
  selected : List Item → List Joined → Option Tree → List Key → Option Tree → Option Tree → SelectTree

-- a statement that reads or changes rows
pub data RowTree : Type 0 where
  selects : SelectTree → RowTree
  inserts : List ℕ → Option (List (List ℕ)) → List Trees → RowTree
  updates : NamedTable → List Setting → Option Tree → RowTree
  deletes : NamedTable → Option Tree → RowTree

-- such a statement alone, prepared, executed or explained
pub data QueryTree : Type 0 where
  rows : RowTree → QueryTree
  prepares : List ℕ → List (List ℕ) → RowTree → QueryTree
  executes : List ℕ → Trees → QueryTree
  explains_select : Bool → SelectTree → QueryTree
  explains_execute : Bool → List ℕ → Trees → QueryTree

-- the trees of what the code holds
abbrev pub maybe_tree : Option Expr → Option Tree
maybe_tree None = None
maybe_tree (Some e) = Some (tree e)

abbrev pub item_tree : SelectItem → Item
item_tree items.All = all_columns
item_tree (items.AllOf table) = columns_of table
item_tree (items.Output value alias) = one_column (tree value, alias)

abbrev pub joined_tree : FromItem → Joined
joined_tree f = (f.table, maybe_tree f.on)

abbrev pub key_tree : SortKey → Key
key_tree k = (tree k.value, (k.descending, k.nulls_first))

abbrev pub setting : Assignment → Setting
setting s = (s.column, tree s.value)

abbrev pub select_tree : Select → SelectTree
select_tree s = selected (map item_tree s.items) (map joined_tree s.from) (maybe_tree s.condition) (map key_tree s.order) (maybe_tree s.limit) (maybe_tree s.offset)

abbrev pub row_tree : RowStatement → RowTree
row_tree (statements.Select s) = selects (select_tree s)
row_tree (statements.Insert s) = inserts s.table s.columns (map trees s.rows)
row_tree (statements.Update s) = updates s.table (map setting s.assignments) (maybe_tree s.condition)
row_tree (statements.Delete s) = deletes s.table (maybe_tree s.condition)

abbrev pub query_tree : Query → QueryTree
query_tree (queries.Rows s) = rows (row_tree s)
query_tree (queries.Prepare name kinds s) = prepares name kinds (row_tree s.value)
query_tree (queries.Execute name arguments) = executes name (trees arguments)
query_tree (queries.ExplainSelect analyze s) = explains_select analyze (select_tree s)
query_tree (queries.ExplainExecute analyze name arguments) = explains_execute analyze name (trees arguments)
