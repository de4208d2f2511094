-- How a plan names items of FROM and their columns (14.1.1 EXPLAIN Basics; 7.2.1.2 Table and Column Aliases).
use Rattle.std.specs.Prelude.{ℕ, nat_lt, Bool, false, if◌then◌else◌, List, [], ◌++◌, Option, Some, None, length, slice_get, slice_index_or, codes}
use Rattle.cond_logic.specs.declared.cond.ColumnId.{ColumnId}
use Rattle.plan_text.specs.declared.named_item.NamedItem.{NamedItem}

-- what an item says; nothing where there is none
abbrev pub name_in : Option NamedItem → List ℕ
name_in None = []
name_in (Some i) = i.name

abbrev pub columns_in : Option NamedItem → List (List ℕ)
columns_in None = []
columns_in (Some i) = i.columns

abbrev pub is_alias_in : Option NamedItem → Bool
is_alias_in None = false
is_alias_in (Some i) = i.is_alias

-- the name of the item of that number, and of a column by itself
abbrev pub item_name : List NamedItem → ℕ → List ℕ
item_name ns n = name_in (slice_get ns n)

abbrev pub bare_name : List NamedItem → ColumnId → List ℕ
bare_name ns c = slice_index_or (columns_in (slice_get ns c.item)) c.position []

-- where there is more than one item, the name of its item stands before a column
abbrev pub qualifier : List NamedItem → ℕ → List ℕ
qualifier ns n = if nat_lt 1 (length ns) then item_name ns n ++ codes "." else []

abbrev pub column_name : List NamedItem → ColumnId → List ℕ
column_name ns c = qualifier ns c.item ++ bare_name ns c

-- behind the name of a leaf: the alias, where one is written
abbrev pub alias_behind : List NamedItem → ℕ → List ℕ
alias_behind ns n = if is_alias_in (slice_get ns n) then codes " " ++ item_name ns n else []
