-- What is written of each query (VI. SQL Commands). What is said by leaving it out is left out, but for AS.
use Rattle.std.specs.Prelude.{ℕ, Bool, true, false, List, [], ◌∷◌, ◌++◌, Option, Some, None}
use Rattle.sql_tokens.specs.Words.{is}
use Rattle.sql_tokens.specs.declared.kind.TokenKind.{TokenKind}
use Rattle.sql_tokens.specs.declared.kind.TokenKind.TheVariants as kinds
use Rattle.sql_ast.specs.Expressions.{Tree, Trees, no_more, and_more}
use Rattle.sql_ast.specs.declared.leaf.Operator.TheVariants.{Equal}
use Rattle.sql_ast.specs.Queries.{Item, all_columns, columns_of, one_column, Joined, Key, Setting, SelectTree, selected, RowTree, selects, inserts, updates, deletes, QueryTree, rows, prepares, executes, explains_select, explains_execute}
use Rattle.sql_ast.specs.declared.named_table.NamedTable.{NamedTable}
use Rattle.sql_written.specs.Marks.{Mark, blank}
use Rattle.sql_written.specs.Spelling as spelled
use Rattle.sql_written.specs.Written.{marks}
use Rattle.sql_written.specs.Lists.{enclosed, names, parts, values}
use Rattle.sql_written.specs.Words.{name_unless, word}

-- names of tables and columns
abbrev pub alias_marks : Option (List ℕ) → List Mark
alias_marks None = []
alias_marks (Some z) = blank ∷ word kinds.As ∷ blank ∷ spelled.name z ∷ []

abbrev pub table_marks : NamedTable → List Mark
table_marks t = spelled.name t.name ∷ alias_marks t.alias

-- the items of SELECT
abbrev pub item_marks : Item → List Mark
item_marks all_columns = spelled.star ∷ []
item_marks (columns_of z) = spelled.name z ∷ spelled.dot ∷ spelled.star ∷ []
item_marks (one_column x) = marks x.0 ++ alias_marks x.1

-- FROM: the first table, and those behind it
abbrev pub joined_marks : Joined → List Mark
joined_marks (t, None) = spelled.comma ∷ blank ∷ table_marks t
joined_marks (t, Some e) = blank ∷ word kinds.Join ∷ blank ∷ (table_marks t ++ blank ∷ word kinds.On ∷ blank ∷ marks e)

abbrev pub more_tables : List Joined → List Mark
more_tables [] = []
more_tables (x ∷ xs) = joined_marks x ++ more_tables xs

abbrev pub from_marks : List Joined → List Mark
from_marks [] = []
from_marks (x ∷ xs) = blank ∷ word kinds.From ∷ blank ∷ (table_marks x.0 ++ more_tables xs)

-- a clause of one expression, where there is one
abbrev pub clause : TokenKind → Option Tree → List Mark
clause k None = []
clause k (Some e) = blank ∷ word k ∷ blank ∷ marks e

-- ORDER BY: nulls are spoken of only where they do not come as the direction says
abbrev pub nulls_marks : Bool → Bool → List Mark
nulls_marks true true = []
nulls_marks true false = blank ∷ word kinds.Nulls ∷ blank ∷ word kinds.Last ∷ []
nulls_marks false true = blank ∷ word kinds.Nulls ∷ blank ∷ word kinds.First ∷ []
nulls_marks false false = []

abbrev pub direction_marks : Bool → List Mark
direction_marks true = blank ∷ word kinds.Desc ∷ []
direction_marks false = []

abbrev pub key_marks : Key → List Mark
key_marks x = marks x.0 ++ (direction_marks x.1.0 ++ nulls_marks x.1.0 x.1.1)

abbrev pub order_marks : List Key → List Mark
order_marks [] = []
order_marks (x ∷ xs) = blank ∷ word kinds.Order ∷ blank ∷ word kinds.By ∷ blank ∷ parts key_marks (x ∷ xs)

-- SELECT
abbrev pub select_marks : SelectTree → List Mark
select_marks (selected items from condition order limit offset) =
    word kinds.Select ∷ blank ∷ (parts item_marks items ++ (from_marks from ++ (clause kinds.Where condition ++ (order_marks order ++ (clause kinds.Limit limit ++ clause kinds.Offset offset)))))

-- INSERT
abbrev pub columns_marks : Option (List (List ℕ)) → List Mark
columns_marks None = []
columns_marks (Some zs) = blank ∷ enclosed (names zs)

abbrev pub row_marks : Trees → List Mark
row_marks ts = enclosed (values ts)

-- UPDATE
abbrev pub setting_marks : Setting → List Mark
setting_marks x = spelled.name x.0 ∷ blank ∷ spelled.sign Equal ∷ blank ∷ marks x.1

-- statements on rows
abbrev pub row_statement_marks : RowTree → List Mark
row_statement_marks (selects s) = select_marks s
row_statement_marks (inserts table columns lines) =
    word kinds.Insert ∷ blank ∷ word kinds.Into ∷ blank ∷ spelled.name table ∷ (columns_marks columns ++ blank ∷ word kinds.Values ∷ blank ∷ parts row_marks lines)
row_statement_marks (updates table settings condition) =
    word kinds.Update ∷ blank ∷ (table_marks table ++ blank ∷ word kinds.Set ∷ blank ∷ (parts setting_marks settings ++ clause kinds.Where condition))
row_statement_marks (deletes table condition) = word kinds.Delete ∷ blank ∷ word kinds.From ∷ blank ∷ (table_marks table ++ clause kinds.Where condition)

-- PREPARE, where TRANSACTION is no name
abbrev pub is_transaction : TokenKind → Bool
is_transaction k = is k kinds.Transaction

abbrev pub kinds_marks : List (List ℕ) → List Mark
kinds_marks [] = []
kinds_marks (z ∷ zs) = blank ∷ enclosed (names (z ∷ zs))

-- EXECUTE
abbrev pub argument_marks : Trees → List Mark
argument_marks no_more = []
argument_marks (and_more t ts) = enclosed (values (and_more t ts))

abbrev pub execute_marks : List ℕ → Trees → List Mark
execute_marks name arguments = word kinds.Execute ∷ blank ∷ spelled.name name ∷ argument_marks arguments

-- EXPLAIN
abbrev pub analyze_marks : Bool → List Mark
analyze_marks true = blank ∷ word kinds.Analyze ∷ []
analyze_marks false = []

-- every query
abbrev pub query_marks : QueryTree → List Mark
query_marks (rows s) = row_statement_marks s
query_marks (prepares name types s) = word kinds.Prepare ∷ blank ∷ name_unless is_transaction name ∷ (kinds_marks types ++ blank ∷ word kinds.As ∷ blank ∷ row_statement_marks s)
query_marks (executes name arguments) = execute_marks name arguments
query_marks (explains_select analyze s) = word kinds.Explain ∷ (analyze_marks analyze ++ blank ∷ select_marks s)
query_marks (explains_execute analyze name arguments) = word kinds.Explain ∷ (analyze_marks analyze ++ blank ∷ execute_marks name arguments)
