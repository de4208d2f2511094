-- The queries that a parse can give: each name and expression can be written, and each list has a part where it must have one.
use Rattle.std.specs.Prelude.{◌≡◌, List, [], ◌∷◌, None}
use Rattle.sql_ast.specs.Queries.{Item, all_columns, columns_of, one_column, Joined, Key, Setting, SelectTree, selected, RowTree, selects, inserts, updates, deletes, QueryTree, rows, prepares, executes, explains_select, explains_execute}
use Rattle.sql_ast.specs.declared.named_table.NamedTable.{NamedTable}
use Rattle.sql_written.specs.Writable.{IsName, IsWritable as IsExpression}
use Rattle.sql_written.specs.Lists.{Each, Maybe, SomeAre, list_of}
use Rattle.sql_written.specs.WritableCommands.{AreValues}

-- queries
abbrev pub IsTable : NamedTable → Type 0
IsTable t = IsName t.name × Maybe IsName t.alias

abbrev pub IsItem : Item → Type 0
IsItem all_columns = Unit {0}
IsItem (columns_of z) = IsName z
IsItem (one_column x) = IsExpression x.0 × Maybe IsName x.1

abbrev pub IsJoined : Joined → Type 0
IsJoined x = IsTable x.0 × Maybe IsExpression x.1

-- nothing is joined to the first table
abbrev pub AreTables : List Joined → Type 0
AreTables [] = Unit {0}
AreTables (x ∷ xs) = IsTable x.0 × (x.1 ≡ None) × Each IsJoined xs

abbrev pub IsKey : Key → Type 0
IsKey x = IsExpression x.0

abbrev pub IsAssignment : Setting → Type 0
IsAssignment x = IsName x.0 × IsExpression x.1

abbrev pub IsSelect : SelectTree → Type 0
IsSelect (selected items from condition order limit offset) =
    SomeAre IsItem items × AreTables from × Maybe IsExpression condition × Each IsKey order × Maybe IsExpression limit × Maybe IsExpression offset

abbrev pub IsRowStatement : RowTree → Type 0
IsRowStatement (selects s) = IsSelect s
IsRowStatement (inserts table columns lines) = IsName table × Maybe (SomeAre IsName) columns × SomeAre AreValues lines
IsRowStatement (updates table settings condition) = IsTable table × SomeAre IsAssignment settings × Maybe IsExpression condition
IsRowStatement (deletes table condition) = IsTable table × Maybe IsExpression condition

abbrev pub IsQuery : QueryTree → Type 0
IsQuery (rows s) = IsRowStatement s
IsQuery (prepares name types s) = IsName name × Each IsName types × IsRowStatement s
IsQuery (executes name arguments) = IsName name × Each IsExpression (list_of arguments)
IsQuery (explains_select analyze s) = IsSelect s
IsQuery (explains_execute analyze name arguments) = IsName name × Each IsExpression (list_of arguments)
