-- The commands that a parse can give: each name, string, number and expression can be written, and each list has a part.
use Rattle.std.specs.List.{prefix_len}
use Rattle.std.specs.Prelude.{◌≡◌, ◌<◌, ◌≤◌, ℕ, List, length}
use Rattle.sql_tokens.specs.Bytes.{belongs}
use Rattle.sql_tokens.specs.declared.bytes.Class.TheVariants as class
use Rattle.sql_tokens.specs.declared.numbers.TheConstants.{NO_BIGINT}
use Rattle.sql_ast.specs.Expressions.{Trees}
use Rattle.sql_syntax.specs.Setting.{without_zeros}
use Rattle.sql_ast.specs.Commands.{Edge, min, max, at, Bound, range, listed, hash, other, CommandTree, begins, commits, rolls_back, sets, resets, makes_table, makes_partition, drops, attaches, detaches, locks, deallocates, deallocates_all}
use Rattle.sql_ast.specs.declared.setting_value.SettingValue.{SettingValue}
use Rattle.sql_ast.specs.declared.setting_value.SettingValue.TheVariants as setting
use Rattle.sql_ast.specs.declared.table_definition.ColumnDefinition.{ColumnDefinition}
use Rattle.sql_ast.specs.declared.locked_table.LockedTable.{LockedTable}
use Rattle.sql_ast.specs.declared.table_definition.Partitioning.{Partitioning}
use Rattle.sql_written.specs.Writable.{IsName, IsText, IsWritable as IsExpression}
use Rattle.sql_written.specs.Lists.{Maybe, SomeAre, list_of}

abbrev pub AreValues : Trees → Type 0
AreValues ts = SomeAre IsExpression (list_of ts)

-- one digit or more, without zeros before them
abbrev pub IsNumeral : List ℕ → Type 0
IsNumeral z = (0 < length z) × (prefix_len (belongs class.Digit) z ≡ length z) × (without_zeros z ≡ z)

-- commands
abbrev pub IsSetting : SettingValue → Type 0
IsSetting (setting.Word z) = IsName z
IsSetting (setting.Text z) = IsText z
IsSetting (setting.Number z) = IsNumeral z

abbrev pub IsPartitioning : Partitioning → Type 0
IsPartitioning p = SomeAre IsName p.columns

abbrev pub IsColumn : ColumnDefinition → Type 0
IsColumn c = IsName c.name × IsName c.kind

abbrev pub IsLocked : LockedTable → Type 0
IsLocked t = IsName t.name

abbrev pub IsEdge : Edge → Type 0
IsEdge min = Unit {0}
IsEdge max = Unit {0}
IsEdge (at e) = IsExpression e

abbrev pub IsBound : Bound → Type 0
IsBound (range from to) = SomeAre IsEdge from × SomeAre IsEdge to
IsBound (listed ts) = AreValues ts
IsBound (hash modulus remainder) = (modulus ≤ NO_BIGINT) × (remainder ≤ NO_BIGINT)
IsBound other = Unit {0}

abbrev pub IsCommand : CommandTree → Type 0
IsCommand (begins level) = Unit {0}
IsCommand commits = Unit {0}
IsCommand rolls_back = Unit {0}
IsCommand (sets name value) = IsName name × IsSetting value
IsCommand (resets name) = IsName name
IsCommand (makes_table name columns by) = IsName name × SomeAre IsColumn columns × Maybe IsPartitioning by
IsCommand (makes_partition name parent bound by) = IsName name × IsName parent × IsBound bound × Maybe IsPartitioning by
IsCommand (drops if_there tables) = SomeAre IsName tables
IsCommand (attaches parent name bound) = IsName parent × IsName name × IsBound bound
IsCommand (detaches parent name how) = IsName parent × IsName name
IsCommand (locks tables how) = SomeAre IsLocked tables
IsCommand (deallocates name) = IsName name
IsCommand deallocates_all = Unit {0}
