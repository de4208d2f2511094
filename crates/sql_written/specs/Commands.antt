-- What is written of each command (VI. SQL Commands). What is said by leaving it out is left out, but for TABLE behind LOCK.
use Rattle.std.specs.Prelude.{ℕ, Bool, true, false, ◌||◌, if◌then◌else◌, List, [], ◌∷◌, ◌++◌, Option, Some, None, codes}
use Rattle.std.specs.Str.{bytes_eq}
use Rattle.sql_tokens.specs.Words.{is}
use Rattle.sql_tokens.specs.declared.kind.TokenKind.{TokenKind}
use Rattle.sql_tokens.specs.declared.kind.TokenKind.TheVariants as kinds
use Rattle.sql_ast.specs.Expressions.{Tree, leaf}
use Rattle.sql_ast.specs.declared.leaf.Leaf.TheVariants.{Column}
use Rattle.sql_ast.specs.Commands.{Edge, min, max, at, Bound, range, listed, hash, other, CommandTree, begins, commits, rolls_back, sets, resets, makes_table, makes_partition, drops, attaches, detaches, locks, deallocates, deallocates_all}
use Rattle.sql_ast.specs.declared.detachment.Detachment.{Detachment}
use Rattle.sql_ast.specs.declared.detachment.Detachment.TheVariants as detachment
use Rattle.pg_values.specs.declared.isolation.Isolation.{Isolation}
use Rattle.pg_values.specs.declared.isolation.Isolation.TheVariants as isolation
use Rattle.pg_values.specs.declared.lock_mode.LockMode.{LockMode}
use Rattle.pg_values.specs.declared.lock_mode.LockMode.TheVariants as mode
use Rattle.sql_ast.specs.declared.setting_value.SettingValue.{SettingValue}
use Rattle.sql_ast.specs.declared.setting_value.SettingValue.TheVariants as setting
use Rattle.pg_values.specs.declared.strategy.Strategy.{Strategy}
use Rattle.pg_values.specs.declared.strategy.Strategy.TheVariants as strategy
use Rattle.sql_ast.specs.declared.table_definition.ColumnDefinition.{ColumnDefinition}
use Rattle.sql_ast.specs.declared.locked_table.LockedTable.{LockedTable}
use Rattle.sql_ast.specs.declared.table_definition.Partitioning.{Partitioning}
use Rattle.sql_written.specs.Marks.{Mark, blank, mark}
use Rattle.sql_written.specs.Spelling as spelled
use Rattle.sql_written.specs.Written as written
use Rattle.sql_written.specs.Lists.{enclosed, name_marks, names, parts, values}
use Rattle.sql_written.specs.Words.{name_unless, word}

-- BEGIN
abbrev pub level_marks : Isolation → List Mark
level_marks isolation.ReadCommitted = word kinds.Read ∷ blank ∷ word kinds.Committed ∷ []
level_marks isolation.ReadUncommitted = word kinds.Read ∷ blank ∷ word kinds.Uncommitted ∷ []
level_marks isolation.RepeatableRead = word kinds.Repeatable ∷ blank ∷ word kinds.Read ∷ []

abbrev pub isolation_marks : Option Isolation → List Mark
isolation_marks None = []
isolation_marks (Some level) = blank ∷ word kinds.Isolation ∷ blank ∷ word kinds.Level ∷ blank ∷ level_marks level

-- SET, where LOCAL is no name, and where a word may be one of three that no name is without quotes
abbrev pub is_local : TokenKind → Bool
is_local k = is k kinds.Local

abbrev pub setting_name : List ℕ → Mark
setting_name z = name_unless is_local z

abbrev pub setting_word : List ℕ → Mark
setting_word z =
    if bytes_eq z (codes "on") then word kinds.On
    else (if bytes_eq z (codes "true") then word kinds.True
    else (if bytes_eq z (codes "false") then word kinds.False
    else spelled.name z))

abbrev pub setting_marks : SettingValue → List Mark
setting_marks (setting.Word z) = setting_word z ∷ []
setting_marks (setting.Text z) = spelled.string z ∷ []
setting_marks (setting.Number z) = mark kinds.Number z ∷ []

-- PARTITION BY
abbrev pub strategy_word : Strategy → Mark
strategy_word strategy.Range = word kinds.Range
strategy_word strategy.List = word kinds.List
strategy_word strategy.Hash = word kinds.Hash

abbrev pub by_marks : Partitioning → List Mark
by_marks p = word kinds.Partition ∷ blank ∷ word kinds.By ∷ blank ∷ strategy_word p.strategy ∷ blank ∷ enclosed (names p.columns)

abbrev pub maybe_by : Option Partitioning → List Mark
maybe_by None = []
maybe_by (Some p) = blank ∷ by_marks p

-- columns
abbrev pub null_marks : Bool → List Mark
null_marks true = blank ∷ word kinds.Not ∷ blank ∷ word kinds.Null ∷ []
null_marks false = []

abbrev pub column_marks : ColumnDefinition → List Mark
column_marks c = spelled.name c.name ∷ blank ∷ spelled.name c.kind ∷ null_marks c.not_null

-- edges: a column that alone would be MINVALUE or MAXVALUE stands in quotes
abbrev pub is_end : TokenKind → Bool
is_end k = is k kinds.Minvalue || is k kinds.Maxvalue

abbrev pub edge_name : List ℕ → Mark
edge_name z = name_unless is_end z

abbrev pub value_marks : Tree → List Mark
value_marks (leaf (Column z)) = edge_name z ∷ []
value_marks e = written.marks e

abbrev pub edge_marks : Edge → List Mark
edge_marks min = word kinds.Minvalue ∷ []
edge_marks max = word kinds.Maxvalue ∷ []
edge_marks (at e) = value_marks e

abbrev pub edges : List Edge → List Mark
edges es = enclosed (parts edge_marks es)

abbrev pub hash_marks : ℕ → ℕ → List Mark
hash_marks modulus remainder =
    spelled.opening ∷ word kinds.Modulus ∷ blank ∷ spelled.number modulus ∷ spelled.comma ∷ blank ∷ word kinds.Remainder ∷ blank ∷ spelled.number remainder ∷ spelled.closing ∷ []

-- bounds
abbrev pub bound_marks : Bound → List Mark
bound_marks (range from to) = word kinds.For ∷ blank ∷ word kinds.Values ∷ blank ∷ word kinds.From ∷ blank ∷ (edges from ++ blank ∷ word kinds.To ∷ blank ∷ edges to)
bound_marks (listed ts) = word kinds.For ∷ blank ∷ word kinds.Values ∷ blank ∷ word kinds.In ∷ blank ∷ enclosed (values ts)
bound_marks (hash modulus remainder) = word kinds.For ∷ blank ∷ word kinds.Values ∷ blank ∷ word kinds.With ∷ blank ∷ hash_marks modulus remainder
bound_marks other = word kinds.Default ∷ []

-- DROP TABLE
abbrev pub exists_marks : Bool → List Mark → List Mark
exists_marks true ms = word kinds.If ∷ blank ∷ word kinds.Exists ∷ blank ∷ ms
exists_marks false ms = ms

-- DETACH
abbrev pub detachment_marks : Detachment → List Mark
detachment_marks detachment.AtOnce = []
detachment_marks detachment.Concurrently = blank ∷ word kinds.Concurrently ∷ []
detachment_marks detachment.Finalize = blank ∷ word kinds.Finalize ∷ []

-- LOCK: the strongest mode need not be said
abbrev pub only_marks : Bool → List Mark → List Mark
only_marks true ms = word kinds.Only ∷ blank ∷ ms
only_marks false ms = ms

abbrev pub locked_marks : LockedTable → List Mark
locked_marks t = only_marks t.only (name_marks t.name)

abbrev pub said_mode : List Mark → List Mark
said_mode ms = blank ∷ word kinds.In ∷ blank ∷ (ms ++ blank ∷ word kinds.Mode ∷ [])

abbrev pub mode_marks : LockMode → List Mark
mode_marks mode.AccessShare = said_mode (word kinds.Access ∷ blank ∷ word kinds.Share ∷ [])
mode_marks mode.RowShare = said_mode (word kinds.Row ∷ blank ∷ word kinds.Share ∷ [])
mode_marks mode.RowExclusive = said_mode (word kinds.Row ∷ blank ∷ word kinds.Exclusive ∷ [])
mode_marks mode.ShareUpdateExclusive = said_mode (word kinds.Share ∷ blank ∷ word kinds.Update ∷ blank ∷ word kinds.Exclusive ∷ [])
mode_marks mode.Share = said_mode (word kinds.Share ∷ [])
mode_marks mode.ShareRowExclusive = said_mode (word kinds.Share ∷ blank ∷ word kinds.Row ∷ blank ∷ word kinds.Exclusive ∷ [])
mode_marks mode.Exclusive = said_mode (word kinds.Exclusive ∷ [])
mode_marks mode.AccessExclusive = []

-- every command
abbrev pub command_marks : CommandTree → List Mark
command_marks (begins level) = word kinds.Begin ∷ isolation_marks level
command_marks commits = word kinds.Commit ∷ []
command_marks rolls_back = word kinds.Rollback ∷ []
command_marks (sets name value) = word kinds.Set ∷ blank ∷ setting_name name ∷ blank ∷ word kinds.To ∷ blank ∷ setting_marks value
command_marks (resets name) = word kinds.Reset ∷ blank ∷ spelled.name name ∷ []
command_marks (makes_table name columns by) =
    word kinds.Create ∷ blank ∷ word kinds.Table ∷ blank ∷ spelled.name name ∷ blank ∷ (enclosed (parts column_marks columns) ++ maybe_by by)
command_marks (makes_partition name parent bound by) =
    word kinds.Create ∷ blank ∷ word kinds.Table ∷ blank ∷ spelled.name name ∷ blank ∷ word kinds.Partition ∷ blank ∷ word kinds.Of ∷ blank
    ∷ spelled.name parent ∷ blank ∷ (bound_marks bound ++ maybe_by by)
command_marks (drops if_there tables) = word kinds.Drop ∷ blank ∷ word kinds.Table ∷ blank ∷ exists_marks if_there (names tables)
command_marks (attaches parent name bound) =
    word kinds.Alter ∷ blank ∷ word kinds.Table ∷ blank ∷ spelled.name parent ∷ blank ∷ word kinds.Attach ∷ blank ∷ word kinds.Partition ∷ blank
    ∷ spelled.name name ∷ blank ∷ bound_marks bound
command_marks (detaches parent name how) =
    word kinds.Alter ∷ blank ∷ word kinds.Table ∷ blank ∷ spelled.name parent ∷ blank ∷ word kinds.Detach ∷ blank ∷ word kinds.Partition ∷ blank
    ∷ spelled.name name ∷ detachment_marks how
command_marks (locks tables how) = word kinds.Lock ∷ blank ∷ word kinds.Table ∷ blank ∷ (parts locked_marks tables ++ mode_marks how)
command_marks (deallocates name) = word kinds.Deallocate ∷ blank ∷ spelled.name name ∷ []
command_marks deallocates_all = word kinds.Deallocate ∷ blank ∷ word kinds.All ∷ []
