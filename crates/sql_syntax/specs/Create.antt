-- Tables and partitions (VI. SQL Commands: CREATE TABLE).
use Rattle.std.specs.Prelude.{ℕ, Bool, true, false, ◌||◌, if◌then◌else◌, List, Option}
use Rattle.grammar.specs.Reading.{Class, Rule, one, nothing, follow, as_value, either, optional}
use Rattle.grammar.specs.Repeats.{second_of}
use Rattle.sql_tokens.specs.declared.kind.TokenKind.TheVariants as word
use Rattle.sql_tokens.specs.declared.token.Token.{Token}
use Rattle.grammar.specs.Words.{◌>>◌, ◌&◌, means}
use Rattle.sql_tokens.specs.Classes.{a}
use Rattle.sql_expressions.specs.Words.{name}
use Rattle.sql_expressions.specs.Lists.{in_parentheses, commas, plain_name}
use Rattle.sql_ast.specs.Commands.{Bound, CommandTree, makes_table, makes_partition}
use Rattle.pg_values.specs.declared.strategy.Strategy.{Strategy}
use Rattle.pg_values.specs.declared.strategy.Strategy.TheVariants as strategy
use Rattle.sql_ast.specs.declared.table_definition.ColumnDefinition.{ColumnDefinition}
use Rattle.sql_ast.specs.declared.table_definition.Partitioning.{Partitioning}
use Rattle.sql_syntax.specs.Bound.{bound}

-- by = "PARTITION" "BY" ( "RANGE" | "LIST" | "HASH" ) "(" name { "," name } ")"
abbrev pub is_strategy : Class Token
is_strategy t = a word.Range t || (a word.List t || a word.Hash t)

abbrev pub strategy_of : Token → Strategy
strategy_of t = if a word.Range t then strategy.Range else (if a word.List t then strategy.List else strategy.Hash)

abbrev pub strategy_rule : Rule Token Strategy
strategy_rule = as_value strategy_of (one is_strategy)

abbrev pub partitioning : Strategy × List (List ℕ) → Partitioning
partitioning x = record { strategy = x.0; columns = x.1 }

abbrev pub by : List ℕ → Rule Token Partitioning
by text = as_value partitioning (a word.Partition >> a word.By >> strategy_rule & in_parentheses (commas (plain_name text)))

abbrev pub maybe_by : List ℕ → Rule Token (Option Partitioning)
maybe_by text = optional (a word.Partition) (by text)

-- column = name name [ "NOT" "NULL" | "NULL" ]
abbrev pub null_or_not : Rule Token Bool
null_or_not =
    either (a word.Not) (means true (a word.Not >> one (a word.Null)))
    (either (a word.Null) (means false (one (a word.Null))) (nothing false))

abbrev pub column_value : List ℕ × (List ℕ × Bool) → ColumnDefinition
column_value x = record { name = x.0; kind = x.1.0; not_null = x.1.1 }

abbrev pub column : List ℕ → Rule Token ColumnDefinition
column text = as_value column_value (plain_name text & plain_name text & null_or_not)

-- create = "CREATE" "TABLE" name ( "(" column { "," column } ")" [ by ] | "PARTITION" "OF" name bound [ by ] )
abbrev pub table_value : List ℕ → List ColumnDefinition × Option Partitioning → CommandTree
table_value name x = makes_table name x.0 x.1

abbrev pub columns : List ℕ → List ℕ → Rule Token CommandTree
columns text name = as_value (table_value name) (in_parentheses (commas (column text)) & maybe_by text)

abbrev pub partition_value : List ℕ → List ℕ × (Bound × Option Partitioning) → CommandTree
partition_value name x = makes_partition name x.0 x.1.0 x.1.1

abbrev pub partition_of : List ℕ → List ℕ → Rule Token CommandTree
partition_of text name = as_value (partition_value name) (a word.Partition >> a word.Of >> plain_name text & bound text & maybe_by text)

abbrev pub made : List ℕ → List ℕ → Rule Token CommandTree
made text name = either (a word.OpenParenthesis) (columns text name) (partition_of text name)

abbrev pub create : List ℕ → Rule Token CommandTree
create text = as_value second_of (a word.Create >> a word.Table >> follow (plain_name text) (made text))
