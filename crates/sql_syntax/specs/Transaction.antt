-- How transactions begin and end (VI. SQL Commands: BEGIN, COMMIT, ROLLBACK).
use Rattle.std.specs.Prelude.{◌||◌, if◌then◌else◌, Option, None}
use Rattle.grammar.specs.Reading.{Class, Rule, one, as_value, either, optional}
use Rattle.sql_tokens.specs.declared.kind.TokenKind.TheVariants as word
use Rattle.sql_tokens.specs.declared.token.Token.{Token}
use Rattle.grammar.specs.Words.{◌>>◌, ◌&◌, one_of, means, maybe}
use Rattle.sql_tokens.specs.Classes.{a}
use Rattle.sql_ast.specs.Commands.{CommandTree, begins, commits, rolls_back}
use Rattle.pg_values.specs.declared.isolation.Isolation.{Isolation}
use Rattle.pg_values.specs.declared.isolation.Isolation.TheVariants as isolation

-- [ "WORK" | "TRANSACTION" ]
abbrev pub is_noise : Class Token
is_noise = one_of (a word.Work) (a word.Transaction)

abbrev pub noise : Rule Token (Option Token)
noise = maybe is_noise

-- "READ" ( "COMMITTED" | "UNCOMMITTED" ) | "REPEATABLE" "READ"
abbrev pub committed_or_not : Rule Token Isolation
committed_or_not = either (a word.Committed) (means isolation.ReadCommitted (one (a word.Committed))) (means isolation.ReadUncommitted (one (a word.Uncommitted)))

abbrev pub level : Rule Token Isolation
level = either (a word.Read) (a word.Read >> committed_or_not) (means isolation.RepeatableRead (a word.Repeatable >> one (a word.Read)))

-- [ "ISOLATION" "LEVEL" level ]
abbrev pub isolation_level : Rule Token (Option Isolation)
isolation_level = optional (a word.Isolation) (a word.Isolation >> a word.Level >> level)

-- begin = ( "BEGIN" [ "WORK" | "TRANSACTION" ] | "START" "TRANSACTION" ) isolation_level
abbrev pub begins_begin : Class Token
begins_begin = one_of (a word.Begin) (a word.Start)

abbrev pub begin_words : Rule Token (Option Token)
begin_words = either (a word.Begin) (a word.Begin >> noise) (means None (a word.Start >> one (a word.Transaction)))

abbrev pub begin : Rule Token CommandTree
begin = as_value (λ (x : Option Token × Option Isolation). begins x.1) (begin_words & isolation_level)

-- finish = ( "COMMIT" | "END" | "ROLLBACK" | "ABORT" ) [ "WORK" | "TRANSACTION" ]
abbrev pub is_commit : Class Token
is_commit = one_of (a word.Commit) (a word.End)

abbrev pub is_rollback : Class Token
is_rollback = one_of (a word.Rollback) (a word.Abort)

abbrev pub is_finish : Class Token
is_finish t = is_commit t || is_rollback t

abbrev pub finished : Token × Option Token → CommandTree
finished x = if is_commit x.0 then commits else rolls_back

abbrev pub finish : Rule Token CommandTree
finish = as_value finished (one is_finish & noise)
