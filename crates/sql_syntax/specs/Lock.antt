-- LOCK (VI. SQL Commands).
use Rattle.std.specs.Prelude.{ℕ, true, false, if◌then◌else◌, List, Option, Some, None}
use Rattle.grammar.specs.Reading.{Class, Rule, one, nothing, as_value, either}
use Rattle.sql_tokens.specs.declared.kind.TokenKind.TheVariants as word
use Rattle.sql_tokens.specs.declared.token.Token.{Token}
use Rattle.grammar.specs.Words.{◌>>◌, ◌<<◌, ◌&◌, one_of, means, maybe}
use Rattle.sql_tokens.specs.Classes.{a}
use Rattle.sql_expressions.specs.Words.{name}
use Rattle.sql_expressions.specs.Lists.{commas, plain_name}
use Rattle.sql_ast.specs.Commands.{CommandTree, locks}
use Rattle.pg_values.specs.declared.lock_mode.LockMode.{LockMode}
use Rattle.pg_values.specs.declared.lock_mode.LockMode.TheVariants as mode
use Rattle.sql_ast.specs.declared.locked_table.LockedTable.{LockedTable}

-- lock = "LOCK" [ "TABLE" ] [ "ONLY" ] name { "," [ "ONLY" ] name } [ "IN" mode "MODE" ]
abbrev pub locked_value : Option Token × List ℕ → LockedTable
locked_value (None, n) = record { only = false; name = n }
locked_value (Some t, n) = record { only = true; name = n }

abbrev pub locked : List ℕ → Rule Token LockedTable
locked text = as_value locked_value (maybe (a word.Only) & plain_name text)

-- behind SHARE: [ "UPDATE" "EXCLUSIVE" | "ROW" "EXCLUSIVE" ]
abbrev pub behind_share : Rule Token LockMode
behind_share =
    either (a word.Update) (means mode.ShareUpdateExclusive (a word.Update >> one (a word.Exclusive)))
    (either (a word.Row) (means mode.ShareRowExclusive (a word.Row >> one (a word.Exclusive))) (nothing mode.Share))

-- "SHARE" | "EXCLUSIVE"
abbrev pub is_share_or_exclusive : Class Token
is_share_or_exclusive = one_of (a word.Share) (a word.Exclusive)

abbrev pub shared_or : LockMode → LockMode → Token → LockMode
shared_or share exclusive t = if a word.Share t then share else exclusive

abbrev pub share_or_exclusive : LockMode → LockMode → Rule Token LockMode
share_or_exclusive share exclusive = as_value (shared_or share exclusive) (one is_share_or_exclusive)

-- mode: one of the eight
abbrev pub lock_mode : Rule Token LockMode
lock_mode =
    either (a word.Access) (a word.Access >> share_or_exclusive mode.AccessShare mode.AccessExclusive)
    (either (a word.Row) (a word.Row >> share_or_exclusive mode.RowShare mode.RowExclusive)
    (either (a word.Share) (a word.Share >> behind_share)
    (means mode.Exclusive (one (a word.Exclusive)))))

abbrev pub maybe_mode : Rule Token LockMode
maybe_mode = either (a word.In) (a word.In >> lock_mode << a word.Mode) (nothing mode.AccessExclusive)

abbrev pub lock_value : Option Token × (List LockedTable × LockMode) → CommandTree
lock_value x = locks x.1.0 x.1.1

abbrev pub lock : List ℕ → Rule Token CommandTree
lock text = as_value lock_value (a word.Lock >> maybe (a word.Table) & commas (locked text) & maybe_mode)
