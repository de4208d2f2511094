-- Words of statements, in capitals (Appendix C. SQL Key Words), and names where some words mean something else.
use Rattle.std.specs.Prelude.{ℕ, Bool, ◌&&◌, not, if◌then◌else◌, List, [], codes}
use Rattle.sql_tokens.specs.Words.{word_kind}
use Rattle.sql_tokens.specs.Written.{quoted}
use Rattle.sql_tokens.specs.declared.kind.TokenKind.{TokenKind}
use Rattle.sql_tokens.specs.declared.kind.TokenKind.TheVariants as kinds
use Rattle.sql_written.specs.Marks.{Mark, mark}
use Rattle.sql_written.specs.Spelling.{is_plain}

-- what is written of a word: nothing of those that are left out
abbrev pub capitals : TokenKind → List ℕ
capitals kinds.Access = codes "ACCESS"
capitals kinds.All = codes "ALL"
capitals kinds.Alter = codes "ALTER"
capitals kinds.Analyze = codes "ANALYZE"
capitals kinds.As = codes "AS"
capitals kinds.Attach = codes "ATTACH"
capitals kinds.Begin = codes "BEGIN"
capitals kinds.By = codes "BY"
capitals kinds.Commit = codes "COMMIT"
capitals kinds.Committed = codes "COMMITTED"
capitals kinds.Concurrently = codes "CONCURRENTLY"
capitals kinds.Create = codes "CREATE"
capitals kinds.Deallocate = codes "DEALLOCATE"
capitals kinds.Default = codes "DEFAULT"
capitals kinds.Delete = codes "DELETE"
capitals kinds.Desc = codes "DESC"
capitals kinds.Detach = codes "DETACH"
capitals kinds.Drop = codes "DROP"
capitals kinds.Exclusive = codes "EXCLUSIVE"
capitals kinds.Execute = codes "EXECUTE"
capitals kinds.Exists = codes "EXISTS"
capitals kinds.Explain = codes "EXPLAIN"
capitals kinds.False = codes "FALSE"
capitals kinds.Finalize = codes "FINALIZE"
capitals kinds.First = codes "FIRST"
capitals kinds.For = codes "FOR"
capitals kinds.From = codes "FROM"
capitals kinds.Hash = codes "HASH"
capitals kinds.If = codes "IF"
capitals kinds.In = codes "IN"
capitals kinds.Insert = codes "INSERT"
capitals kinds.Into = codes "INTO"
capitals kinds.Isolation = codes "ISOLATION"
capitals kinds.Join = codes "JOIN"
capitals kinds.Last = codes "LAST"
capitals kinds.Level = codes "LEVEL"
capitals kinds.Limit = codes "LIMIT"
capitals kinds.List = codes "LIST"
capitals kinds.Lock = codes "LOCK"
capitals kinds.Maxvalue = codes "MAXVALUE"
capitals kinds.Minvalue = codes "MINVALUE"
capitals kinds.Mode = codes "MODE"
capitals kinds.Modulus = codes "MODULUS"
capitals kinds.Not = codes "NOT"
capitals kinds.Null = codes "NULL"
capitals kinds.Nulls = codes "NULLS"
capitals kinds.Of = codes "OF"
capitals kinds.Offset = codes "OFFSET"
capitals kinds.On = codes "ON"
capitals kinds.Only = codes "ONLY"
capitals kinds.Order = codes "ORDER"
capitals kinds.Partition = codes "PARTITION"
capitals kinds.Prepare = codes "PREPARE"
capitals kinds.Range = codes "RANGE"
capitals kinds.Read = codes "READ"
capitals kinds.Remainder = codes "REMAINDER"
capitals kinds.Repeatable = codes "REPEATABLE"
capitals kinds.Reset = codes "RESET"
capitals kinds.Rollback = codes "ROLLBACK"
capitals kinds.Row = codes "ROW"
capitals kinds.Select = codes "SELECT"
capitals kinds.Set = codes "SET"
capitals kinds.Share = codes "SHARE"
capitals kinds.Table = codes "TABLE"
capitals kinds.To = codes "TO"
capitals kinds.True = codes "TRUE"
capitals kinds.Uncommitted = codes "UNCOMMITTED"
capitals kinds.Update = codes "UPDATE"
capitals kinds.Values = codes "VALUES"
capitals kinds.Where = codes "WHERE"
capitals kinds.With = codes "WITH"
capitals _ = []

abbrev pub word : TokenKind → Mark
word k = mark k (capitals k)

-- a name, in quotes also where it would be one of these words
abbrev pub name_unless : (TokenKind → Bool) → List ℕ → Mark
name_unless c z = if is_plain z && not (c (word_kind z)) then mark (word_kind z) z else mark kinds.QuotedName (quoted 34 z)
