-- Kinds by number, and the words that have a kind of their own (4.1.1 Identifiers and Key Words, and Appendix C).
use Rattle.std.specs.Prelude.{ℕ, Bool, ◌&&◌, ◌||◌, if◌then◌else◌, ◌==◌, nat_eq, nat_le, nat_lt, List, [], ◌∷◌, length, codes}
use Rattle.std.specs.Str.{str_eq_ignore_ascii_case}
use denote.Enum.Declared.{tag_of}
use Rattle.sql_tokens.specs.contracts.kind.TokenKind.{the_type}
use Rattle.sql_tokens.specs.declared.kind.TokenKind.{TokenKind}
use Rattle.sql_tokens.specs.declared.kind.TokenKind.TheVariants as kinds
use Rattle.sql_tokens.specs.declared.kind.TheConstants.{FIRST_KEPT, FIRST_LEFT_OUT, FIRST_RESERVED}

-- the place of a kind in the enum
abbrev pub code : TokenKind → ℕ
code k = tag_of the_type k

-- whether two kinds are the same
abbrev pub is : TokenKind → TokenKind → Bool
is k j = nat_eq (code k) (code j)

-- a name, a quoted name, or a word that is not reserved
abbrev pub is_name : TokenKind → Bool
is_name k = nat_lt (code k) (code FIRST_RESERVED) || (is k kinds.Name || is k kinds.QuotedName)

-- a word of a statement or clause that is left out, `::`, or a number with a point or an exponent
abbrev pub is_left_out : TokenKind → Bool
is_left_out k = (nat_le (code FIRST_LEFT_OUT) (code k) && nat_lt (code k) (code FIRST_KEPT)) || (is k kinds.Decimal || is k kinds.TypeCast)

-- every kind, in order
abbrev pub kinds_list : List TokenKind
kinds_list =
    kinds.Abort ∷ kinds.Access ∷ kinds.Alter ∷ kinds.Attach ∷ kinds.Begin ∷ kinds.Between ∷ kinds.By ∷ kinds.Cascade ∷
    kinds.Commit ∷ kinds.Committed ∷ kinds.Concurrently ∷ kinds.Costs ∷ kinds.Date ∷ kinds.Deallocate ∷ kinds.Delete ∷ kinds.Detach ∷
    kinds.Drop ∷ kinds.End ∷ kinds.Exclusive ∷ kinds.Execute ∷ kinds.Explain ∷ kinds.Finalize ∷ kinds.First ∷ kinds.Hash ∷
    kinds.Insert ∷ kinds.Int ∷ kinds.Isolation ∷ kinds.Last ∷ kinds.Level ∷ kinds.List ∷ kinds.Lock ∷ kinds.Maxvalue ∷
    kinds.Minvalue ∷ kinds.Mode ∷ kinds.Modulus ∷ kinds.Nulls ∷ kinds.Of ∷ kinds.Off ∷ kinds.Partition ∷ kinds.Prepare ∷
    kinds.Range ∷ kinds.Read ∷ kinds.Regclass ∷ kinds.Remainder ∷ kinds.Repeatable ∷ kinds.Reset ∷ kinds.Restrict ∷ kinds.Rollback ∷
    kinds.Row ∷ kinds.Set ∷ kinds.Share ∷ kinds.Start ∷ kinds.Summary ∷ kinds.Tableoid ∷ kinds.Timing ∷ kinds.Uncommitted ∷
    kinds.Update ∷ kinds.Work ∷ kinds.Exists ∷ kinds.If ∷ kinds.Local ∷ kinds.Transaction ∷ kinds.Values ∷ kinds.LeftName ∷
    kinds.Analyze ∷ kinds.Create ∷ kinds.Default ∷ kinds.For ∷ kinds.From ∷ kinds.On ∷ kinds.Only ∷ kinds.Select ∷
    kinds.To ∷ kinds.With ∷ kinds.LeftReserved ∷ kinds.All ∷ kinds.And ∷ kinds.As ∷ kinds.Asc ∷ kinds.Desc ∷
    kinds.False ∷ kinds.In ∷ kinds.Inner ∷ kinds.Into ∷ kinds.Is ∷ kinds.Join ∷ kinds.Limit ∷ kinds.Not ∷
    kinds.Null ∷ kinds.Offset ∷ kinds.Or ∷ kinds.Order ∷ kinds.Table ∷ kinds.True ∷ kinds.Where ∷ kinds.Name ∷
    kinds.QuotedName ∷ kinds.Text ∷ kinds.Number ∷ kinds.Decimal ∷ kinds.Parameter ∷ kinds.OpenParenthesis ∷ kinds.CloseParenthesis ∷ kinds.Comma ∷
    kinds.Semicolon ∷ kinds.Dot ∷ kinds.Equal ∷ kinds.NotEqual ∷ kinds.Less ∷ kinds.LessEqual ∷ kinds.Greater ∷ kinds.GreaterEqual ∷
    kinds.Plus ∷ kinds.Minus ∷ kinds.Star ∷ kinds.Slash ∷ kinds.Percent ∷ kinds.TypeCast ∷ kinds.Fault ∷ []

-- the words of each length, with their kinds
abbrev pub two : List (List ℕ × TokenKind)
two =
    (codes "by", kinds.By) ∷ (codes "of", kinds.Of) ∷ (codes "if", kinds.If) ∷ (codes "on", kinds.On) ∷ (codes "to", kinds.To) ∷
    (codes "do", kinds.LeftReserved) ∷ (codes "as", kinds.As) ∷ (codes "in", kinds.In) ∷ (codes "is", kinds.Is) ∷ (codes "or", kinds.Or) ∷
    []

abbrev pub three : List (List ℕ × TokenKind)
three =
    (codes "end", kinds.End) ∷ (codes "int", kinds.Int) ∷ (codes "off", kinds.Off) ∷ (codes "row", kinds.Row) ∷ (codes "set", kinds.Set) ∷
    (codes "for", kinds.For) ∷ (codes "all", kinds.All) ∷ (codes "and", kinds.And) ∷ (codes "asc", kinds.Asc) ∷ (codes "not", kinds.Not) ∷
    []

abbrev pub four : List (List ℕ × TokenKind)
four =
    (codes "date", kinds.Date) ∷ (codes "drop", kinds.Drop) ∷ (codes "hash", kinds.Hash) ∷ (codes "last", kinds.Last) ∷ (codes "list", kinds.List) ∷
    (codes "lock", kinds.Lock) ∷ (codes "mode", kinds.Mode) ∷ (codes "read", kinds.Read) ∷ (codes "work", kinds.Work) ∷ (codes "call", kinds.LeftName) ∷
    (codes "copy", kinds.LeftName) ∷ (codes "rule", kinds.LeftName) ∷ (codes "show", kinds.LeftName) ∷ (codes "temp", kinds.LeftName) ∷ (codes "view", kinds.LeftName) ∷
    (codes "from", kinds.From) ∷ (codes "only", kinds.Only) ∷ (codes "with", kinds.With) ∷ (codes "case", kinds.LeftReserved) ∷ (codes "cast", kinds.LeftReserved) ∷
    (codes "full", kinds.LeftReserved) ∷ (codes "left", kinds.LeftReserved) ∷ (codes "like", kinds.LeftReserved) ∷ (codes "desc", kinds.Desc) ∷ (codes "into", kinds.Into) ∷
    (codes "join", kinds.Join) ∷ (codes "null", kinds.Null) ∷ (codes "true", kinds.True) ∷ []

abbrev pub five : List (List ℕ × TokenKind)
five =
    (codes "abort", kinds.Abort) ∷ (codes "alter", kinds.Alter) ∷ (codes "begin", kinds.Begin) ∷ (codes "costs", kinds.Costs) ∷ (codes "first", kinds.First) ∷
    (codes "level", kinds.Level) ∷ (codes "nulls", kinds.Nulls) ∷ (codes "range", kinds.Range) ∷ (codes "reset", kinds.Reset) ∷ (codes "share", kinds.Share) ∷
    (codes "start", kinds.Start) ∷ (codes "local", kinds.Local) ∷ (codes "close", kinds.LeftName) ∷ (codes "index", kinds.LeftName) ∷ (codes "merge", kinds.LeftName) ∷
    (codes "check", kinds.LeftReserved) ∷ (codes "cross", kinds.LeftReserved) ∷ (codes "fetch", kinds.LeftReserved) ∷ (codes "grant", kinds.LeftReserved) ∷ (codes "group", kinds.LeftReserved) ∷
    (codes "ilike", kinds.LeftReserved) ∷ (codes "outer", kinds.LeftReserved) ∷ (codes "right", kinds.LeftReserved) ∷ (codes "union", kinds.LeftReserved) ∷ (codes "using", kinds.LeftReserved) ∷
    (codes "false", kinds.False) ∷ (codes "inner", kinds.Inner) ∷ (codes "limit", kinds.Limit) ∷ (codes "order", kinds.Order) ∷ (codes "table", kinds.Table) ∷
    (codes "where", kinds.Where) ∷ []

abbrev pub six : List (List ℕ × TokenKind)
six =
    (codes "access", kinds.Access) ∷ (codes "attach", kinds.Attach) ∷ (codes "commit", kinds.Commit) ∷ (codes "delete", kinds.Delete) ∷ (codes "detach", kinds.Detach) ∷
    (codes "insert", kinds.Insert) ∷ (codes "timing", kinds.Timing) ∷ (codes "update", kinds.Update) ∷ (codes "exists", kinds.Exists) ∷ (codes "values", kinds.Values) ∷
    (codes "listen", kinds.LeftName) ∷ (codes "notify", kinds.LeftName) ∷ (codes "nowait", kinds.LeftName) ∷ (codes "revoke", kinds.LeftName) ∷ (codes "vacuum", kinds.LeftName) ∷
    (codes "create", kinds.Create) ∷ (codes "select", kinds.Select) ∷ (codes "except", kinds.LeftReserved) ∷ (codes "having", kinds.LeftReserved) ∷ (codes "unique", kinds.LeftReserved) ∷
    (codes "window", kinds.LeftReserved) ∷ (codes "offset", kinds.Offset) ∷ []

abbrev pub seven : List (List ℕ × TokenKind)
seven =
    (codes "between", kinds.Between) ∷ (codes "cascade", kinds.Cascade) ∷ (codes "execute", kinds.Execute) ∷ (codes "explain", kinds.Explain) ∷ (codes "modulus", kinds.Modulus) ∷
    (codes "prepare", kinds.Prepare) ∷ (codes "summary", kinds.Summary) ∷ (codes "buffers", kinds.LeftName) ∷ (codes "cluster", kinds.LeftName) ∷ (codes "comment", kinds.LeftName) ∷
    (codes "declare", kinds.LeftName) ∷ (codes "exclude", kinds.LeftName) ∷ (codes "include", kinds.LeftName) ∷ (codes "release", kinds.LeftName) ∷ (codes "trigger", kinds.LeftName) ∷
    (codes "verbose", kinds.LeftName) ∷ (codes "analyze", kinds.Analyze) ∷ (codes "default", kinds.Default) ∷ (codes "collate", kinds.LeftReserved) ∷ (codes "foreign", kinds.LeftReserved) ∷
    (codes "natural", kinds.LeftReserved) ∷ (codes "primary", kinds.LeftReserved) ∷ (codes "similar", kinds.LeftReserved) ∷ []

abbrev pub eight : List (List ℕ × TokenKind)
eight =
    (codes "finalize", kinds.Finalize) ∷ (codes "maxvalue", kinds.Maxvalue) ∷ (codes "minvalue", kinds.Minvalue) ∷ (codes "regclass", kinds.Regclass) ∷ (codes "restrict", kinds.Restrict) ∷
    (codes "rollback", kinds.Rollback) ∷ (codes "tableoid", kinds.Tableoid) ∷ (codes "function", kinds.LeftName) ∷ (codes "inherits", kinds.LeftName) ∷ (codes "prepared", kinds.LeftName) ∷
    (codes "truncate", kinds.LeftName) ∷ (codes "unlogged", kinds.LeftName) ∷ (codes "distinct", kinds.LeftReserved) ∷ []

abbrev pub nine : List (List ℕ × TokenKind)
nine =
    (codes "committed", kinds.Committed) ∷ (codes "exclusive", kinds.Exclusive) ∷ (codes "isolation", kinds.Isolation) ∷ (codes "partition", kinds.Partition) ∷ (codes "remainder", kinds.Remainder) ∷
    (codes "generated", kinds.LeftName) ∷ (codes "recursive", kinds.LeftName) ∷ (codes "savepoint", kinds.LeftName) ∷ (codes "temporary", kinds.LeftName) ∷ (codes "intersect", kinds.LeftReserved) ∷
    (codes "returning", kinds.LeftReserved) ∷ []

abbrev pub ten : List (List ℕ × TokenKind)
ten =
    (codes "deallocate", kinds.Deallocate) ∷ (codes "repeatable", kinds.Repeatable) ∷ (codes "constraint", kinds.LeftReserved) ∷ (codes "references", kinds.LeftReserved) ∷ []

abbrev pub eleven : List (List ℕ × TokenKind)
eleven =
    (codes "uncommitted", kinds.Uncommitted) ∷ (codes "transaction", kinds.Transaction) ∷ (codes "tablesample", kinds.LeftReserved) ∷ []

abbrev pub twelve : List (List ℕ × TokenKind)
twelve =
    (codes "concurrently", kinds.Concurrently) ∷ (codes "materialized", kinds.LeftName) ∷ (codes "serializable", kinds.LeftName) ∷ []

abbrev pub words_of : ℕ → List (List ℕ × TokenKind)
words_of n =
    if n == 2 then two
    else (if n == 3 then three
    else (if n == 4 then four
    else (if n == 5 then five
    else (if n == 6 then six
    else (if n == 7 then seven
    else (if n == 8 then eight
    else (if n == 9 then nine
    else (if n == 10 then ten
    else (if n == 11 then eleven
    else (if n == 12 then twelve
    else []))))))))))

-- the kind that a list gives to a word, in any case of letters; what is no word is a name
abbrev pub look_up : List (List ℕ × TokenKind) → List ℕ → TokenKind
look_up [] word = kinds.Name
look_up (w ∷ ws) word = if str_eq_ignore_ascii_case w.0 word then w.1 else look_up ws word

unfoldable pub word_kind : List ℕ → TokenKind
word_kind word = look_up (words_of (length word)) word
