-- The grammar of queries (VI. SQL Commands: SELECT, INSERT, UPDATE, DELETE, PREPARE, EXECUTE, EXPLAIN).
-- What a name says stands in the text, so rules of names take the text.
use Rattle.std.specs.Prelude.{ℕ, Bool, true, false, ◌||◌, List, [], ◌∷◌, Option, Some, None}
use Rattle.std.specs.List.{list_any}
use Rattle.grammar.specs.Reading.{Class, Rule, one, nothing, follow, as_value, either, optional}
use Rattle.grammar.specs.Repeats.{second_of, many, chain_after}
use Rattle.sql_tokens.specs.Contents.{name_in}
use Rattle.sql_tokens.specs.declared.kind.TokenKind.TheVariants as word
use Rattle.sql_tokens.specs.declared.token.Token.{Token}
use Rattle.sql_expressions.specs.Grammar.{expression}
use Rattle.sql_ast.specs.Expressions.{Tree, Trees, no_more, listed}
use Rattle.grammar.specs.Words.{◌>>◌, ◌&◌, one_of, means, maybe, only, snoc}
use Rattle.sql_tokens.specs.Classes.{a, a_name}
use Rattle.sql_expressions.specs.Lists.{in_parentheses, commas, more_commas, plain_name, name_but, other_name}
use Rattle.sql_ast.specs.Queries.{Item, Joined, Key, Setting, SelectTree, selected, RowTree, selects, inserts, updates, deletes, QueryTree, rows, prepares, executes, explains_select, explains_execute}
use Rattle.sql_syntax.specs.Items.{item}
use Rattle.sql_ast.specs.declared.named_table.NamedTable.{NamedTable}

-- tab = name [ [ "AS" ] name ]
abbrev pub table_alias : List ℕ → Rule Token (Option (List ℕ))
table_alias text = either (a word.As) (as_value Some (a word.As >> plain_name text)) (optional a_name (plain_name text))

abbrev pub table_value : List ℕ × Option (List ℕ) → NamedTable
table_value x = record { name = x.0; alias = x.1 }

abbrev pub named_table : List ℕ → Rule Token NamedTable
named_table text = as_value table_value (plain_name text & table_alias text)

-- from = tab { "," tab | [ "INNER" ] "JOIN" tab "ON" expr }
abbrev pub alone : NamedTable → Joined
alone x = (x, None)

abbrev pub on_condition : NamedTable × Tree → Joined
on_condition x = (x.0, Some x.1)

abbrev pub joined_table : List ℕ → Rule Token Joined
joined_table text = as_value on_condition (a word.Join >> named_table text & a word.On >> expression text)

abbrev pub is_joint : Class Token
is_joint t = a word.Comma t || (a word.Inner t || a word.Join t)

abbrev pub joint : List ℕ → Rule Token Joined
joint text = either (a word.Comma) (as_value alone (a word.Comma >> named_table text)) (either (a word.Inner) (a word.Inner >> joined_table text) (joined_table text))

abbrev pub tables_value : NamedTable × List Joined → List Joined
tables_value x = alone x.0 ∷ x.1

abbrev pub tables : List ℕ → Rule Token (List Joined)
tables text = as_value tables_value (named_table text & many is_joint (joint text))

abbrev pub from : List ℕ → Rule Token (List Joined)
from text = either (a word.From) (a word.From >> tables text) (nothing [])

-- [ "WHERE" expr ]
abbrev pub condition : List ℕ → Rule Token (Option Tree)
condition text = optional (a word.Where) (a word.Where >> expression text)

-- key = expr [ "ASC" | "DESC" ] [ "NULLS" ( "FIRST" | "LAST" ) ], where nulls come first behind DESC if nothing else is said
abbrev pub is_direction : Class Token
is_direction = one_of (a word.Asc) (a word.Desc)

abbrev pub is_end : Class Token
is_end = one_of (a word.First) (a word.Last)

abbrev pub nulls : Rule Token (Option Token)
nulls = optional (a word.Nulls) (a word.Nulls >> one is_end)

abbrev pub descends : Option Token → Bool
descends None = false
descends (Some t) = a word.Desc t

abbrev pub are_first : Bool → Option Token → Bool
are_first descending None = descending
are_first descending (Some t) = a word.First t

abbrev pub key_value : Tree × (Option Token × Option Token) → Key
key_value x = (x.0, (descends x.1.0, are_first (descends x.1.0) x.1.1))

abbrev pub key : List ℕ → Rule Token Key
key text = as_value key_value (expression text & maybe is_direction & nulls)

-- [ "ORDER" "BY" key { "," key } ] [ "LIMIT" ( expr | "ALL" ) ] [ "OFFSET" expr ]
abbrev pub order : List ℕ → Rule Token (List Key)
order text = either (a word.Order) (a word.Order >> a word.By >> commas (key text)) (nothing [])

abbrev pub count : List ℕ → Rule Token (Option Tree)
count text = either (a word.All) (means None (one (a word.All))) (as_value Some (expression text))

abbrev pub limit : List ℕ → Rule Token (Option Tree)
limit text = either (a word.Limit) (a word.Limit >> count text) (nothing None)

abbrev pub offset : List ℕ → Rule Token (Option Tree)
offset text = optional (a word.Offset) (a word.Offset >> expression text)

-- select = "SELECT" item { "," item } [ "FROM" from ] [ "WHERE" expr ] order limit offset
abbrev pub select_value : List Item × (List Joined × (Option Tree × (List Key × (Option Tree × Option Tree)))) → SelectTree
select_value x = selected x.0 x.1.0 x.1.1.0 x.1.1.1.0 x.1.1.1.1.0 x.1.1.1.1.1

abbrev pub select : List ℕ → Rule Token SelectTree
select text = as_value select_value (a word.Select >> commas (item text) & from text & condition text & order text & limit text & offset text)

-- insert = "INSERT" "INTO" name [ "(" name { "," name } ")" ] "VALUES" row { "," row }
-- row = "(" expr { "," expr } ")"
abbrev pub columns : List ℕ → Rule Token (Option (List (List ℕ)))
columns text = optional (a word.OpenParenthesis) (in_parentheses (commas (plain_name text)))

abbrev pub row : List ℕ → Rule Token Trees
row text = as_value listed (in_parentheses (commas (expression text)))

abbrev pub insert_value : List ℕ × (Option (List (List ℕ)) × List Trees) → RowTree
insert_value x = inserts x.0 x.1.0 x.1.1

abbrev pub insert : List ℕ → Rule Token RowTree
insert text = as_value insert_value (a word.Insert >> a word.Into >> plain_name text & columns text & a word.Values >> commas (row text))

-- update = "UPDATE" tab "SET" name "=" expr { "," name "=" expr } [ "WHERE" expr ], where no word SET is too long
abbrev pub set_alias : List ℕ → Rule Token (Option (List ℕ))
set_alias text = either (a word.As) (as_value Some (a word.As >> plain_name text)) (optional a_name (name_but text word.Set))

abbrev pub assignment : List ℕ → Rule Token Setting
assignment text = name_but text word.Set & a word.Equal >> expression text

abbrev pub update_value : (List ℕ × (Option (List ℕ) × List Setting)) × Option Tree → RowTree
update_value x = updates (table_value (x.0.0, x.0.1.0)) x.0.1.1 x.1

abbrev pub update_texts : List ℕ → Rule Token (List ℕ × (Option (List ℕ) × List Setting))
update_texts text = a word.Update >> plain_name text & set_alias text & a word.Set >> commas (assignment text)

-- The reader: SET may be an alias and a column. Behind the table's name a word SET is read first, then another.
-- Behind two of them "=" says that the second is a column, and else the first is the alias.
abbrev pub behind_alias : List ℕ → List ℕ → Rule Token (Option (List ℕ) × List Setting)
behind_alias text alias = as_value (λ (xs : List Setting). (Some alias, xs)) (a word.Set >> commas (assignment text))

abbrev pub aliased : List ℕ → Rule Token (Option (List ℕ) × List Setting)
aliased text = as_value second_of (a word.As >> follow (plain_name text) (behind_alias text))

abbrev pub named_so : List ℕ → Rule Token (Option (List ℕ) × List Setting)
named_so text = as_value second_of (follow (other_name text word.Set) (behind_alias text))

abbrev pub unaliased : List Setting → Option (List ℕ) × List Setting
unaliased xs = (None, xs)

-- the first column is SET
abbrev pub more_settings : List ℕ → Token → Tree → Rule Token (List Setting)
more_settings text t e = more_commas (assignment text) ((name_in text t, e) ∷ [])

abbrev pub column_set : List ℕ → Token → Rule Token (Option (List ℕ) × List Setting)
column_set text t = as_value (λ (x : Tree × List Setting). unaliased x.1) (a word.Equal >> follow (expression text) (more_settings text t))

-- the alias is SET
abbrev pub alias_set : List ℕ → Token → Rule Token (Option (List ℕ) × List Setting)
alias_set text t = as_value (λ (xs : List Setting). (Some (name_in text t), xs)) (commas (assignment text))

abbrev pub behind_two : List ℕ → Token → Token → Rule Token (Option (List ℕ) × List Setting)
behind_two text t u = either (a word.Equal) (column_set text u) (alias_set text t)

-- the first column is another
abbrev pub other_assignment : List ℕ → Rule Token Setting
other_assignment text = other_name text word.Set & a word.Equal >> expression text

abbrev pub other_first : List ℕ → Rule Token (Option (List ℕ) × List Setting)
other_first text = as_value unaliased (chain_after (a word.Comma) only snoc (other_assignment text) (assignment text))

abbrev pub behind_set : List ℕ → Token → Rule Token (Option (List ℕ) × List Setting)
behind_set text t = either (a word.Set) (as_value second_of (follow (one (a word.Set)) (behind_two text t))) (other_first text)

abbrev pub behind_table : List ℕ → Rule Token (Option (List ℕ) × List Setting)
behind_table text = either (a word.As) (aliased text) (either (a word.Set) (as_value second_of (follow (one (a word.Set)) (behind_set text))) (named_so text))

abbrev pub update_reader : List ℕ → Rule Token (List ℕ × (Option (List ℕ) × List Setting))
update_reader text = a word.Update >> plain_name text & behind_table text

abbrev pub settings : List ℕ → Rule Token (List ℕ × (Option (List ℕ) × List Setting))
settings text = record { texts = (update_texts text).texts; free = (update_texts text).free; read = (update_reader text).read }

abbrev pub update : List ℕ → Rule Token RowTree
update text = as_value update_value (settings text & condition text)

-- delete = "DELETE" "FROM" tab [ "WHERE" expr ]
abbrev pub delete_value : NamedTable × Option Tree → RowTree
delete_value x = deletes x.0 x.1

abbrev pub delete : List ℕ → Rule Token RowTree
delete text = as_value delete_value (a word.Delete >> a word.From >> named_table text & condition text)

-- select | insert | update | delete
abbrev pub row_statement : List ℕ → Rule Token RowTree
row_statement text =
    either (a word.Select) (as_value selects (select text))
    (either (a word.Insert) (insert text) (either (a word.Update) (update text) (delete text)))

-- prepare = "PREPARE" name [ "(" name { "," name } ")" ] "AS" ( select | insert | update | delete ), where TRANSACTION is no name
abbrev pub kinds : List ℕ → Rule Token (List (List ℕ))
kinds text = either (a word.OpenParenthesis) (in_parentheses (commas (plain_name text))) (nothing [])

abbrev pub prepare_value : List ℕ × (List (List ℕ) × RowTree) → QueryTree
prepare_value x = prepares x.0 x.1.0 x.1.1

abbrev pub prepare : List ℕ → Rule Token QueryTree
prepare text = as_value prepare_value (a word.Prepare >> other_name text word.Transaction & kinds text & a word.As >> row_statement text)

-- execute = "EXECUTE" name [ "(" expr { "," expr } ")" ]
abbrev pub arguments : List ℕ → Rule Token Trees
arguments text = either (a word.OpenParenthesis) (as_value listed (in_parentheses (commas (expression text)))) (nothing no_more)

abbrev pub execute : List ℕ → Rule Token (List ℕ × Trees)
execute text = a word.Execute >> plain_name text & arguments text

-- explain = "EXPLAIN" [ "ANALYZE" | "(" option { "," option } ")" ] ( select | execute )
-- option = "ANALYZE" | ( "COSTS" | "TIMING" | "SUMMARY" ) "OFF"
abbrev pub is_plain_option : Class Token
is_plain_option t = a word.Costs t || one_of (a word.Timing) (a word.Summary) t

abbrev pub option : Rule Token Bool
option = either (a word.Analyze) (means true (one (a word.Analyze))) (means false (one is_plain_option & one (a word.Off)))

abbrev pub has_true : List Bool → Bool
has_true bs = list_any (λ b. b) bs

abbrev pub options : Rule Token Bool
options =
    either (a word.Analyze) (means true (one (a word.Analyze)))
    (either (a word.OpenParenthesis) (as_value has_true (in_parentheses (commas option))) (nothing false))

abbrev pub explain_execute_value : Bool → List ℕ × Trees → QueryTree
explain_execute_value analyze x = explains_execute analyze x.0 x.1

abbrev pub explained : List ℕ → Bool → Rule Token QueryTree
explained text analyze = either (a word.Select) (as_value (explains_select analyze) (select text)) (as_value (explain_execute_value analyze) (execute text))

abbrev pub explain : List ℕ → Rule Token QueryTree
explain text = as_value second_of (a word.Explain >> follow options (explained text))

-- query = select | insert | update | delete | prepare | execute | explain
abbrev pub begins_row_statement : Class Token
begins_row_statement t = a word.Select t || (a word.Insert t || one_of (a word.Update) (a word.Delete) t)

abbrev pub execute_value : List ℕ × Trees → QueryTree
execute_value x = executes x.0 x.1

abbrev pub row_query : List ℕ → Rule Token QueryTree
row_query text = as_value rows (row_statement text)

abbrev pub executed : List ℕ → Rule Token QueryTree
executed text = as_value execute_value (execute text)

abbrev pub query : List ℕ → Rule Token QueryTree
query text = either begins_row_statement (row_query text) (either (a word.Prepare) (prepare text) (either (a word.Execute) (executed text) (explain text)))
