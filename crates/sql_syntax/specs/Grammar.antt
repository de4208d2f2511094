-- The grammar of a block: statements with semicolons between, and none may stand anywhere (VI. SQL Commands).
use Rattle.std.specs.Prelude.{ℕ, ◌||◌, List, [], ◌∷◌, ◌++◌, length, nat_lt, Option, Some, None}
use Rattle.grammar.specs.Reading.{Class, Rule, nothing, as_value, either}
use Rattle.grammar.specs.Repeats.{always, chain_by}
use Rattle.sql_tokens.specs.declared.kind.TokenKind.TheVariants as word
use Rattle.sql_tokens.specs.declared.token.Token.{Token}
use Rattle.sql_expressions.specs.Levels.{if_room}
use Rattle.sql_tokens.specs.Classes.{a}
use Rattle.sql_syntax.specs.CommandGrammar.{command, begins_command}
use Rattle.grammar.specs.Words.{one_of}
use Rattle.sql_syntax.specs.QueryGrammar.{query, begins_row_statement}
use Rattle.sql_ast.specs.Statements.{StatementTree, commands, queries}
use Rattle.sql_syntax.specs.declared.parse.TheConstants.{MOST_STATEMENTS}

-- the first word of a statement
abbrev pub begins_query : Class Token
begins_query t = begins_row_statement t || (a word.Prepare t || one_of (a word.Execute) (a word.Explain) t)

abbrev pub begins_statement : Class Token
begins_statement t = begins_query t || begins_command t

-- stmt = select | insert | update | delete | prepare | execute | explain
--      | begin | finish | set | create | drop | alter | lock | dealloc
abbrev pub statement : List ℕ → Rule Token StatementTree
statement text = either begins_query (as_value queries (query text)) (as_value commands (command text))

-- [ stmt ] behind n statements: there is room for 1,024
abbrev pub some_statement : List ℕ → Rule Token (Option StatementTree)
some_statement text = as_value Some (statement text)

abbrev pub maybe_statement : List ℕ → ℕ → Rule Token (Option StatementTree)
maybe_statement text n = if_room (nat_lt n MOST_STATEMENTS) begins_statement (some_statement text).free (some_statement text) (nothing None)

-- block = [ stmt ] { ";" [ stmt ] }
abbrev pub and_maybe : List StatementTree → Option StatementTree → List StatementTree
and_maybe xs None = xs
and_maybe xs (Some x) = xs ++ x ∷ []

abbrev pub first_of : Option StatementTree → List StatementTree
first_of x = and_maybe [] x

abbrev pub join : List StatementTree → Token → Option StatementTree → List StatementTree
join xs sign x = and_maybe xs x

abbrev pub block : List ℕ → Rule Token (List StatementTree)
block text = chain_by (a word.Semicolon) always first_of join (maybe_statement text 0) (λ (xs : List StatementTree). maybe_statement text (length xs))
