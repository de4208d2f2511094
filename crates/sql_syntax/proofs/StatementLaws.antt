-- Statements and blocks keep the law: one token of look-ahead decides how they are read.
use Rattle.std.proofs.Common.{ℕ, true, false, ◌||◌, List, length, Some, None, nat_lt, refl}
use Rattle.grammar.specs.Reading.{Class, nothing}
use Rattle.grammar.specs.Repeats.{always}
use Rattle.grammar.proofs.Laws.{Law}
use Rattle.grammar.proofs.Chain.{none}
use Rattle.grammar.proofs.Build.{empty, valued, wide, alt, chained_by}
use Rattle.sql_tokens.specs.declared.kind.TokenKind.TheVariants as word
use Rattle.sql_tokens.specs.declared.token.Token.{Token}
use Rattle.sql_tokens.specs.Classes.{a}
use Rattle.sql_expressions.proofs.RoomLaws.{Opens, if_room_law}
use Rattle.sql_expressions.proofs.WordLaws.{sample, apart, within}
use Rattle.sql_syntax.proofs.CommandLaws.{after_command, command_law}
use Rattle.sql_syntax.proofs.QueryLaws.{after_query, query_law}
use Rattle.sql_syntax.specs.Grammar.{begins_statement, begins_query, statement, some_statement, maybe_statement, first_of, join, block}
use Rattle.sql_ast.specs.Statements.{StatementTree, commands, queries}
use Rattle.sql_syntax.specs.declared.parse.TheConstants.{MOST_STATEMENTS}
use Rattle.sql_syntax.proofs.Openings.{starts_statement}

-- what may go on behind a statement
abbrev pub after_statement : Class Token
after_statement t = after_query t || after_command t

-- and behind one that may be missing
abbrev pub after_maybe : Class Token
after_maybe t = after_statement t || begins_statement t

-- what a block begins with, and what may stand behind it
abbrev pub begins_block : Class Token
begins_block t = begins_statement t || a word.Semicolon t

abbrev pub after_block : Class Token
after_block t = after_maybe t || begins_block t

pub statement_law : (text : List ℕ) → Law (statement text) begins_statement false after_statement
statement_law text =
    wide (alt begins_query (valued queries (query_law text)) (within _ _ (λ t. refl) refl) (valued commands (command_law text)) (apart _ _ (λ t. refl) refl))
    (within _ _ (λ t. refl) refl) (within _ _ (λ t. refl) refl)

some_law : (text : List ℕ) → Law (some_statement text) begins_statement false after_statement
some_law text = valued (λ (x : StatementTree). Some x) (statement_law text)

some_opens : (text : List ℕ) → Opens (some_statement text).free begins_statement
some_opens text = record {
  begins = λ t x b w. (some_law text).shape.begins t x b w;
  some = λ b w. let e = (some_law text).shape.empty b w in cc;
  text = λ t h. let w = (starts_statement text).text t h in (w.0, Some w.1, (w.1, w.2, refl));
}

maybe_statement_law : (text : List ℕ) (n : ℕ) → Law (maybe_statement text n) begins_statement true after_maybe
maybe_statement_law text n =
    wide (if_room_law begins_statement (some_statement text).free (some_statement text) (nothing None) none true after_statement none
    (some_opens text) (λ ts d w. w) (λ ts d w. w) (empty None) (λ t h. refl) (nat_lt n MOST_STATEMENTS) (λ h. some_law text))
    (within _ _ (λ t. refl) refl) (within _ _ (λ t. refl) refl)

pub block_law : (text : List ℕ) → Law (block text) begins_block true after_block
block_law text =
    wide (chained_by (a word.Semicolon) (sample word.Semicolon) refl always first_of join (maybe_statement_law text 0)
    (λ (xs : List StatementTree). maybe_statement_law text (length xs)) (apart _ _ (λ t. refl) refl))
    (within _ _ (λ t. refl) refl) (within _ _ (λ t. refl) refl)
