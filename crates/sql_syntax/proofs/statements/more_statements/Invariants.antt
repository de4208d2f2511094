use Rattle.std.proofs.Common.{◌≡◌, ◌-◌, length, map}
use Rattle.grammar.specs.Repeats.{always, read_repeats}
use Rattle.sql_tokens.specs.declared.kind.TokenKind.TheVariants as kinds
use Rattle.sql_tokens.specs.Classes.{a}
use Rattle.sql_syntax.specs.Grammar as grammar
use Rattle.sql_ast.specs.Statements.{statement_tree}
use Rattle.sql_syntax.proofs.statements.more_statements.Given as goal

-- the rest of the block is read from where the loop stands
abbrev pub invariant-loop : goal.invariant-loop
invariant-loop l =
    read_repeats (a kinds.Semicolon) always grammar.join (λ xs. (grammar.maybe_statement l.text (length xs)).read) (l.end - l.counter) (map statement_tree l.done.items) l.rest
    ≡ read_repeats (a kinds.Semicolon) always grammar.join (λ xs. (grammar.maybe_statement l.text (length xs)).read) (length l.fn.tokens) (map statement_tree l.fn.first.items) l.fn.tokens
