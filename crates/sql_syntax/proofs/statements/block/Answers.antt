use Rattle.std.proofs.Common.{length}
use Rattle.grammar.specs.Repeats.{always}
use Rattle.sql_tokens.specs.declared.kind.TokenKind.TheVariants as kinds
use Rattle.sql_tokens.specs.Classes.{a}
use Rattle.sql_expressions.proofs.Deeper.{chain_gives}
use Rattle.sql_syntax.specs.Grammar as grammar
use Rattle.sql_syntax.proofs.statements.block.Goals as goal

pub returns : goal.returns
returns c =
    chain_gives _ c.more_statements.result (a kinds.Semicolon) always grammar.first_of grammar.join (grammar.maybe_statement c.args.text.now 0)
    (λ xs. grammar.maybe_statement c.args.text.now (length xs)) c.args.tokens.now _ _ _ c.in_ok-first.ensures c.in_ok-list.ensures c.more_statements.ensures
