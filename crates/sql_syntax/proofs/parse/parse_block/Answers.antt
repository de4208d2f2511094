use Rattle.std.proofs.Common.{true, List, ap, map, sym, ◌∙◌}
use Rattle.sql_expressions.specs.Parsed.{refusal_of}
use Rattle.sql_expressions.proofs.ParseLaws.{read_as, refused_as}
use Rattle.sql_syntax.specs.Block.{passed}
use Rattle.sql_syntax.specs.Grammar.{block}
use Rattle.sql_ast.specs.Statements.{StatementTree, statement_tree}
use Rattle.sql_syntax.proofs.StatementLaws.{after_block, begins_block, block_law}
use Rattle.sql_syntax.proofs.parse.parse_block.Goals as goal

pub returns-in-Ok : goal.returns-in-Ok
returns-in-Ok c =
    read_as passed block (λ v. map statement_tree v.items) c.args.text.now begins_block true after_block (block_law c.args.text.now) c.deref.result.now c.in-Ok.statements (c.deref.ensures.value ∙ c.in_ok-tokens.ensures.tokens) c.in-Ok.ensures

pub returns : goal.returns
returns c =
    refused_as passed block (λ (xs : List StatementTree). xs) c.args.text.now begins_block true after_block (block_law c.args.text.now) c.deref.result.now c.in-Err.refused _ (c.deref.ensures.value ∙ c.in_ok-tokens.ensures.tokens) c.in-Err.ensures
    (c.in_ok-refusal_of_block-in-Err.ensures ∙ ap (λ z. refusal_of passed c.args.text.now z c.in-Err.refused) (c.deref-in-Err.ensures.value ∙ sym c.deref.ensures.value))
