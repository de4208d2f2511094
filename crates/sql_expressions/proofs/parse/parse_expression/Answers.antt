use Rattle.std.proofs.Common.{false, ap, sym, ◌∙◌}
use Rattle.sql_expressions.specs.Grammar.{expression}
use Rattle.sql_expressions.specs.Levels.{begins_expression}
use Rattle.sql_expressions.specs.Parsed.{passed, refusal_of}
use Rattle.sql_ast.specs.Expressions.{tree}
use Rattle.sql_expressions.proofs.ParseLaws.{read_as, refused_as}
use Rattle.sql_expressions.proofs.LevelLaws.{after_expression}
use Rattle.sql_expressions.proofs.RuleLaws.{expression_law}
use Rattle.sql_expressions.proofs.parse.parse_expression.Goals as goal

pub returns-in-Ok : goal.returns-in-Ok
returns-in-Ok c =
    read_as passed expression tree c.args.text.now begins_expression false after_expression (expression_law c.args.text.now) c.deref.result.now c.in-Ok.read (c.deref.ensures.value ∙ c.in_ok-tokens.ensures.tokens) c.in-Ok.ensures

pub returns : goal.returns
returns c =
    refused_as passed expression tree c.args.text.now begins_expression false after_expression (expression_law c.args.text.now) c.deref.result.now c.in-Err.refused _ (c.deref.ensures.value ∙ c.in_ok-tokens.ensures.tokens) c.in-Err.ensures
    (c.in_ok-refusal-in-Err.ensures ∙ ap (λ z. refusal_of passed c.args.text.now z c.in-Err.refused) (c.deref-in-Err.ensures.value ∙ sym c.deref.ensures.value))
