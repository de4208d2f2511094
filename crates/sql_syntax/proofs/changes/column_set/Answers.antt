use Rattle.sql_tokens.specs.declared.kind.TokenKind.TheVariants as word
use Rattle.sql_expressions.specs.Grammar.{expression}
use Rattle.sql_syntax.specs.QueryGrammar.{more_settings, unaliased}
use Rattle.sql_syntax.proofs.StepCode.{in_steps}
use Rattle.sql_syntax.proofs.changes.column_set.Goals as goal

pub returns : goal.returns
returns c =
    in_steps unaliased word.Equal (expression c.args.text.now) (more_settings c.args.text.now c.args.column) _ c.column_in_steps.result c.args.tokens.now c.column_in_steps.ensures
