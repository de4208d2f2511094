use Rattle.grammar.proofs.WholeLaws.{parses}
use Rattle.sql_syntax.proofs.CommandLaws.{command_law}
use Rattle.sql_syntax.proofs.commands.commands_are_read.Goals as goal

pub returns : goal.returns
returns c text tokens read h = parses (λ x. x) tokens read (command_law text) h
