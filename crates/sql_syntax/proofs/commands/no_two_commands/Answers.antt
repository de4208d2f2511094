use Rattle.grammar.proofs.WholeLaws.{one_value}
use Rattle.sql_syntax.proofs.CommandLaws.{command_law}
use Rattle.sql_syntax.proofs.commands.no_two_commands.Goals as goal

pub returns : goal.returns
returns c text tokens x y w v = one_value (command_law text) tokens x y w v
