use Rattle.sql_written.proofs.Needed.{said_bare}
use Rattle.sql_written.proofs.laws.quotes_are_needed.Goals as goal

pub returns : goal.returns
returns c text token there name unquoted = said_bare text token there name unquoted
