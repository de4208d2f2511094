use Rattle.sql_tokens.proofs.ReadBack.{name_back}
use Rattle.sql_tokens.proofs.written.names_read_back.Goals as goal

pub returns : goal.returns
returns c = name_back
