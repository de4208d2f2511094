use Rattle.sql_tokens.proofs.ReadBack.{string_back}
use Rattle.sql_tokens.proofs.written.strings_read_back.Goals as goal

pub returns : goal.returns
returns c = string_back
