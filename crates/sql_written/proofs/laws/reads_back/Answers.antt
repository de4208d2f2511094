use Rattle.sql_written.proofs.ReadsBack.{only, parsed}
use Rattle.sql_written.proofs.laws.reads_back.Goals as goal

pub returns-clause-text : goal.returns-clause-text
returns-clause-text c tree w = only tree w

pub returns-clause-parsed : goal.returns-clause-parsed
returns-clause-parsed c tree result w h = parsed tree w result h
