use Rattle.sql_tokens.specs.Tokens.{tokens_of}
use Rattle.sql_written.proofs.GivesWritable.{all_stand_in, gives_writable}
use Rattle.sql_written.proofs.laws.parses_can_be_written.Goals as goal

pub returns-clause-whole : goal.returns-clause-whole
returns-clause-whole c text tree h = gives_writable text (tokens_of text) tree (all_stand_in text) h

pub returns-clause-part : goal.returns-clause-part
returns-clause-part c text tokens tree there h = gives_writable text tokens tree there h
