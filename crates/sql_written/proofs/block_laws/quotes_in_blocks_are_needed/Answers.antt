use Rattle.sql_tokens.specs.declared.kind.TokenKind.TheVariants.{Local, Transaction}
use Rattle.sql_written.proofs.Bare.{edge_bare, other_bare, plain_bare, word_bare}
use Rattle.sql_written.proofs.block_laws.quotes_in_blocks_are_needed.Goals as goal

pub returns : goal.returns
returns c = record { anywhere = plain_bare; setting = other_bare Local; value = word_bare; edge = edge_bare; prepared = other_bare Transaction }
