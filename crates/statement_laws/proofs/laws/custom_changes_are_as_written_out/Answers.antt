use Rattle.statement_laws.proofs.Custom.{custom_updates, custom_deletes, custom_inserts}
use Rattle.statement_laws.proofs.laws.custom_changes_are_as_written_out.Goals as goal

pub returns-clause-updates : goal.returns-clause-updates
returns-clause-updates c = custom_updates

pub returns-clause-deletes : goal.returns-clause-deletes
returns-clause-deletes c = custom_deletes

pub returns-clause-inserts : goal.returns-clause-inserts
returns-clause-inserts c = custom_inserts
