use Rattle.binding_laws.proofs.Once.{inserts_once, changes_once}
use Rattle.binding_laws.proofs.ask_laws.columns_come_once.Goals as goal

pub returns-clause-inserts : goal.returns-clause-inserts
returns-clause-inserts c = inserts_once

pub returns-clause-changes : goal.returns-clause-changes
returns-clause-changes c = changes_once
