use Rattle.stores.proofs.Locked.{changes_are_locked}
use Rattle.stores.proofs.lock_laws.changes_are_locked.Goals as goal

pub returns : goal.returns
returns c = changes_are_locked
