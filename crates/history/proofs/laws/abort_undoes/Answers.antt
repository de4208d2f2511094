use Rattle.history.proofs.Undone.{abort_undoes}
use Rattle.history.proofs.laws.abort_undoes.Goals as goal

pub returns : goal.returns
returns c = abort_undoes
