use Rattle.binding_laws.proofs.Statements.{change_fits}
use Rattle.binding_laws.proofs.ask_laws.changes_fit.Goals as goal

pub returns : goal.returns
returns c = change_fits
