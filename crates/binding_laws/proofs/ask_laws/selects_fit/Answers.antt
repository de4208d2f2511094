use Rattle.binding_laws.proofs.Statements.{select_fits}
use Rattle.binding_laws.proofs.ask_laws.selects_fit.Goals as goal

pub returns : goal.returns
returns c = select_fits
