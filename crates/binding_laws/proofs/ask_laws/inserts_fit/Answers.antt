use Rattle.binding_laws.proofs.Statements.{insert_fits}
use Rattle.binding_laws.proofs.ask_laws.inserts_fit.Goals as goal

pub returns : goal.returns
returns c = insert_fits
