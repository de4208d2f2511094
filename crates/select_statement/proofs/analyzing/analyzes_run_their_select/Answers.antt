use Rattle.select_statement.proofs.Analyzed.{run_their_select}
use Rattle.select_statement.proofs.analyzing.analyzes_run_their_select.Goals as goal

pub returns : goal.returns
returns c = run_their_select
