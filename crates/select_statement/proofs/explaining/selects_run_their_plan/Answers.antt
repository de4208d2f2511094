use Rattle.select_statement.proofs.Straight.{run_their_plan}
use Rattle.select_statement.proofs.explaining.selects_run_their_plan.Goals as goal

pub returns : goal.returns
returns c = run_their_plan
