use Rattle.statement_steps.proofs.Waiting.{waiting_statements_accept}
use Rattle.statement_steps.proofs.laws.waiting_statements_accept.Goals as goal

pub returns : goal.returns
returns c = waiting_statements_accept
