use Rattle.prepared_statements.specs.Kept.{listed}
use Rattle.statement_runs.proofs.Prepared.{map_set}
use Rattle.statement_runs.proofs.executor.set_list.Goals as goal

pub returns-then-session-len : goal.returns-then-session-len
returns-then-session-len c = map_set listed c.args.lists.now.items c.args.session c.args.list
