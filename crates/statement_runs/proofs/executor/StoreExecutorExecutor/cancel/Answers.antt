use Rattle.statement_runs.proofs.Once.{same_rests}
use Rattle.statement_runs.proofs.executor.StoreExecutorExecutor.cancel.Goals as goal

pub returns-clause-committed : goal.returns-clause-committed
returns-clause-committed c = same_rests c.args.self.now.seats.rests c.cancel.new.self.rests c.cancel.ensures.rests
