use Rattle.statement_runs.proofs.Once.{same_rests}
use Rattle.statement_runs.proofs.executor.StoreExecutorExecutor.commit.Goals as goal

pub returns-clause-committed : goal.returns-clause-committed
returns-clause-committed c = same_rests c.args.self.now.seats.rests c.commit.new.self.rests c.commit.ensures.rests
