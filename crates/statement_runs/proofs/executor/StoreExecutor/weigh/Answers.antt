use Rattle.statement_runs.proofs.Cuts.{left_most}
use Rattle.statement_runs.proofs.executor.StoreExecutor.weigh.Goals as goal

pub returns : goal.returns
returns c = left_most c.args.self.now.seats c.args.self.now.cut.items c.weigh.ensures.slack c.weigh.ensures.few
