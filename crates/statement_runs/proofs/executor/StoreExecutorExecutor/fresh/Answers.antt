use Rattle.std.proofs.Common.{◌∙◌, map}
use Rattle.prepared_statements.specs.Kept.{listed}
use Rattle.statement_runs.proofs.Cuts.{fresh_stands}
use Rattle.statement_runs.proofs.executor.StoreExecutorExecutor.fresh.Goals as goal

pub returns-clause-stands : goal.returns-clause-stands
returns-clause-stands c = λ v st.
    fresh_stands c.in_ok-executor.executor.options c.in_ok-options.options c.in_ok-executor.executor.seats (map listed c.in_ok-executor.executor.prepared.items) c.in_ok-executor.executor.cut.items c.in_ok-executor.executor.tally c.args.self.now.tally c.count.result v c.in_ok-executor.ensures.stands
    (c.in_ok-options.ensures ∙ st.options) (c.count.ensures.is ∙ st.sessions) st.given
