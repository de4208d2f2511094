use Rattle.std.proofs.Common.{◌≤◌, subst}
use Rattle.statement_runs.specs.Weight.{slack, most}
use Rattle.statement_runs.specs.contracts.seats.Seats.{the_view}
use Rattle.statement_runs.proofs.Weights.{slack_most}
use Rattle.statement_runs.proofs.seats.Seats.weigh.Goals as goal

pub returns-clause-slack : goal.returns-clause-slack
returns-clause-slack c = subst (λ v. slack v ≤ most) c.self.view_is (slack_most (the_view c.self.inside) c.self.invariant.seated)
