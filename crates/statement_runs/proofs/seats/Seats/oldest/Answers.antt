use Rattle.std.proofs.Common.{rules, ◌≡◌, true, Some, subst}
use Rattle.schedule.specs.Lists.{head_of}
use Rattle.statement_runs.specs.Kept.{waits_in}
use Rattle.statement_runs.specs.contracts.seats.Seats.{the_view}
use Rattle.statement_runs.proofs.Lower.{oldest_waits}
use Rattle.statement_runs.proofs.seats.Seats.oldest.Goals as goal

pub returns-in-Some-clause-waiting : goal.returns-in-Some-clause-waiting
returns-in-Some-clause-waiting c =
    let first : head_of c.self.inside.queue.items ≡ Some c.in-Some.session.now = search rules in
    subst (λ v. waits_in v c.in-Some.session.now ≡ true) c.self.view_is (oldest_waits (the_view c.self.inside) c.in-Some.session.now c.self.invariant c.if-not-self.false first)
