use Rattle.std.proofs.Common.{[], if◌then◌else◌, sym, subst}
use Rattle.statement_runs.specs.Database.{let_go_at}
use Rattle.statement_runs.specs.Kept.{Adds}
use Rattle.statement_runs.proofs.seats.Seats.give_up.Goals as goal

pub returns-in-ReadCommitted-clause-adds : goal.returns-in-ReadCommitted-clause-adds
returns-in-ReadCommitted-clause-adds c =
    subst (λ b. Adds c.args.self.now c.let_go.new.self (λ h. if b then let_go_at c.args.level c.args.session else [])) (sym c.if-not-has_stood.false)
    (subst (λ l. Adds c.args.self.now c.let_go.new.self (λ h. let_go_at l c.args.session)) (sym c.in-ReadCommitted.is) c.let_go.ensures.adds)

pub returns-in-ReadUncommitted-clause-adds : goal.returns-in-ReadUncommitted-clause-adds
returns-in-ReadUncommitted-clause-adds c =
    subst (λ b. Adds c.args.self.now c.let_go-in-ReadUncommitted.new.self (λ h. if b then let_go_at c.args.level c.args.session else [])) (sym c.if-not-has_stood.false)
    (subst (λ l. Adds c.args.self.now c.let_go-in-ReadUncommitted.new.self (λ h. let_go_at l c.args.session)) (sym c.in-ReadUncommitted.is) c.let_go-in-ReadUncommitted.ensures.adds)
