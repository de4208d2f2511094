use Rattle.std.proofs.Common.{sym, ◌∙◌}
use Rattle.history.specs.declared.wait.Wanted.TheVariants.{Lock}
use Rattle.history.specs.History.{lock_events}
use Rattle.lock_table.proofs.Queues.{none_causes}
use Rattle.lock_table.proofs.Tables.{granted_stands}
use Rattle.lock_table.proofs.table.LockTable.take_unopposed.Goals as goal

pub returns-then-is_unopposed-clause-is : goal.returns-then-is_unopposed-clause-is
returns-then-is_unopposed-clause-is c h st = sym c.if-is_unopposed.true ∙ c.is_unopposed.ensures.is (lock_events h) st.tells

pub returns-then-is_unopposed-clause-answer : goal.returns-then-is_unopposed-clause-answer
returns-then-is_unopposed-clause-answer c t h st = none_causes (lock_events h) c.args.session c.args.table c.args.mode (c.is_unopposed.ensures.none c.if-is_unopposed.true (lock_events h) st.tells c.args.session)

pub returns-then-is_unopposed-clause-added : goal.returns-then-is_unopposed-clause-added
returns-then-is_unopposed-clause-added c t h st =
    let free = none_causes (lock_events h) c.args.session c.args.table c.args.mode (c.is_unopposed.ensures.none c.if-is_unopposed.true (lock_events h) st.tells c.args.session) in
    rw c.give.ensures.same (granted_stands c.args.self.now c.give.new.self.held h c.args.session (Lock c.args.table c.args.mode) c.give.ensures.low c.requires.idle free c.give.ensures.holds st)

pub returns-clause-is : goal.returns-clause-is
returns-clause-is c h st = sym c.if-is_unopposed.false ∙ c.is_unopposed.ensures.is (lock_events h) st.tells
