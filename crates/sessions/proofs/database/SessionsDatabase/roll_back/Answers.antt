use Rattle.std.proofs.Common.{◌*◌, slice_set, ap, sym, ◌∙◌}
use Rattle.sessions.specs.Sessions.{has_open, rolls_back}
use Rattle.sessions.proofs.Whole.{transactions_set, goes_on, weight_of_rollback}
use Rattle.sessions.proofs.database.SessionsDatabase.roll_back.Goals as goal

pub invariant_of-self-clause-alike : goal.invariant_of-self-clause-alike
invariant_of-self-clause-alike g c =
    c.roll_back.ensures.transactions ∙ ap (λ z. slice_set z c.args.session (has_open c.roll_back.new.x.phase)) c.args.self.now.alike ∙ sym (transactions_set c.args.self.now.sessions.items c.args.session c.roll_back.new.x)

pub returns-clause-stands : goal.returns-clause-stands
returns-clause-stands g c v st =
    goes_on g.E.Executor.stands g.E.Executor.tree c.args.self.now.executor c.roll_back.new.executor c.args.self.now.sessions.items c.args.session c.index_mut.result.now c.roll_back.new.x v
    (λ w x. rolls_back g.E.Executor.course c.args.session w x) c.requires.known c.index_mut.ensures.value st (λ w is. ((c.roll_back.ensures.makes w is).0, (c.roll_back.ensures.makes w is).1))

pub returns-clause-weight : goal.returns-clause-weight
returns-clause-weight g c =
    weight_of_rollback g.E.Executor.most _ _ (3 * g.E.Executor.most_statements) g.E.Executor.tree (g.E.Executor.has_committed c.args.self.now.executor) (g.E.Executor.has_committed c.roll_back.new.executor) _ _ _ _ c.requires.known c.index_mut.ensures.value c.roll_back.ensures.committed c.roll_back.ensures.points c.roll_back.ensures.slack
