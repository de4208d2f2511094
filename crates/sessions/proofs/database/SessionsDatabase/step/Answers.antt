use Rattle.std.proofs.Common.{slice_set, ap, sym, ◌∙◌}
use Rattle.sessions.specs.Sessions.{has_open, turns}
use Rattle.sessions.proofs.Results.{by_ok, on_both}
use Rattle.sessions.proofs.Whole.{transactions_set, goes_on, weight_falls, weight_stays, if_ok_on}
use Rattle.sessions.proofs.database.SessionsDatabase.step.Goals as goal

pub invariant_of-self-clause-alike : goal.invariant_of-self-clause-alike
invariant_of-self-clause-alike g c =
    c.turn.ensures.transactions ∙ ap (λ z. slice_set z c.args.session (has_open c.turn.new.x.phase)) c.args.self.now.alike ∙ sym (transactions_set c.args.self.now.sessions.items c.args.session c.turn.new.x)

pub returns-clause-stands : goal.returns-clause-stands
returns-clause-stands g c = if_ok_on c.turn.result _ _ (λ p m v st.
    goes_on g.E.Executor.stands g.E.Executor.tree c.args.self.now.executor c.turn.new.executor c.args.self.now.sessions.items c.args.session c.index_mut.result.now c.turn.new.x v
    (λ w x. turns g.E.Executor.course c.args.session w x) c.requires.known c.index_mut.ensures.value st (λ w is. ((m w is).0, (m w is).1))) c.turn.ensures.makes

pub returns-clause-weight : goal.returns-clause-weight
returns-clause-weight g c =
    on_both c.turn.result _ _ _ (λ others le. weight_stays _ _ _ g.E.Executor.tree (g.E.Executor.has_committed c.args.self.now.executor) (g.E.Executor.has_committed c.turn.new.executor) _ _ _ _ c.requires.known c.index_mut.ensures.value others le) c.turn.ensures.others c.turn.ensures.weight

pub returns-clause-lighter : goal.returns-clause-lighter
returns-clause-lighter g c e =
    weight_falls _ _ _ g.E.Executor.tree (g.E.Executor.has_committed c.args.self.now.executor) (g.E.Executor.has_committed c.turn.new.executor) _ _ _ _ c.requires.known c.index_mut.ensures.value (by_ok c.turn.result _ _ e c.turn.ensures.others) (c.turn.ensures.lighter e)
