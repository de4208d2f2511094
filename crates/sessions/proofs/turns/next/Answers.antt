use Rattle.sessions.specs.Seen.{seen}
use Rattle.sessions.proofs.Fronts.{by_next_is}
use Rattle.sessions.proofs.Results.{if_ok_more}
use Rattle.sessions.proofs.turns.next.Goals as goal

pub returns-in-Some-clause-makes : goal.returns-in-Some-clause-makes
returns-in-Some-clause-makes g c = if_ok_more c.meet.result _ _ (λ p m v st.
    rw (by_next_is g.E.Executor.course c.args.session v (seen g.E.Executor.tree c.args.x.now) (seen g.E.Executor.tree c.take_next.new.x) _ (g.E.Executor.tree c.in-Some.statement) c.take_next.ensures.rest c.in-Some.ensures.next) (m v st)) c.meet.ensures.makes
