use Rattle.std.proofs.Common.{◌≡◌, true, None, arith, ap}
use Rattle.std.proofs.lemmas.Grind.{common_steps}
use Rattle.sessions.specs.Seen.{seen}
use Rattle.sessions.proofs.Fronts.{turns_is}
use Rattle.sessions.proofs.Results.{if_ok_more}
use Rattle.sessions.proofs.turns.turn.Goals as goal

pub returns-in-None-clause-makes : goal.returns-in-None-clause-makes
returns-in-None-clause-makes g c = if_ok_more c.next.result _ _ (λ p m v st.
    let busy : c.args.x.now.in_block ≡ true = grind (arith, common_steps) in
    let whole : c.args.x.now.broken ≡ None = grind (arith, common_steps) in
    rw (turns_is g.E.Executor.course c.args.session v (seen g.E.Executor.tree c.args.x.now) (seen g.E.Executor.tree c.why_broken.new.self) (ap (seen g.E.Executor.tree) c.why_broken.ensures.rest) busy whole) (m v st)) c.next.ensures.makes
