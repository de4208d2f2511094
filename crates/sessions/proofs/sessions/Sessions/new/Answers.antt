use Rattle.std.proofs.Common.{◌≡◌, length, map, replicate, sym, ap, ◌∙◌}
use Rattle.sessions.specs.Seen.{seen}
use Rattle.sessions.specs.Sessions.{new_session}
use Rattle.sessions.specs.Stands.{transactions}
use Rattle.sessions.proofs.Whole.{new_transactions, new_seen}
use Rattle.sessions.proofs.sessions.Sessions.new.Goals as goal

pub invariant_of-result-clause-alike : goal.invariant_of-result-clause-alike
invariant_of-result-clause-alike g c =
    let items : c.in_ok-sessions.sessions.items ≡ replicate (length (g.E.Executor.in_transaction c.args.executor)) new_session = c.in_ok-sessions.ensures ∙ ap (λ k. replicate k new_session) c.sessions.ensures in
    c.requires.idle ∙ sym (new_transactions _ (length (g.E.Executor.in_transaction c.args.executor))) ∙ ap transactions (sym items)

pub returns-clause-stands : goal.returns-clause-stands
returns-clause-stands g c v st =
    let items : c.in_ok-sessions.sessions.items ≡ replicate (length (g.E.Executor.in_transaction c.args.executor)) new_session = c.in_ok-sessions.ensures ∙ ap (λ k. replicate k new_session) c.sessions.ensures in
    record { executor = st; sessions = ap (map (seen g.E.Executor.tree)) items ∙ new_seen g.E.Executor.tree (length (g.E.Executor.in_transaction c.args.executor)) }
