use Rattle.std.proofs.Common.{◌≡◌, ◌*◌, false, length, map, replicate, sym, ap, ◌∙◌}
use Rattle.std.proofs.lemmas.List.{length-map}
use Rattle.sessions.specs.Seen.{seen}
use Rattle.sessions.specs.Sessions.{has_open, new_session}
use Rattle.sessions.specs.Stands.{transactions}
use Rattle.sessions.proofs.Points.{new_weight}
use Rattle.sessions.proofs.Whole.{new_transactions, fresh_seen}
use Rattle.sessions.proofs.database.SessionsDatabase.fresh.Goals as goal

pub invariant_of-result-clause-alike : goal.invariant_of-result-clause-alike
invariant_of-result-clause-alike g c =
    let count : length (g.E.Executor.in_transaction c.args.self.now.executor) ≡ length c.args.self.now.sessions.items = ap length c.args.self.now.alike ∙ length-map c.args.self.now.sessions.items (λ x. has_open x.phase) in
    let items : c.in_ok-sessions.sessions.items ≡ replicate (length c.args.self.now.sessions.items) new_session = c.in_ok-sessions.ensures ∙ ap (λ k. replicate k new_session) (c.sessions.ensures ∙ count) in
    c.in_ok-executor.ensures.transactions ∙ ap (λ k. replicate k false) count ∙ sym (new_transactions _ (length c.args.self.now.sessions.items)) ∙ ap transactions (sym items)

pub returns-clause-stands : goal.returns-clause-stands
returns-clause-stands g c v st =
    let count : length (g.E.Executor.in_transaction c.args.self.now.executor) ≡ length c.args.self.now.sessions.items = ap length c.args.self.now.alike ∙ length-map c.args.self.now.sessions.items (λ x. has_open x.phase) in
    let items : c.in_ok-sessions.sessions.items ≡ replicate (length c.args.self.now.sessions.items) new_session = c.in_ok-sessions.ensures ∙ ap (λ k. replicate k new_session) (c.sessions.ensures ∙ count) in
    record {
      executor = c.in_ok-executor.ensures.stands v.executor st.executor;
      sessions = ap (map (seen g.E.Executor.tree)) items ∙ fresh_seen g.E.Executor.tree c.args.self.now.sessions.items v.sessions st.sessions;
    }

pub returns-clause-weight : goal.returns-clause-weight
returns-clause-weight g c =
    let count : length (g.E.Executor.in_transaction c.args.self.now.executor) ≡ length c.args.self.now.sessions.items = ap length c.args.self.now.alike ∙ length-map c.args.self.now.sessions.items (λ x. has_open x.phase) in
    let items : c.in_ok-sessions.sessions.items ≡ replicate (length c.args.self.now.sessions.items) new_session = c.in_ok-sessions.ensures ∙ ap (λ k. replicate k new_session) (c.sessions.ensures ∙ count) in
    new_weight g.E.Executor.most _ (3 * g.E.Executor.most_statements) (length c.args.self.now.sessions.items) g.E.Executor.tree (g.E.Executor.has_committed c.in_ok-executor.executor) c.in_ok-sessions.sessions.items items c.in_ok-executor.ensures.slack
