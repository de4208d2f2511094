use Rattle.std.proofs.Common.{ℕ, ◌≤◌, ◌<◌, ap, subst, OnOk}
use Rattle.sessions.specs.Commits.{CommitsOnce}
use Rattle.sessions.specs.declared.asker.Asker.{Asker}
use Rattle.sessions.specs.Weight.{points_in, points_with, weight_of}
use Rattle.sessions.proofs.Results.{ok_more, by_ok}
use Rattle.sessions.proofs.Weights.{again_lower, again_not_higher}
use Rattle.sessions.proofs.turns.run.Goals as goal

pub returns-in-Commits-clause-weight : goal.returns-in-Commits-clause-weight
returns-in-Commits-clause-weight g c =
    let slack = g.E.Executor.slack in
    let most = g.E.Executor.most in
    let committed = g.E.Executor.has_committed in
    let tree = g.E.Executor.tree in
    let before = committed c.args.executor.now c.args.session (tree c.args.statement) in
    let after = committed c.run.new.self c.args.session (tree c.args.statement) in
    let ours = λ (s : ℕ). CommitsOnce (committed c.args.executor.now s (tree c.args.statement)) (committed c.run.new.self s (tree c.args.statement)) c.in_ok-run.field-0 in
    let once = subst ours (ap (λ (a : Asker). a.session) c.asker-asker.ensures) c.in_ok-run.ensures.once in
    let left = points_in (committed c.go_on_again.new.executor) tree c.args.session c.go_on_again.new.x in
    subst (λ v. OnOk c.go_on_again.result (weight_of most (slack c.go_on_again.new.executor) left ≤ weight_of most (slack c.args.executor.now) (points_with before v))) c.x.view_is
    (ok_more c.go_on_again.result _ _
    (λ p. again_not_higher most (slack c.args.executor.now) (slack c.go_on_again.new.executor) _ left before after (subst (CommitsOnce before after) c.in-Commits.is once) p c.go_on_again.ensures.slack)
    c.go_on_again.ensures.points)

pub returns-in-Commits-clause-lighter : goal.returns-in-Commits-clause-lighter
returns-in-Commits-clause-lighter g c e =
    let slack = g.E.Executor.slack in
    let most = g.E.Executor.most in
    let committed = g.E.Executor.has_committed in
    let tree = g.E.Executor.tree in
    let before = committed c.args.executor.now c.args.session (tree c.args.statement) in
    let after = committed c.run.new.self c.args.session (tree c.args.statement) in
    let ours = λ (s : ℕ). CommitsOnce (committed c.args.executor.now s (tree c.args.statement)) (committed c.run.new.self s (tree c.args.statement)) c.in_ok-run.field-0 in
    let once = subst ours (ap (λ (a : Asker). a.session) c.asker-asker.ensures) c.in_ok-run.ensures.once in
    let left = points_in (committed c.go_on_again.new.executor) tree c.args.session c.go_on_again.new.x in
    subst (λ v. weight_of most (slack c.go_on_again.new.executor) left < weight_of most (slack c.args.executor.now) (points_with before v)) c.x.view_is
    (again_lower most (slack c.args.executor.now) (slack c.go_on_again.new.executor) _ left before after (subst (CommitsOnce before after) c.in-Commits.is once)
    (by_ok c.go_on_again.result _ _ e c.go_on_again.ensures.points) c.go_on_again.ensures.slack)
