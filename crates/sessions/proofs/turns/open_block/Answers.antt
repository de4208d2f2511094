use Rattle.std.proofs.Common.{◌≡◌, ◌≤◌, ◌+◌, ◌∙◌, ap}
use Rattle.sessions.specs.Sessions.{kept, opened}
use Rattle.sessions.specs.Weight.{points_in, points_with}
use Rattle.pg_values.specs.declared.isolation.Isolation.TheVariants.{ReadCommitted}
use Rattle.sessions.specs.declared.phase.Phase.TheVariants.{Implicit}
use Rattle.sessions.proofs.Weights.{opened_points, falls, falls_at_least}
use Rattle.sessions.proofs.turns.open_block.Goals as goal

pub returns-clause-weight : goal.returns-clause-weight
returns-clause-weight g c =
    let committed = g.E.Executor.has_committed in
    let tree = g.E.Executor.tree in
    let now = committed c.args.executor.now c.args.session (tree c.args.statement) in
    let is : c.keep.new.self ≡ kept (opened c.args.x.now Implicit ReadCommitted) c.args.statement = c.in_ok-keep.ensures.ok ∙ ap (λ v. kept v c.args.statement) c.in_ok-begin_transaction.ensures.begins in
    falls_at_least g.E.Executor.most (g.E.Executor.slack c.args.executor.now) (g.E.Executor.slack c.begin_transaction.new.executor) (points_with now c.args.x.now) (points_in (committed c.begin_transaction.new.executor) tree c.args.session c.keep.new.self)
    (opened_points (λ t. committed c.begin_transaction.new.executor c.args.session (tree t)) c.args.x.now c.keep.new.self c.args.statement ReadCommitted now c.requires.busy c.requires.closed is (c.begin_transaction.ensures.committed c.args.session (tree c.args.statement)))
    c.begin_transaction.ensures.slack

pub returns-clause-lighter : goal.returns-clause-lighter
returns-clause-lighter g c e =
    let committed = g.E.Executor.has_committed in
    let tree = g.E.Executor.tree in
    let now = committed c.args.executor.now c.args.session (tree c.args.statement) in
    let is : c.keep.new.self ≡ kept (opened c.args.x.now Implicit ReadCommitted) c.args.statement = c.in_ok-keep.ensures.ok ∙ ap (λ v. kept v c.args.statement) c.in_ok-begin_transaction.ensures.begins in
    falls g.E.Executor.most (g.E.Executor.slack c.args.executor.now) (g.E.Executor.slack c.begin_transaction.new.executor) (points_with now c.args.x.now) (points_in (committed c.begin_transaction.new.executor) tree c.args.session c.keep.new.self)
    (opened_points (λ t. committed c.begin_transaction.new.executor c.args.session (tree t)) c.args.x.now c.keep.new.self c.args.statement ReadCommitted now c.requires.busy c.requires.closed is (c.begin_transaction.ensures.committed c.args.session (tree c.args.statement)))
    c.begin_transaction.ensures.slack
