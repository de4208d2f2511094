use Rattle.sessions.proofs.Results.{ok_more, by_ok}
use Rattle.sessions.proofs.Weights.{lower, not_higher}
use Rattle.sessions.proofs.turns.perform.Goals as goal

pub returns-in-Begin-clause-weight : goal.returns-in-Begin-clause-weight
returns-in-Begin-clause-weight g c = ok_more c.begin.result _ _ (λ p. not_higher g.E.Executor.most (g.E.Executor.slack c.args.executor.now) (g.E.Executor.slack c.begin.new.executor) (λ t. g.E.Executor.has_committed c.begin.new.executor c.args.session (g.E.Executor.tree t)) c.args.x.now c.begin.new.x (g.E.Executor.has_committed c.args.executor.now c.args.session (g.E.Executor.tree c.args.statement)) p c.begin.ensures.slack) c.begin.ensures.points

pub returns-in-Begin-clause-lighter : goal.returns-in-Begin-clause-lighter
returns-in-Begin-clause-lighter g c e = lower g.E.Executor.most (g.E.Executor.slack c.args.executor.now) (g.E.Executor.slack c.begin.new.executor) (λ t. g.E.Executor.has_committed c.begin.new.executor c.args.session (g.E.Executor.tree t)) c.args.x.now c.begin.new.x (g.E.Executor.has_committed c.args.executor.now c.args.session (g.E.Executor.tree c.args.statement)) (by_ok c.begin.result _ _ e c.begin.ensures.points) c.begin.ensures.slack

pub returns-in-Commit-clause-weight : goal.returns-in-Commit-clause-weight
returns-in-Commit-clause-weight g c = not_higher g.E.Executor.most (g.E.Executor.slack c.args.executor.now) (g.E.Executor.slack c.commit.new.executor) (λ t. g.E.Executor.has_committed c.commit.new.executor c.args.session (g.E.Executor.tree t)) c.args.x.now c.commit.new.x (g.E.Executor.has_committed c.args.executor.now c.args.session (g.E.Executor.tree c.args.statement)) c.commit.ensures.points c.commit.ensures.slack

pub returns-in-Commit-clause-lighter : goal.returns-in-Commit-clause-lighter
returns-in-Commit-clause-lighter g c e = lower g.E.Executor.most (g.E.Executor.slack c.args.executor.now) (g.E.Executor.slack c.commit.new.executor) (λ t. g.E.Executor.has_committed c.commit.new.executor c.args.session (g.E.Executor.tree t)) c.args.x.now c.commit.new.x (g.E.Executor.has_committed c.args.executor.now c.args.session (g.E.Executor.tree c.args.statement)) c.commit.ensures.points c.commit.ensures.slack

pub returns-in-Rollback-clause-weight : goal.returns-in-Rollback-clause-weight
returns-in-Rollback-clause-weight g c = not_higher g.E.Executor.most (g.E.Executor.slack c.args.executor.now) (g.E.Executor.slack c.roll_back.new.executor) (λ t. g.E.Executor.has_committed c.roll_back.new.executor c.args.session (g.E.Executor.tree t)) c.args.x.now c.roll_back.new.x (g.E.Executor.has_committed c.args.executor.now c.args.session (g.E.Executor.tree c.args.statement)) c.roll_back.ensures.points c.roll_back.ensures.slack

pub returns-in-Rollback-clause-lighter : goal.returns-in-Rollback-clause-lighter
returns-in-Rollback-clause-lighter g c e = lower g.E.Executor.most (g.E.Executor.slack c.args.executor.now) (g.E.Executor.slack c.roll_back.new.executor) (λ t. g.E.Executor.has_committed c.roll_back.new.executor c.args.session (g.E.Executor.tree t)) c.args.x.now c.roll_back.new.x (g.E.Executor.has_committed c.args.executor.now c.args.session (g.E.Executor.tree c.args.statement)) c.roll_back.ensures.points c.roll_back.ensures.slack

pub returns-in-Implicit-clause-weight : goal.returns-in-Implicit-clause-weight
returns-in-Implicit-clause-weight g c = ok_more c.set.result _ _ (λ p. not_higher g.E.Executor.most (g.E.Executor.slack c.args.executor.now) (g.E.Executor.slack c.set.new.executor) (λ t. g.E.Executor.has_committed c.set.new.executor c.args.session (g.E.Executor.tree t)) c.args.x.now c.set.new.x (g.E.Executor.has_committed c.args.executor.now c.args.session (g.E.Executor.tree c.args.statement)) p c.set.ensures.slack) c.set.ensures.points

pub returns-in-Implicit-clause-lighter : goal.returns-in-Implicit-clause-lighter
returns-in-Implicit-clause-lighter g c e = lower g.E.Executor.most (g.E.Executor.slack c.args.executor.now) (g.E.Executor.slack c.set.new.executor) (λ t. g.E.Executor.has_committed c.set.new.executor c.args.session (g.E.Executor.tree t)) c.args.x.now c.set.new.x (g.E.Executor.has_committed c.args.executor.now c.args.session (g.E.Executor.tree c.args.statement)) (by_ok c.set.result _ _ e c.set.ensures.points) c.set.ensures.slack
