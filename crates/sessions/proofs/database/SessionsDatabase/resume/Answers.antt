use Rattle.sessions.proofs.Points.{slack_lower}
use Rattle.sessions.proofs.database.SessionsDatabase.resume.Goals as goal

pub returns-clause-lighter : goal.returns-clause-lighter
returns-clause-lighter g c =
    slack_lower g.E.Executor.most _ _ g.E.Executor.tree (g.E.Executor.has_committed c.args.self.now.executor) (g.E.Executor.has_committed c.resume.new.self) c.args.self.now.sessions.items c.resume.ensures.committed c.resume.ensures.lowers
