use Rattle.run_ends.proofs.Once.{course_once}
use Rattle.run_ends.proofs.statements.RunningRankedCourse.commits_once.Goals as goal

pub returns : goal.returns
returns g c n = course_once g.A.AskingStatements.tables n
