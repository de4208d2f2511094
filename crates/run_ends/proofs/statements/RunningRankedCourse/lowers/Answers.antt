use Rattle.run_ends.proofs.StatementsLower.{course_lowers}
use Rattle.run_ends.proofs.statements.RunningRankedCourse.lowers.Goals as goal

pub returns : goal.returns
returns g c n = course_lowers g.A.AskingStatements.tables c.ask.ensures n
