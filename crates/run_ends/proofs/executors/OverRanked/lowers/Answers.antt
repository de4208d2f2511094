use Rattle.run_ends.proofs.SessionsLower.{sessions_lower}
use Rattle.run_ends.proofs.executors.OverRanked.lowers.Goals as goal

pub returns : goal.returns
returns g c n = sessions_lower g.C.RankedCourse.course n g.C.RankedCourse.has_committed (g.C.RankedCourse.ranks n) (c.lowers.ensures n) (c.commits_once.ensures n)
