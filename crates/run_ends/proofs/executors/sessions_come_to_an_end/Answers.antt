use Rattle.std.proofs.Common.{None, refl, sym, subst, replicate}
use Rattle.sessions.specs.Sessions.{State, new_session}
use Rattle.run_ends.specs.SessionRank.{points_of}
use Rattle.run_ends.proofs.SessionsLower.{new_opened}
use Rattle.run_ends.proofs.executors.sessions_come_to_an_end.Goals as goal

pub returns : goal.returns
returns g c v n k ps ranked known =
    let start : State g.C.RankedCourse.State g.C.RankedCourse.Tree = record { executor = v; sessions = replicate n (new_session {T = g.C.RankedCourse.Tree}) } in
    c.runs_come_to_an_end.ensures start n (points_of g.C.RankedCourse.has_committed start) k ps
    (record { blocks = refl; executor = subst (λ l. g.C.RankedCourse.ranks n v None l k) (sym (new_opened g.C.RankedCourse.Tree n)) ranked }) known
