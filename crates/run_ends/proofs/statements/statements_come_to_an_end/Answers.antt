use Rattle.std.proofs.Common.{[], refl, replicate, false}
use Rattle.statement_runs.specs.Database.{empty}
use Rattle.run_ends.specs.StatementRank.{slack}
use Rattle.run_ends.proofs.Kept.{empty_kept}
use Rattle.run_ends.proofs.statements.statements_come_to_an_end.Goals as goal

pub returns : goal.returns
returns g c o n ps few known =
    let bound = g.A.AskingStatements.tables [] in
    c.sessions_come_to_an_end.ensures (empty o n) n (slack n bound (replicate n false) (empty o n)) ps
    (record { bound = bound; moved = replicate n false; kept = empty_kept g.A.AskingStatements.tables n o n refl few; rank = refl }) known
