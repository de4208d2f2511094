use Rattle.std.proofs.Common.{inl, inr}
use Rattle.std.proofs.KnownBytes.{Appends-nil}
use Rattle.schedule.specs.Run.{effect}
use Rattle.schedule.proofs.Results.{if_err, err_more}
use Rattle.schedule.proofs.Runs.{came_cut}
use Rattle.schedule.proofs.engine.Engine.event.Goals as goal

pub returns-in_err-report-clause-begins : goal.returns-in_err-report-clause-begins
returns-in_err-report-clause-begins g c = if_err c.from_residual.result _ (inl (Appends-nil _))

pub returns-clause-begins : goal.returns-clause-begins
returns-clause-begins g c =
    err_more c.write.result _ _ (λ begins. inr (came_cut g.D.Database (λ w. effect g.D.Database.rules w c.args.event) _ _ _ _ _ c.in_ok-report.ensures.leaves c.in_ok-report.ensures.report begins)) c.write.ensures.begins
