use Rattle.std.proofs.lemmas.Result.{IfOk-weaker}
use Rattle.script_program.proofs.Checks.{session_lines}
use Rattle.script_program.proofs.check.write_session.Goals as goal

pub returns : goal.returns
returns g c =
    IfOk-weaker c.write_if_there-2.result _ _ (λ _ h.
    session_lines g.O.Db.Database.rules g.O.Opener.refused c.args.session.now _ _ _ _ c.in_ok-write_if_there.ensures (rw c.as_slice.ensures at c.in_ok-write_steps.ensures) h) c.write_if_there-2.ensures
