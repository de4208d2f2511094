use Rattle.std.proofs.lemmas.Result.{IfOk-weaker}
use Rattle.script_program.proofs.Checks.{script_lines}
use Rattle.script_program.proofs.check.write_blocks.Goals as goal

pub returns : goal.returns
returns g c =
    IfOk-weaker c.write_sessions.result _ _ (λ _ h.
    script_lines g.O.Db.Database.rules g.O.Opener.refused c.args.script.now _ _ _ _ (rw c.as_slice.ensures at c.in_ok-write_setups.ensures) c.in_ok-write_if_there.ensures h) (rw c.as_slice-2.ensures at c.write_sessions.ensures)
