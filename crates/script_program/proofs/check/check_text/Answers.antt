use Rattle.std.proofs.Common.{[], refl}
use Rattle.schedule.proofs.Results.{ok_more}
use Rattle.script_program.specs.declared.ended.Ended.TheVariants.{Done, ScriptRefused}
use Rattle.script_program.specs.Checks.{Checked, NoScript, NothingTold, Told, checked}
use Rattle.script_program.specs.Lines.{fault_line}
use Rattle.script_program.specs.Outcomes.{Stopped, refusal}
use Rattle.script_program.proofs.Endings.{nothing, nothing_of, refused, told_on_out}
use Rattle.script_program.proofs.check.check_text.Goals as goal

pub returns-in-Ok-checked : goal.returns-in-Ok-checked
returns-in-Ok-checked g c =
    let script = c.in-Ok.script in
    let lines = checked g.O.Db.Database.rules g.O.Opener.refused script in
    told_on_out g.K.Sink g.E.Sink _ _ _ _ _ _ _ (record { ended = Done; out = lines; err = [] }) (Checked script c.in-Ok.ensures.0 refl) (Told script c.in-Ok.ensures.0 refl) refl refl
    (rw c.in-Ok-checked.ensures at (rw c.deref.ensures.value at c.answer.ensures)) (nothing g.E.Sink _)

pub returns-in-Ok : goal.returns-in-Ok
returns-in-Ok g c = Stopped [] (NothingTold refl) refl (nothing_of g.K.Sink _ []) (nothing g.E.Sink _)

pub returns : goal.returns
returns g c =
    refused g.K.Sink g.E.Sink _ _ _ _ _ _ _ c.fault_line.result (λ line. line.items) (refusal ScriptRefused (fault_line c.in-Err.fault))
    (ok_more _ _ _ (λ known. NoScript c.in-Err.fault (record { refused = c.in-Err.ensures; known = known }) refl) c.fault_line.ensures.known) (NothingTold refl) refl (nothing g.K.Sink _)
    c.fault_line.ensures.line c.refuse.ensures
