use Rattle.std.proofs.Common.{◌≡◌, ◌∙◌, ◌+◌, ℕ, Some, slice_index, ap, refl}
use Rattle.std.proofs.lemmas.Result.{IfOk-weaker}
use Rattle.script_program.specs.Draws.{draw}
use Rattle.script_program.specs.LoadScript.{session_with_step}
use Rattle.script_program.proofs.DrawLaws.{joined}
use Rattle.script_program.proofs.PermutationLaws.{some_use}
use Rattle.script_program.proofs.load.Load.write_use.Goals as goal

pub returns : goal.returns
returns c =
    let given = c.args.given.now in
    let drawn = c.draw-first in
    let session = c.in-Some.session in
    let is : Some session ≡ session_with_step (draw 8 c.args.self.now.state) given =
    c.in-Some.ensures.session ∙ ap (λ (n : ℕ). session_with_step n given) drawn.ensures.number in
    IfOk-weaker c.write_number-2.result _ _ (λ _ h. some_use session (slice_index given session + 1) is refl refl drawn.ensures.state (ap (λ v. v.items) drawn.ensures.text)
    (joined _ _ (joined _ _ (joined _ _ c.in_ok-write.ensures c.in_ok-write_number.ensures) c.in_ok-write-2.ensures) h)) c.write_number-2.ensures
