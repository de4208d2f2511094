use Rattle.std.proofs.Common.{◌≡◌, ◌≤◌, ℕ, ap, subst, sym, arith}
use Rattle.std.proofs.lemmas.List.{get_or_past}
use Rattle.std.proofs.lemmas.Result.{IfOk-weaker}
use Rattle.script_program.specs.Draws.{Drawn, Moves}
use Rattle.script_program.specs.LoadScript.{attach, statement_of, statements}
use Rattle.script_program.proofs.DrawLaws.{by_draw}
use Rattle.script_program.proofs.load.Load.write_statement.Goals as goal

pub returns-in_default : goal.returns-in_default
returns-in_default c =
    let drawn = c.draw in
    let past : 9 ≤ drawn.result = omega arith in
    let is : statement_of drawn.result ≡ attach = get_or_past statements drawn.result attach past in
    IfOk-weaker c.write_attach.result _ _ (λ _ h. by_draw 10 drawn.result statement_of drawn.ensures.number drawn.ensures.state (ap (λ v. v.items) drawn.ensures.text)
    (subst (λ (d : Drawn ℕ). Moves d drawn.new.self.state drawn.new.self.text.items c.write_attach.new.self.state c.write_attach.new.self.text.items) (sym is) h)) c.write_attach.ensures
