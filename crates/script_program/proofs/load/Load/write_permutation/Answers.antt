use Rattle.std.proofs.Common.{◌≡◌, ℕ, List, replicate, arith, refl, subst}
use Rattle.std.proofs.lemmas.Result.{IfOk-weaker}
use Rattle.script_program.specs.Draws.{Moves, repeated}
use Rattle.script_program.specs.LoadScript.{one_use}
use Rattle.script_program.proofs.DrawLaws.{none, once_more}
use Rattle.script_program.proofs.PermutationLaws.{permuted}
use Rattle.script_program.proofs.load.Load.write_permutation.Goals as goal

pub loop-init : goal.loop-init
loop-init c = none

pub loop-preserved : goal.loop-preserved
loop-preserved c = once_more c.loop.counter one_use c.loop.invariant c.in_ok-write_use.ensures

pub returns : goal.returns
returns c =
    let all : c.loop.counter ≡ 512 = omega arith in
    let fresh : List ℕ = replicate 8 0 in
    let uses = subst (λ (n : ℕ). Moves (repeated n one_use) (c.write.new.self.state, fresh) c.write.new.self.text.items (c.loop.self.state, c.loop.given) c.loop.self.text.items) all c.loop.invariant in
    IfOk-weaker c.write-2.result _ _ (λ _ h. permuted {given = fresh} refl c.in_ok-write.ensures uses h) c.write-2.ensures
