use Rattle.std.proofs.Common.{◌≡◌, rules}
use Rattle.schedule.proofs.Pieces.{nothing_yet}
use Rattle.schedule.proofs.Results.{if_err}
use Rattle.schedule.proofs.Runs.{cut_head}
use Rattle.script_program.specs.Tasks.{permutations_of}
use Rattle.script_program.proofs.whole.run_script.Goals as goal

pub returns-in_err-permutations-clause-cut : goal.returns-in_err-permutations-clause-cut
returns-in_err-permutations-clause-cut g c = if_err c.from_residual.result _ (λ v st. cut_head _ _ _ _ _ _ (g.met.D.Database.stands_are_good _ v st) (nothing_yet _ _))

pub returns-clause-done : goal.returns-clause-done
returns-clause-done g c =
    let is : c.deref.result.now ≡ permutations_of c.args.script.now = search rules in
    rw is at c.run.ensures.done
