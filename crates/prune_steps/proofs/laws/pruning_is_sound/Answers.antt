use Rattle.std.proofs.Common.{◌∙◌, ◌++◌}
use Rattle.cond_logic.specs.Rewriting.{pushed, with_args}
use Rattle.cond_logic.specs.Tuples.{put}
use Rattle.cond_logic.proofs.Bound.{bound_true}
use Rattle.cond_logic.proofs.Pushed.{pushed_true}
use Rattle.prune_steps.proofs.Sound.{sound}
use Rattle.prune_steps.proofs.laws.pruning_is_sound.Goals as goal

pub returns : goal.returns
returns c = λ a bounds rows args later row t b few of passed acc.
    let full = put rows a.item row in
    sound a bounds rows (args ++ later) row b few of acc (pushed (with_args args t)) (pushed_true full (args ++ later) (with_args args t) ∙ bound_true full args later t ∙ passed)
