use Rattle.std.proofs.Common.{◌^◌, ◌-◌, refl, true, replicate}
use Rattle.std.proofs.lemmas.List.{get_or-replicate}
use Rattle.prune_steps.proofs.Words.{filled}
use Rattle.prune_steps.proofs.kept_set.KeptSet.all.Goals as goal

pub returns : goal.returns
returns c = filled (replicate 8 (2 ^ 128 - 1)) (2 ^ 128 - 1) true (λ j lt. get_or-replicate 8 j (2 ^ 128 - 1) 0 lt) refl
