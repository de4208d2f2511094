use Rattle.std.proofs.lemmas.List.{get_or-replicate}
use Rattle.prune_steps.proofs.child_counts.Counts.new.Goals as goal

pub returns : goal.returns
returns c = λ k h. get_or-replicate 1024 k 0 0 h
