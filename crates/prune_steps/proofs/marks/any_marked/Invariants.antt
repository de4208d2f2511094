use Rattle.std.proofs.Common.{◌≡◌, drop}
use Rattle.std.specs.List.{list_any}
use Rattle.prune_steps.specs.Lists.{is_marked}
use Rattle.prune_steps.proofs.marks.any_marked.Given as goal

abbrev pub invariant-loop-k : goal.invariant-loop-k
invariant-loop-k g l = list_any (is_marked l.mark) (drop l.k l.set) ≡ list_any (is_marked l.mark) l.set
