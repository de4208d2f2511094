use Rattle.std.proofs.Common.{◌≡◌, drop}
use Rattle.std.specs.List.{list_any}
use Rattle.bound_forms.specs.Listed.{lists, share_value}
use Rattle.part_bounds.proofs.counted.count_share.Given as goal

-- none so far is among the others, so the rest decides
abbrev pub invariant-loop-i : goal.invariant-loop-i
invariant-loop-i g l = list_any (λ v. lists l.others v) (drop l.i l.values) ≡ share_value l.values l.others
