use Rattle.std.proofs.Common.{◌≡◌, drop}
use Rattle.std.specs.List.{list_any}
use Rattle.bound_forms.specs.Listed.{is_same, lists}
use Rattle.bound_forms.proofs.listed.lists.Given as goal

-- none so far is the same, so the rest decides
abbrev pub invariant-loop-i : goal.invariant-loop-i
invariant-loop-i g l = list_any (λ w. is_same w l.v) (drop l.i l.values) ≡ lists l.values l.v
