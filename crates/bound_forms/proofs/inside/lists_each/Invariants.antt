use Rattle.std.proofs.Common.{◌≡◌, drop}
use Rattle.std.specs.List.{list_all}
use Rattle.bound_forms.specs.Listed.{lists}
use Rattle.bound_forms.specs.Within.{lists_all}
use Rattle.bound_forms.proofs.inside.lists_each.Given as goal

-- each so far is among the others, so the rest decides
abbrev pub invariant-loop-i : goal.invariant-loop-i
invariant-loop-i l = list_all (λ v. lists l.others v) (drop l.i l.values) ≡ lists_all l.values l.others
