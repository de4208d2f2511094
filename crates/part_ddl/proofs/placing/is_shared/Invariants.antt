use Rattle.std.proofs.Common.{◌≡◌, drop}
use Rattle.std.specs.List.{list_any}
use Rattle.bound_forms.specs.Listed.{lists, share_value}
use Rattle.part_ddl.proofs.placing.is_shared.Given as goal

-- none so far is listed, so the rest decides
abbrev pub invariant-loop-i : goal.invariant-loop-i
invariant-loop-i l = list_any (λ v. lists l._listed v) (drop l.i l.values) ≡ share_value l.values l._listed
