use Rattle.std.proofs.Common.{◌≡◌, drop}
use Rattle.std.specs.List.{list_any}
use Rattle.bound_forms.specs.Points.{is_null}
use Rattle.bound_forms.proofs.key.has_null.Given as goal

-- none so far is null, so the rest decides
abbrev pub invariant-loop-i : goal.invariant-loop-i
invariant-loop-i g l =
    let key = g.Q.Key.values l.key in
    list_any is_null (drop l.i key) ≡ list_any is_null key
