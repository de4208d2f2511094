use Rattle.std.proofs.Common.{◌≡◌, drop}
use Rattle.std.specs.List.{list_any}
use Rattle.bound_forms.specs.Points.{is_null}
use Rattle.part_bounds.proofs.listing.has_null.Given as goal

-- none so far is null, so the rest decides
abbrev pub invariant-loop-i : goal.invariant-loop-i
invariant-loop-i l = list_any is_null (drop l.i l.values) ≡ list_any is_null l.values
