use Rattle.std.proofs.Common.{◌≡◌, ◌++◌, map, drop}
use Rattle.bound_forms.specs.Points.{picked}
use Rattle.row_change.proofs.keys.picked_key.Given as goal

-- the values so far stand before the rest
abbrev pub invariant-loop-column : goal.invariant-loop-column
invariant-loop-column l = l.key ++ picked l.row (map (λ c. c.position) (drop l.column-index l.columns)) ≡ picked l.row (map (λ c. c.position) l.columns)
