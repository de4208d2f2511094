use Rattle.std.proofs.Common.{◌≡◌, length, map}
use Rattle.table_binder.specs.Columns.{kind_among}
use Rattle.table_binder.proofs.columns.kind_among.Given as goal

-- no line so far has the name
abbrev pub invariant-loop-lines : goal.invariant-loop-lines
invariant-loop-lines l = kind_among l.name (map (λ line. (line.0.now, line.1)) l.lines-2) ≡ kind_among l.name (map (λ line. (line.0.now, line.1)) l.lines)

abbrev pub decreases-loop-lines : goal.decreases-loop-lines
decreases-loop-lines l = length l.lines
