use Rattle.std.proofs.Common.{◌≡◌, drop}
use Rattle.row_change.specs.FullRows as full_rows
use Rattle.row_change.proofs.full_rows.value_for.Given as goal

-- no column so far is that one
abbrev pub invariant-loop-place : goal.invariant-loop-place
invariant-loop-place l = full_rows.value_for (drop l.place-index l.named) l.rest l.column ≡ full_rows.value_for l.named l.values l.column
