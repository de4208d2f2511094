use Rattle.std.proofs.Common.{◌≡◌, take}
use Rattle.row_router.proofs.level_key.copy_level.Given as goal

-- the columns so far are copied
abbrev pub invariant-loop-column : goal.invariant-loop-column
invariant-loop-column l = l.columns ≡ take l.column-index l.column-items
