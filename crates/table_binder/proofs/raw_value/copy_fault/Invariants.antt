use Rattle.std.proofs.Common.{◌≡◌, take}
use Rattle.table_binder.proofs.raw_value.copy_fault.Given as goal

-- the texts so far are copied
abbrev pub invariant-loop-text : goal.invariant-loop-text
invariant-loop-text l = l.args ≡ take l.text-index l.text-items
