use Rattle.std.proofs.Common.{◌≡◌, take}
use Rattle.table_binder.specs.ListedValues.{values_in}
use Rattle.table_binder.proofs.raw_value.values_of.Given as goal

-- the values so far are copied
abbrev pub invariant-loop-key : goal.invariant-loop-key
invariant-loop-key l = l.values ≡ values_in (take l.key-index l.keys)
