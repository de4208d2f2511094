use Rattle.std.proofs.Common.{◌≡◌, ◌++◌, drop}
use Rattle.sql_binder.specs.Values.{values_of}
use Rattle.sql_binder.proofs.values.values_of.Given as goal

-- the values so far stand before the rest
abbrev pub invariant-loop-param : goal.invariant-loop-param
invariant-loop-param l = l.values.items ++ values_of (drop l.param-index l.params) ≡ values_of l.params
