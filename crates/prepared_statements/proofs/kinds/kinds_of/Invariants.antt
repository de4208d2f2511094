use Rattle.std.proofs.Common.{◌≡◌, ◌++◌, map, drop}
use Rattle.table_binder.specs.Columns.{kind_or_text}
use Rattle.prepared_statements.specs.Prepared.{types_faults}
use Rattle.prepared_statements.proofs.kinds.kinds_of.Given as goal

-- no type so far is missing, and the kinds so far stand before the rest
abbrev pub invariant-loop-name : goal.invariant-loop-name
invariant-loop-name l = record {
  faults : types_faults (drop l.name-index l.types) ≡ types_faults l.types;
  made : l.kinds.items ++ map kind_or_text (drop l.name-index l.types) ≡ map kind_or_text l.types;
}
