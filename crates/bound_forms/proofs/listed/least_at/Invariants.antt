use Rattle.std.proofs.Common.{◌≡◌, ◌<◌, length, drop, get_or}
use Rattle.std.specs.List.{fold}
use Rattle.pg_values.specs.declared.value.Value.TheVariants.{Null}
use Rattle.bound_forms.specs.Listed.{lesser_value, least}
use Rattle.bound_forms.proofs.listed.least_at.Given as goal

-- the least so far, with those still to come
abbrev pub invariant-loop-i : goal.invariant-loop-i
invariant-loop-i g l = record {
  within : l.at < length l.values;
  rest : fold lesser_value (get_or l.values l.at Null) (drop l.i l.values) ≡ least l.values;
}
