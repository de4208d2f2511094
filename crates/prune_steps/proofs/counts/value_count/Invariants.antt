use Rattle.std.proofs.Common.{◌≡◌, ◌+◌, ◌≤◌, not, drop}
use Rattle.bound_forms.specs.Points.{is_null}
use Rattle.prune_steps.specs.Tallies.{tally}
use Rattle.prune_steps.proofs.counts.value_count.Given as goal

abbrev pub invariant-loop-i : goal.invariant-loop-i
invariant-loop-i l = record {
  told : l.count + tally (λ v. not (is_null v)) (drop l.i l.values) ≡ tally (λ v. not (is_null v)) l.values;
  most : l.count ≤ l.i;
}
