use Rattle.std.proofs.Common.{◌≡◌, ◌+◌, ◌++◌, [], ◌∷◌, drop, Ok, sym, ap, ◌∙◌, refl, rules, if◌then◌else◌}
use Rattle.bound_forms.specs.Listed.{lists}
use Rattle.table_binder.specs.ListedValues.{values_in}
use Rattle.table_binder.specs.RawBounds.{values_for, each_once}
use Rattle.pg_values.specs.Refusals.{faults_in, read_in}
use Rattle.table_binder.proofs.RawLaws.{values_step}
use Rattle.table_binder.proofs.OnceLaws.{further, once_start, added}
use Rattle.table_binder.proofs.raw_value.read_list.Goals as goal

pub loop-value-init : goal.loop-value-init
loop-value-init c = record {
  faults = refl;
  once = once_start (values_in c.new-once.result.keys) (read_in (values_for c.args.kind c.args.raw.now)) (ap values_in c.new-once.ensures.empty);
}

pub loop-value-preserved : goal.loop-value-preserved
loop-value-preserved c =
    let kind = c.args.kind in
    let raw = c.args.raw.now in
    let i = c.loop-value.value-index in
    let done = values_in c.loop-value.once.keys in
    let v = c.in_ok-read_raw.field-0 in
    let rest = values_for kind (drop (i + 1) raw) in
    let step : values_for kind (drop i raw) ≡ Ok v ∷ rest = values_step kind raw i c.value-item.result c.loop-value-test.true c.value-item.is ∙ ap (λ r. r ∷ rest) c.in_ok-read_raw.ensures in
    let is : values_in c.add_once.new.once.keys ≡ (if lists done v then done else done ++ v ∷ []) = search rules in
    record {
      faults = sym (ap faults_in step) ∙ c.loop-value.invariant.faults;
      once = added done v (read_in rest) (values_in c.add_once.new.once.keys) (each_once (read_in (values_for kind raw))) is (ap (λ r. done ++ further done (read_in r)) (sym step) ∙ c.loop-value.invariant.once);
    }
