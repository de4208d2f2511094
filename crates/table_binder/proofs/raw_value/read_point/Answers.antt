use Rattle.std.proofs.Common.{◌≡◌, ◌<◌, ◌+◌, ◌++◌, [], ◌∷◌, drop, length, Ok, sym, ap, ◌∙◌, rules, arith}
use Rattle.pg_values.specs.declared.value.Kind.TheVariants.{Int4 as KInt4}
use Rattle.bound_forms.specs.declared.level.KeyColumn.{KeyColumn}
use Rattle.table_binder.specs.RawBounds.{edges_for}
use Rattle.pg_values.specs.Refusals.{faults_in, read_in}
use Rattle.table_binder.proofs.RawLaws.{edges_step, read_more}
use Rattle.table_binder.proofs.raw_value.read_point.Goals as goal

pub loop-i-preserved : goal.loop-i-preserved
loop-i-preserved c =
    let columns = c.args.columns.now in
    let edges = c.args.edges.now in
    let i = c.loop-i.i in
    let x = c.in_ok-read_edge.field-0 in
    let d : KeyColumn = record { position = 0; kind = KInt4 } in
    let rest = edges_for (drop (i + 1) columns) (drop (i + 1) edges) in
    let within : i < length columns = omega arith in
    let step : edges_for (drop i columns) (drop i edges) ≡ Ok x ∷ rest =
    edges_step columns edges i d c.index-edges-i.result within c.loop-i-test.true c.index-edges-i.is ∙ ap (λ r. r ∷ rest) c.in_ok-read_edge.ensures
    in
    let is : c.add_edge.new.edges.items ≡ c.loop-i.point.items ++ x ∷ [] = search rules in
    record {
      faults = sym (ap faults_in step) ∙ c.loop-i.invariant.faults;
      read = read_more c.loop-i.point.items c.add_edge.new.edges.items x (read_in rest) (read_in (edges_for columns edges)) is (ap (λ r. c.loop-i.point.items ++ read_in r) (sym step) ∙ c.loop-i.invariant.read);
    }
