-- The order of points is total.
use Rattle.std.proofs.Common.{◌≡◌, ℕ, refl, sym, ap, ◌∙◌}
use Rattle.std.specs.Cmp.{IsTotalOrder, on_total, then_total, nat_cmp_total}
use Rattle.std.specs.Cmp.Lexicographic.{lists_total}
use Rattle.std.specs.Ordering.{nat_cmp, on, then_cmp, ordering_reverse}
use Rattle.std.specs.declared.cmp.Ordering.{Ordering}
use Rattle.pg_values.specs.declared.value.Value.{Value}
use Rattle.pg_values.specs.declared.value.Value.TheVariants.{Null}
use Rattle.pg_values.specs.Order.{order}
use Rattle.pg_values.specs.KeyKinds.{order_total}
use Rattle.bound_forms.specs.declared.point.Edge.{Edge}
use Rattle.bound_forms.specs.declared.point.Edge.TheVariants.{Min, At, Max}
use Rattle.bound_forms.specs.Points.{edge_order, point_order}

abbrev side : Edge → ℕ
side Min = 0
side (At v) = 1
side Max = 2

abbrev value_in : Edge → Value
value_in (At v) = v
value_in _ = Null

abbrev by_parts : Edge → Edge → Ordering
by_parts = then_cmp (on side nat_cmp) (on value_in order)

edge_order-by_parts : (x y : Edge) → edge_order x y ≡ by_parts x y
edge_order-by_parts Min Min = refl
edge_order-by_parts Min (At y) = refl
edge_order-by_parts Min Max = refl
edge_order-by_parts (At x) Min = refl
edge_order-by_parts (At x) (At y) = refl
edge_order-by_parts (At x) Max = refl
edge_order-by_parts Max Min = refl
edge_order-by_parts Max (At y) = refl
edge_order-by_parts Max Max = refl

pub edge_total : IsTotalOrder edge_order
edge_total =
    let o : IsTotalOrder by_parts = then_total (on_total side nat_cmp_total) (on_total value_in order_total) in
    record {
      antisymm = λ x y. edge_order-by_parts x y ∙ o.antisymm x y ∙ ap ordering_reverse (sym (edge_order-by_parts y x));
      trans = λ x y z p q. edge_order-by_parts x z ∙ o.trans x y z (sym (edge_order-by_parts x y) ∙ p) (sym (edge_order-by_parts y z) ∙ q);
      congr = λ x y z p. edge_order-by_parts x z ∙ o.congr x y z (sym (edge_order-by_parts x y) ∙ p) ∙ sym (edge_order-by_parts y z);
    }

pub point_total : IsTotalOrder point_order
point_total = lists_total edge_total
