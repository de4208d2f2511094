-- The start of a chain is below its end.
use Rattle.std.proofs.Common.{◌≡◌, ℕ, zero, suc, ◌-◌, ◌<◌, ◌≤◌, true, List, [], ◌∷◌, length, refl, subst, sym, ap, ◌∙◌, arith}
use Rattle.std.specs.Ordering.{ordering_reverse}
use Rattle.std.specs.declared.cmp.Ordering.{Ordering}
use Rattle.std.specs.declared.cmp.Ordering.TheVariants.{Less, Equal, Greater}
use Rattle.pg_values.specs.declared.value.Value.{Value}
use Rattle.pg_values.specs.Order.{order}
use Rattle.pg_values.specs.KeyKinds.{order_total}
use Rattle.bound_forms.specs.declared.point.Fill.{Fill}
use Rattle.bound_forms.specs.declared.point.Fill.TheVariants.{Min, Max}
use Rattle.bound_forms.specs.Bounds.{is_below}
use Rattle.bound_forms.specs.Points.{end_of}
use Rattle.prune_steps.specs.declared.chain.ChainOp.{ChainOp}
use Rattle.prune_steps.specs.declared.chain.ChainOp.TheVariants.{Eq, Lt, Le, Gt, Ge}
use Rattle.prune_steps.specs.Runs.{ends_of}

same : (v : Value) → order v v ≡ Equal
same v = by (order v v) refl
  where
    by : (r : Ordering) → order v v ≡ r → order v v ≡ Equal
    by Equal e = e
    by Less e = absurd (contrary (sym e ∙ order_total.antisymm v v ∙ ap ordering_reverse e))
      where
        contrary : Less ≡ Greater → ⊥
        contrary q = cc
    by Greater e = absurd (contrary (sym e ∙ order_total.antisymm v v ∙ ap ordering_reverse e))
      where
        contrary : Greater ≡ Less → ⊥
        contrary q = cc

less : (w n : ℕ) → suc w - suc n ≡ w - n
less w n = omega arith

whole : (w : ℕ) → suc w - 0 ≡ suc w
whole w = omega arith

-- the same values, filled with MIN and with MAX
both_sides : (w n : ℕ) (values : List Value) → n ≤ length values → n < w → is_below (end_of w n Min values) (end_of w n Max values) ≡ true
both_sides zero n values h lt = absurd (omega arith)
both_sides (suc w) zero values h lt = rw (whole w) refl
both_sides (suc w) (suc n) [] h lt = absurd (omega arith)
both_sides (suc w) (suc n) (v ∷ values) h lt = rw (less w n, same v) (both_sides w n values (omega arith) (omega arith))

-- one value less, filled with MIN, is below
value_more : (w n : ℕ) (g : Fill) (values : List Value) → n < length values → n < w → is_below (end_of w n Min values) (end_of w (suc n) g values) ≡ true
value_more zero n g values h lt = absurd (omega arith)
value_more (suc w) zero g [] h lt = absurd (omega arith)
value_more (suc w) zero g (v ∷ values) h lt = rw (whole w) refl
value_more (suc w) (suc n) g [] h lt = absurd (omega arith)
value_more (suc w) (suc n) g (v ∷ values) h lt = rw (less w n, less w (suc n), same v) (value_more w n g values (omega arith) (omega arith))

-- and filled with MAX above
value_less : (w n : ℕ) (f : Fill) (values : List Value) → n < length values → n < w → is_below (end_of w (suc n) f values) (end_of w n Max values) ≡ true
value_less zero n f values h lt = absurd (omega arith)
value_less (suc w) zero f [] h lt = absurd (omega arith)
value_less (suc w) zero f (v ∷ values) h lt = rw (whole w) refl
value_less (suc w) (suc n) f [] h lt = absurd (omega arith)
value_less (suc w) (suc n) f (v ∷ values) h lt = rw (less w n, less w (suc n), same v) (value_less w n f values (omega arith) (omega arith))

pub chain_filled : (w : ℕ) (op : ChainOp) (values : List Value) → 0 < length values → length values < w → is_below (ends_of w op values).from (ends_of w op values).to ≡ true
chain_filled w op values some few = by op
  where
    more : length values ≡ suc (length values - 1)
    more = omega (arith, some)

    by : (op : ChainOp) → is_below (ends_of w op values).from (ends_of w op values).to ≡ true
    by Eq = both_sides w (length values) values (omega arith) few
    by Lt = subst (λ m. is_below (end_of w (length values - 1) Min values) (end_of w m Min values) ≡ true) (sym more) (value_more w (length values - 1) Min values (omega (arith, some)) (omega (arith, few)))
    by Le = subst (λ m. is_below (end_of w (length values - 1) Min values) (end_of w m Max values) ≡ true) (sym more) (value_more w (length values - 1) Max values (omega (arith, some)) (omega (arith, few)))
    by Gt = subst (λ m. is_below (end_of w m Max values) (end_of w (length values - 1) Max values) ≡ true) (sym more) (value_less w (length values - 1) Max values (omega (arith, some)) (omega (arith, few)))
    by Ge = subst (λ m. is_below (end_of w m Min values) (end_of w (length values - 1) Max values) ≡ true) (sym more) (value_less w (length values - 1) Min values (omega (arith, some)) (omega (arith, few)))
