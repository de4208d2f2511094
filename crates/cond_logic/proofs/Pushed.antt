-- The truth of a condition whose NOT was pushed inwards.
use Rattle.std.proofs.Common.{◌≡◌, Bool, true, false, List, refl, sym, ◌∙◌, if◌then◌else◌}
use Rattle.std.specs.Ordering.{is_lt, is_le, is_eq, is_gt, is_ge, is_ne}
use Rattle.std.specs.declared.cmp.Ordering.{Ordering}
use Rattle.std.specs.declared.cmp.Ordering.TheVariants.{Less, Equal, Greater}
use Rattle.pg_values.specs.declared.value.Value.{Value}
use Rattle.pg_values.specs.Order.{order, are_comparable}
use Rattle.cond_logic.specs.declared.truth.Truth3.{Truth3}
use Rattle.cond_logic.specs.declared.truth.Truth3.TheVariants.{Yes, No, Unknown}
use Rattle.cond_logic.specs.declared.cond.CompareOp.{CompareOp}
use Rattle.cond_logic.specs.declared.cond.CompareOp.TheVariants.{Eq, Ne, Lt, Le, Gt, Ge}
use Rattle.cond_logic.specs.Tuples.{Places, value_of}
use Rattle.cond_logic.specs.Trees.{CondTree, CondTrees, no_more, and_more, all_of, any_of, inverted, compares, null_test, known}
use Rattle.cond_logic.specs.Truths.{least, greatest, opposite, decided, passes_by, compared, truth, least_of, greatest_of}
use Rattle.cond_logic.specs.Rewriting.{opposite_op, pushed, all_pushed, negation, negations, is_pushed, are_pushed}

opposite_least : (t u : Truth3) → greatest (opposite t) (opposite u) ≡ opposite (least t u)
opposite_least Yes u = refl
opposite_least No u = refl
opposite_least Unknown Yes = refl
opposite_least Unknown No = refl
opposite_least Unknown Unknown = refl

opposite_greatest : (t u : Truth3) → least (opposite t) (opposite u) ≡ opposite (greatest t u)
opposite_greatest Yes u = refl
opposite_greatest No u = refl
opposite_greatest Unknown Yes = refl
opposite_greatest Unknown No = refl
opposite_greatest Unknown Unknown = refl

opposite_twice : (t : Truth3) → opposite (opposite t) ≡ t
opposite_twice Yes = refl
opposite_twice No = refl
opposite_twice Unknown = refl

opposite_passes : (op : CompareOp) (o : Ordering) → decided (passes_by (opposite_op op) o) ≡ opposite (decided (passes_by op o))
opposite_passes Eq o = elim o as (λ r. decided (is_ne r) ≡ opposite (decided (is_eq r))) [ Less ↦ refl | Equal ↦ refl | Greater ↦ refl ]
opposite_passes Ne o = elim o as (λ r. decided (is_eq r) ≡ opposite (decided (is_ne r))) [ Less ↦ refl | Equal ↦ refl | Greater ↦ refl ]
opposite_passes Lt o = elim o as (λ r. decided (is_ge r) ≡ opposite (decided (is_lt r))) [ Less ↦ refl | Equal ↦ refl | Greater ↦ refl ]
opposite_passes Le o = elim o as (λ r. decided (is_gt r) ≡ opposite (decided (is_le r))) [ Less ↦ refl | Equal ↦ refl | Greater ↦ refl ]
opposite_passes Gt o = elim o as (λ r. decided (is_le r) ≡ opposite (decided (is_gt r))) [ Less ↦ refl | Equal ↦ refl | Greater ↦ refl ]
opposite_passes Ge o = elim o as (λ r. decided (is_lt r) ≡ opposite (decided (is_ge r))) [ Less ↦ refl | Equal ↦ refl | Greater ↦ refl ]

opposite_compared : (op : CompareOp) (a b : Value) → compared (opposite_op op) a b ≡ opposite (compared op a b)
opposite_compared op a b = where_comparable (are_comparable a b)
  where
    where_comparable : (c : Bool) → (if c then decided (passes_by (opposite_op op) (order a b)) else Unknown) ≡ opposite (if c then decided (passes_by op (order a b)) else Unknown)
    where_comparable true = opposite_passes op (order a b)
    where_comparable false = refl

module _ (rows : Places) (args : List Value) where
  mutual
    pub pushed_true : (t : CondTree) → truth rows args (pushed t) ≡ truth rows args t
    pushed_true (all_of ts) = all_true ts
    pushed_true (any_of ts) = any_true ts
    pushed_true (inverted t) = negation_true t
    pushed_true (compares op x y) = refl
    pushed_true (null_test x) = refl
    pushed_true (known t) = refl

    all_true : (ts : CondTrees) → least_of rows args (all_pushed ts) ≡ least_of rows args ts
    all_true no_more = refl
    all_true (and_more t ts) = rw (pushed_true t, all_true ts) refl

    any_true : (ts : CondTrees) → greatest_of rows args (all_pushed ts) ≡ greatest_of rows args ts
    any_true no_more = refl
    any_true (and_more t ts) = rw (pushed_true t, any_true ts) refl

    negation_true : (t : CondTree) → truth rows args (negation t) ≡ opposite (truth rows args t)
    negation_true (all_of ts) = any_negated ts
    negation_true (any_of ts) = all_negated ts
    negation_true (inverted t) = pushed_true t ∙ sym (opposite_twice (truth rows args t))
    negation_true (compares op x y) = opposite_compared op (value_of rows args x) (value_of rows args y)
    negation_true (null_test x) = refl
    negation_true (known t) = refl

    any_negated : (ts : CondTrees) → greatest_of rows args (negations ts) ≡ opposite (least_of rows args ts)
    any_negated no_more = refl
    any_negated (and_more t ts) = rw (negation_true t, any_negated ts) (opposite_least (truth rows args t) (least_of rows args ts))

    all_negated : (ts : CondTrees) → least_of rows args (negations ts) ≡ opposite (greatest_of rows args ts)
    all_negated no_more = refl
    all_negated (and_more t ts) = rw (negation_true t, all_negated ts) (opposite_greatest (truth rows args t) (greatest_of rows args ts))

mutual
  pub pushed_stands : (t : CondTree) → is_pushed (pushed t) ≡ true
  pushed_stands (all_of ts) = all_stand ts
  pushed_stands (any_of ts) = all_stand ts
  pushed_stands (inverted t) = negation_stands t
  pushed_stands (compares op x y) = refl
  pushed_stands (null_test x) = refl
  pushed_stands (known t) = refl

  all_stand : (ts : CondTrees) → are_pushed (all_pushed ts) ≡ true
  all_stand no_more = refl
  all_stand (and_more t ts) = rw (pushed_stands t, all_stand ts) refl

  negation_stands : (t : CondTree) → is_pushed (negation t) ≡ true
  negation_stands (all_of ts) = negations_stand ts
  negation_stands (any_of ts) = negations_stand ts
  negation_stands (inverted t) = pushed_stands t
  negation_stands (compares op x y) = refl
  negation_stands (null_test x) = refl
  negation_stands (known t) = refl

  negations_stand : (ts : CondTrees) → are_pushed (negations ts) ≡ true
  negations_stand no_more = refl
  negations_stand (and_more t ts) = rw (negation_stands t, negations_stand ts) refl
