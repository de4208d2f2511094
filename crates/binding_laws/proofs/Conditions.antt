-- Conditions without a fault fit.
use Rattle.std.proofs.Common.{◌≡◌, ℕ, ◌-◌, ◌==◌, Bool, true, false, not, List, [], ◌∷◌, ◌++◌, Option, Some, None, Result, Ok, Err, slice_get, refl, sym, ap, subst, ◌∙◌, if◌then◌else◌}
use Rattle.pg_values.specs.declared.fault.Fault.{Fault}
use Rattle.pg_values.specs.declared.value.Kind.{Kind}
use Rattle.pg_values.specs.declared.value.Kind.TheVariants.{Int4 as KInt4, Int8 as KInt8, Text as KText, Day as KDay, Truth as KTruth}
use Rattle.pg_values.specs.declared.value.Value.{Value}
use Rattle.pg_values.specs.declared.value.Value.TheVariants as value
use Rattle.sql_ast.specs.declared.leaf.Leaf.{Leaf}
use Rattle.sql_ast.specs.declared.leaf.Leaf.TheVariants.{Number, Text, Date, Null, Truth, Parameter, Column, ColumnOf, TableName, TableNameOf}
use Rattle.sql_ast.specs.declared.leaf.Operator.{Operator}
use Rattle.sql_ast.specs.declared.leaf.Operator.TheVariants as op
use Rattle.sql_ast.specs.Expressions as trees
use Rattle.sql_ast.specs.Expressions.{Tree, Trees, leaf, call, call_of_all, negated, binary, in_list, between, is_null, inverted}
use Rattle.cond_logic.specs.Scalars.{ScalarTree, column, literal, table_name, computes, cancels}
use Rattle.cond_logic.specs.Trees as conds
use Rattle.cond_logic.specs.Trees.{CondTree}
use Rattle.cond_logic.specs.declared.cond.CompareOp.{CompareOp}
use Rattle.cond_logic.specs.declared.cond.CompareOp.TheVariants.{Eq}
use Rattle.cond_logic.specs.declared.cond.Operand.{Operand}
use Rattle.cond_logic.specs.declared.cond.Operand.TheVariants as bound
use Rattle.expression_binder.specs.declared.scope.Param.{Param}
use Rattle.expression_binder.specs.declared.typed.Given.{Given}
use Rattle.expression_binder.specs.declared.typed.Given.TheVariants.{Of, Quoted, Nothing}
use Rattle.expression_binder.specs.declared.typed.Typed.{Typed}
use Rattle.expression_binder.specs.Conditions.{in_op, from_op, to_op, list_faults, end_faults, cond_faults, part_faults, alone_faults}
use Rattle.expression_binder.specs.Constants.{scalar}
use Rattle.expression_binder.specs.Firsts.{unless, fault_in}
use Rattle.expression_binder.specs.Kinds.{is_arithmetic, kind_made, kind_beside, given_by, are_alike, kind_alone, side_kind, is_truth, truth_faults, comparison_faults}
use Rattle.expression_binder.specs.Meanings.{as_operand, operand_of, param_operand, operand, side, alone, compare_op, side_faults, or_null, comparison, each_side_faults, comparisons, inverted_if, any_of, all_of, in_meaning, is_true, leaf_meaning, constant_faults, constants_faults, meaning, meanings}
use Rattle.expression_binder.specs.Operands.{typed, all_typed, operand_faults, operands_faults, param_faults, param_given}
use Rattle.expression_binder.specs.Scopes.{Item, Scope, param}
use Rattle.binding_laws.specs.Fitting.{IsOf, HasKind, SideOf, Fits, AllFit, IsSound}
use Rattle.binding_laws.proofs.Operands.{front_none, back_none, kept, Gives, side_gives, alone_gives, scalar_has}

abbrev done : Operand → Result Operand Fault
done x = Ok x

found : (r : Result Operand Fault) → fault_in r ≡ [] → r ≡ Ok (or_null r)
found (Ok x) h = refl
found (Err f) h = cc

operand_ok : (r : Result ScalarTree Fault) (x : Operand) → operand_of r ≡ Ok x → (y : ScalarTree) × (r ≡ Ok y) × (as_operand y ≡ x)
operand_ok (Ok y) x h = (y, refl, cc)
operand_ok (Err f) x h = cc

-- a column or a value is of the kind that it has as a scalar
as_side : (items : List Item) (params : List Param) (k : Kind) (y : ScalarTree) → HasKind items y k → SideOf items params (as_operand y) k
as_side items params k (column c) h = h
as_side items params k (literal v) h = h
as_side items params k (table_name n) h = tt
as_side items params k (computes a x y) h = tt
as_side items params k (cancels x) h = tt

-- no operator makes a boolean
no_truth : {A : Type 0} (o : Operator) (k l : Kind) → truth_faults (given_by (kind_made o k l)) ≡ [] → A
no_truth op.Add KInt4 KInt4 h = cc
no_truth op.Add KInt4 KInt8 h = cc
no_truth op.Add KInt4 KText h = cc
no_truth op.Add KInt4 KDay h = cc
no_truth op.Add KInt4 KTruth h = cc
no_truth op.Add KInt8 KInt4 h = cc
no_truth op.Add KInt8 KInt8 h = cc
no_truth op.Add KInt8 KText h = cc
no_truth op.Add KInt8 KDay h = cc
no_truth op.Add KInt8 KTruth h = cc
no_truth op.Add KText KInt4 h = cc
no_truth op.Add KText KInt8 h = cc
no_truth op.Add KText KText h = cc
no_truth op.Add KText KDay h = cc
no_truth op.Add KText KTruth h = cc
no_truth op.Add KDay KInt4 h = cc
no_truth op.Add KDay KInt8 h = cc
no_truth op.Add KDay KText h = cc
no_truth op.Add KDay KDay h = cc
no_truth op.Add KDay KTruth h = cc
no_truth op.Add KTruth KInt4 h = cc
no_truth op.Add KTruth KInt8 h = cc
no_truth op.Add KTruth KText h = cc
no_truth op.Add KTruth KDay h = cc
no_truth op.Add KTruth KTruth h = cc
no_truth op.Subtract KInt4 KInt4 h = cc
no_truth op.Subtract KInt4 KInt8 h = cc
no_truth op.Subtract KInt4 KText h = cc
no_truth op.Subtract KInt4 KDay h = cc
no_truth op.Subtract KInt4 KTruth h = cc
no_truth op.Subtract KInt8 KInt4 h = cc
no_truth op.Subtract KInt8 KInt8 h = cc
no_truth op.Subtract KInt8 KText h = cc
no_truth op.Subtract KInt8 KDay h = cc
no_truth op.Subtract KInt8 KTruth h = cc
no_truth op.Subtract KText KInt4 h = cc
no_truth op.Subtract KText KInt8 h = cc
no_truth op.Subtract KText KText h = cc
no_truth op.Subtract KText KDay h = cc
no_truth op.Subtract KText KTruth h = cc
no_truth op.Subtract KDay KInt4 h = cc
no_truth op.Subtract KDay KInt8 h = cc
no_truth op.Subtract KDay KText h = cc
no_truth op.Subtract KDay KDay h = cc
no_truth op.Subtract KDay KTruth h = cc
no_truth op.Subtract KTruth KInt4 h = cc
no_truth op.Subtract KTruth KInt8 h = cc
no_truth op.Subtract KTruth KText h = cc
no_truth op.Subtract KTruth KDay h = cc
no_truth op.Subtract KTruth KTruth h = cc
no_truth op.Multiply KInt4 KInt4 h = cc
no_truth op.Multiply KInt4 KInt8 h = cc
no_truth op.Multiply KInt4 KText h = cc
no_truth op.Multiply KInt4 KDay h = cc
no_truth op.Multiply KInt4 KTruth h = cc
no_truth op.Multiply KInt8 KInt4 h = cc
no_truth op.Multiply KInt8 KInt8 h = cc
no_truth op.Multiply KInt8 KText h = cc
no_truth op.Multiply KInt8 KDay h = cc
no_truth op.Multiply KInt8 KTruth h = cc
no_truth op.Multiply KText KInt4 h = cc
no_truth op.Multiply KText KInt8 h = cc
no_truth op.Multiply KText KText h = cc
no_truth op.Multiply KText KDay h = cc
no_truth op.Multiply KText KTruth h = cc
no_truth op.Multiply KDay KInt4 h = cc
no_truth op.Multiply KDay KInt8 h = cc
no_truth op.Multiply KDay KText h = cc
no_truth op.Multiply KDay KDay h = cc
no_truth op.Multiply KDay KTruth h = cc
no_truth op.Multiply KTruth KInt4 h = cc
no_truth op.Multiply KTruth KInt8 h = cc
no_truth op.Multiply KTruth KText h = cc
no_truth op.Multiply KTruth KDay h = cc
no_truth op.Multiply KTruth KTruth h = cc
no_truth op.Divide KInt4 KInt4 h = cc
no_truth op.Divide KInt4 KInt8 h = cc
no_truth op.Divide KInt4 KText h = cc
no_truth op.Divide KInt4 KDay h = cc
no_truth op.Divide KInt4 KTruth h = cc
no_truth op.Divide KInt8 KInt4 h = cc
no_truth op.Divide KInt8 KInt8 h = cc
no_truth op.Divide KInt8 KText h = cc
no_truth op.Divide KInt8 KDay h = cc
no_truth op.Divide KInt8 KTruth h = cc
no_truth op.Divide KText KInt4 h = cc
no_truth op.Divide KText KInt8 h = cc
no_truth op.Divide KText KText h = cc
no_truth op.Divide KText KDay h = cc
no_truth op.Divide KText KTruth h = cc
no_truth op.Divide KDay KInt4 h = cc
no_truth op.Divide KDay KInt8 h = cc
no_truth op.Divide KDay KText h = cc
no_truth op.Divide KDay KDay h = cc
no_truth op.Divide KDay KTruth h = cc
no_truth op.Divide KTruth KInt4 h = cc
no_truth op.Divide KTruth KInt8 h = cc
no_truth op.Divide KTruth KText h = cc
no_truth op.Divide KTruth KDay h = cc
no_truth op.Divide KTruth KTruth h = cc
no_truth op.Remainder KInt4 KInt4 h = cc
no_truth op.Remainder KInt4 KInt8 h = cc
no_truth op.Remainder KInt4 KText h = cc
no_truth op.Remainder KInt4 KDay h = cc
no_truth op.Remainder KInt4 KTruth h = cc
no_truth op.Remainder KInt8 KInt4 h = cc
no_truth op.Remainder KInt8 KInt8 h = cc
no_truth op.Remainder KInt8 KText h = cc
no_truth op.Remainder KInt8 KDay h = cc
no_truth op.Remainder KInt8 KTruth h = cc
no_truth op.Remainder KText KInt4 h = cc
no_truth op.Remainder KText KInt8 h = cc
no_truth op.Remainder KText KText h = cc
no_truth op.Remainder KText KDay h = cc
no_truth op.Remainder KText KTruth h = cc
no_truth op.Remainder KDay KInt4 h = cc
no_truth op.Remainder KDay KInt8 h = cc
no_truth op.Remainder KDay KText h = cc
no_truth op.Remainder KDay KDay h = cc
no_truth op.Remainder KDay KTruth h = cc
no_truth op.Remainder KTruth KInt4 h = cc
no_truth op.Remainder KTruth KInt8 h = cc
no_truth op.Remainder KTruth KText h = cc
no_truth op.Remainder KTruth KDay h = cc
no_truth op.Remainder KTruth KTruth h = cc
no_truth op.Equal k l h = cc
no_truth op.NotEqual k l h = cc
no_truth op.Less k l h = cc
no_truth op.LessEqual k l h = cc
no_truth op.Greater k l h = cc
no_truth op.GreaterEqual k l h = cc

module _ (s : Scope) (sound : IsSound s) where
  scalar_side : (t : Tree) (k : Kind) (x : Operand) → operand_faults s t ≡ [] → Gives (typed s t).given k k → operand_of (scalar s k t) ≡ Ok x → SideOf s.items s.params x k
  scalar_side t k x none gives e =
      let y = operand_ok (scalar s k t) x e in
      subst (λ z. SideOf s.items s.params z k) y.2 (as_side s.items s.params k y.0 (scalar_has s sound t k k y.0 none gives y.1))

  param_side : (n : ℕ) (k : Kind) (x : Operand) → param_faults n (param s.params n) ≡ [] → Gives (param_given (param s.params n)) k k → done (param_operand n (param s.params n)) ≡ Ok x → SideOf s.items s.params x k
  param_side n k x none gives e = by_zero (n == 0) none gives e
    where
      by_param : (o : Option Param) → slice_get s.params (n - 1) ≡ o → param_faults n o ≡ [] → Gives (param_given o) k k → done (param_operand n o) ≡ Ok x → SideOf s.items s.params x k
      by_param None p q t r = cc
      by_param (Some a) p q t r = let same : bound.Param (n - 1) ≡ x = cc in subst (λ z. SideOf s.items s.params z k) same (a, p, t)

      by_zero : (b : Bool) → param_faults n (if b then None else slice_get s.params (n - 1)) ≡ [] → Gives (param_given (if b then None else slice_get s.params (n - 1))) k k
          → done (param_operand n (if b then None else slice_get s.params (n - 1))) ≡ Ok x → SideOf s.items s.params x k
      by_zero true q t r = cc
      by_zero false q t r = by_param (slice_get s.params (n - 1)) refl q t r

  -- an operand without a fault, in a place that gives it
  operand_side : (t : Tree) (k : Kind) (x : Operand) → operand_faults s t ≡ [] → Gives (typed s t).given k k → operand s k t ≡ Ok x → SideOf s.items s.params x k
  operand_side (leaf (Parameter n)) k x none gives e = param_side n k x none gives e
  operand_side (leaf (Number n)) k x none gives e = scalar_side (leaf (Number n)) k x none gives e
  operand_side (leaf (Text z)) k x none gives e = scalar_side (leaf (Text z)) k x none gives e
  operand_side (leaf (Date z)) k x none gives e = scalar_side (leaf (Date z)) k x none gives e
  operand_side (leaf Null) k x none gives e = scalar_side (leaf Null) k x none gives e
  operand_side (leaf (Truth b)) k x none gives e = scalar_side (leaf (Truth b)) k x none gives e
  operand_side (leaf (Column c)) k x none gives e = scalar_side (leaf (Column c)) k x none gives e
  operand_side (leaf (ColumnOf t c)) k x none gives e = scalar_side (leaf (ColumnOf t c)) k x none gives e
  operand_side (leaf TableName) k x none gives e = scalar_side (leaf TableName) k x none gives e
  operand_side (leaf (TableNameOf t)) k x none gives e = scalar_side (leaf (TableNameOf t)) k x none gives e
  operand_side (call f ts) k x none gives e = scalar_side (call f ts) k x none gives e
  operand_side (call_of_all f) k x none gives e = scalar_side (call_of_all f) k x none gives e
  operand_side (negated t) k x none gives e = scalar_side (negated t) k x none gives e
  operand_side (binary o a b) k x none gives e = scalar_side (binary o a b) k x none gives e
  operand_side (in_list b t ts) k x none gives e = scalar_side (in_list b t ts) k x none gives e
  operand_side (between b t u w) k x none gives e = scalar_side (between b t u w) k x none gives e
  operand_side (is_null b t) k x none gives e = scalar_side (is_null b t) k x none gives e
  operand_side (inverted t) k x none gives e = scalar_side (inverted t) k x none gives e
  operand_side (trees.all_of ts) k x none gives e = scalar_side (trees.all_of ts) k x none gives e
  operand_side (trees.any_of ts) k x none gives e = scalar_side (trees.any_of ts) k x none gives e

  -- ---- comparisons

  alike : (o : Operator) (x y : Given) → comparison_faults o x y ≡ [] → are_alike (side_kind y x) (side_kind x y) ≡ true
  unfolding comparison_faults
  alike o x y h = kept _ _ h

  both : (x y : Tree) → side_faults s x y ≡ [] → (side s y x ≡ Ok (or_null (side s y x))) × (side s x y ≡ Ok (or_null (side s x y)))
  unfolding side_faults
  both x y h = (found (side s y x) (front_none (fault_in (side s y x)) _ h), found (side s x y) (back_none (fault_in (side s y x)) _ h))

  compared : (o : Operator) (x y : Tree) → operand_faults s x ≡ [] → operand_faults s y ≡ [] → comparison_faults o (typed s x).given (typed s y).given ≡ [] → side_faults s x y ≡ [] → Fits s.items s.params (comparison s o x y)
  compared o x y none_x none_y none h =
      let gx = (typed s x).given in
      let gy = (typed s y).given in
      let sides = both x y h in (
        side_kind gy gx,
        side_kind gx gy,
        operand_side x (side_kind gy gx) (or_null (side s y x)) none_x (side_gives gy gx) sides.0,
        operand_side y (side_kind gx gy) (or_null (side s x y)) none_y (side_gives gx gy) sides.1,
        alike o gx gy none,
      )

  compared_each : (o : Operator) (x : Tree) (ts : Trees) → operand_faults s x ≡ [] → operands_faults s ts ≡ [] → list_faults o (typed s x).given (all_typed s ts) ≡ [] → each_side_faults s x ts ≡ []
      → AllFit s.items s.params (conds.listed (comparisons s o x ts))
  compared_each o x trees.no_more none_x none h e = tt
  compared_each o x (trees.and_more t ts) none_x none h e = (
    compared o x t none_x (front_none (operand_faults s t) _ none) (front_none (comparison_faults o (typed s x).given (typed s t).given) _ h) (front_none (side_faults s x t) _ e),
    compared_each o x ts none_x (back_none (operand_faults s t) _ none) (back_none (comparison_faults o (typed s x).given (typed s t).given) _ h) (back_none (side_faults s x t) _ e),
  )

  any_fits : (cs : List CondTree) → AllFit s.items s.params (conds.listed cs) → Fits s.items s.params (any_of cs)
  any_fits [] h = h
  any_fits (c ∷ []) h = h.0
  any_fits (c ∷ d ∷ cs) h = h

  all_fits : (cs : List CondTree) → AllFit s.items s.params (conds.listed cs) → Fits s.items s.params (all_of cs)
  all_fits [] h = h
  all_fits (c ∷ []) h = h.0
  all_fits (c ∷ d ∷ cs) h = h

  in_fits : (b : Bool) (cs : List CondTree) → AllFit s.items s.params (conds.listed cs) → Fits s.items s.params (in_meaning b cs)
  in_fits true cs h = all_fits cs h
  in_fits false cs h = any_fits cs h

  inverted_fits : (b : Bool) (c : CondTree) → Fits s.items s.params c → Fits s.items s.params (inverted_if b c)
  inverted_fits true c h = h
  inverted_fits false c h = h

  -- ---- an operand by itself

  truth_of : (g : Given) → truth_faults g ≡ [] → Gives g KTruth KTruth
  truth_of (Of KTruth) h = refl
  truth_of (Of KInt4) h = cc
  truth_of (Of KInt8) h = cc
  truth_of (Of KText) h = cc
  truth_of (Of KDay) h = cc
  truth_of Quoted h = refl
  truth_of Nothing h = tt

  alone_true : (t : Tree) → alone_faults s t ≡ [] → fault_in (operand s KTruth t) ≡ [] → Fits s.items s.params (is_true (or_null (operand s KTruth t)))
  alone_true t h e =
      let none = front_none (operand_faults s t) _ h in
      let truth = back_none (operand_faults s t) _ h in
      (KTruth, KTruth, operand_side t KTruth (or_null (operand s KTruth t)) none (truth_of (typed s t).given truth) (found (operand s KTruth t) e), refl, refl)

  leaf_fits : (l : Leaf) → alone_faults s (leaf l) ≡ [] → fault_in (operand s KTruth (leaf l)) ≡ [] → Fits s.items s.params (leaf_meaning s l)
  leaf_fits (Truth true) h e = tt
  leaf_fits (Truth false) h e = tt
  leaf_fits (Number n) h e = alone_true (leaf (Number n)) h e
  leaf_fits (Text z) h e = alone_true (leaf (Text z)) h e
  leaf_fits (Date z) h e = alone_true (leaf (Date z)) h e
  leaf_fits Null h e = alone_true (leaf Null) h e
  leaf_fits (Parameter n) h e = alone_true (leaf (Parameter n)) h e
  leaf_fits (Column c) h e = alone_true (leaf (Column c)) h e
  leaf_fits (ColumnOf t c) h e = alone_true (leaf (ColumnOf t c)) h e
  leaf_fits TableName h e = alone_true (leaf TableName) h e
  leaf_fits (TableNameOf t) h e = alone_true (leaf (TableNameOf t)) h e

  -- arithmetic gives no boolean, so it is no condition
  binary_fits : (o : Operator) (x y : Tree) → cond_faults s (binary o x y) ≡ [] → side_faults s x y ≡ [] → Fits s.items s.params (comparison s o x y)
  binary_fits o x y h e = by_test (is_arithmetic o) refl h
    where
      by_test : (b : Bool) → is_arithmetic o ≡ b
          → (if b then alone_faults s (binary o x y) else operand_faults s x ++ (operand_faults s y ++ comparison_faults o (typed s x).given (typed s y).given)) ≡ [] → Fits s.items s.params (comparison s o x y)
      by_test true p q = no_truth o (kind_beside o (typed s y).given (typed s x).given) (kind_beside o (typed s x).given (typed s y).given) (back_none (operand_faults s (binary o x y)) _ q)
      by_test false p q =
          let behind = back_none (operand_faults s x) _ q in
          compared o x y (front_none (operand_faults s x) _ q) (front_none (operand_faults s y) _ behind) (back_none (operand_faults s y) _ behind) e

  between_fits : (b : Bool) (x y z : Tree) → cond_faults s (between b x y z) ≡ [] → constant_faults s (between b x y z) ≡ [] → Fits s.items s.params (meaning s (between b x y z))
  between_fits b x y z h e =
      let none_x = front_none (operand_faults s x) _ h in
      let range = back_none (operand_faults s x) _ h in
      let lower = front_none (end_faults s (from_op b) x y) _ range in
      let upper = back_none (end_faults s (from_op b) x y) _ range in
      let none_y = front_none (operand_faults s y) _ lower in
      let none_z = front_none (operand_faults s z) _ upper in
      in_fits (not b) (comparison s (from_op b) x y ∷ comparison s (to_op b) x z ∷ []) (compared (from_op b) x y none_x none_y (back_none (operand_faults s y) _ lower) (front_none (side_faults s x y) _ e), (compared (to_op b) x z none_x none_z (back_none (operand_faults s z) _ upper) (back_none (side_faults s x y) _ e), tt))

  mutual
    pub condition_fits : (t : Tree) → cond_faults s t ≡ [] → constant_faults s t ≡ [] → Fits s.items s.params (meaning s t)
    condition_fits (leaf l) h e = leaf_fits l h e
    condition_fits (call f ts) h e = tt
    condition_fits (call_of_all f) h e = tt
    condition_fits (negated t) h e = tt
    condition_fits (binary o x y) h e = binary_fits o x y h e
    condition_fits (in_list b x ts) h e =
        let none_x = front_none (operand_faults s x) _ h in
        let behind = back_none (operand_faults s x) _ h in
        in_fits b (comparisons s (in_op b) x ts) (compared_each (in_op b) x ts none_x (front_none (operands_faults s ts) _ behind) (back_none (operands_faults s ts) _ behind) e)
    condition_fits (between b x y z) h e = between_fits b x y z h e
    condition_fits (is_null b x) h e =
        let g = (typed s x).given in
        inverted_fits b (conds.null_test (or_null (alone s x))) (kind_alone g, operand_side x (kind_alone g) (or_null (alone s x)) h (alone_gives g) (found (alone s x) e))
    condition_fits (inverted t) h e = condition_fits t h e
    condition_fits (trees.all_of ts) h e = parts_fit ts h e
    condition_fits (trees.any_of ts) h e = parts_fit ts h e

    parts_fit : (ts : Trees) → part_faults s ts ≡ [] → constants_faults s ts ≡ [] → AllFit s.items s.params (conds.listed (meanings s ts))
    parts_fit trees.no_more h e = tt
    parts_fit (trees.and_more t ts) h e =
        (condition_fits t (front_none (cond_faults s t) _ h) (front_none (constant_faults s t) _ e), parts_fit ts (back_none (cond_faults s t) _ h) (back_none (constant_faults s t) _ e))
