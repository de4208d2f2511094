-- What a condition means, by places and values, and the faults of its constants.
use Rattle.std.specs.Prelude.{ℕ, ◌-◌, Bool, true, false, not, List, [], ◌∷◌, ◌++◌, Option, Some, None, Result, Ok, Err}
use Rattle.pg_values.specs.declared.fault.Fault.{Fault}
use Rattle.pg_values.specs.declared.value.Kind.{Kind}
use Rattle.pg_values.specs.declared.value.Kind.TheVariants.{Truth as KTruth}
use Rattle.pg_values.specs.declared.value.Value.TheVariants as value
use Rattle.sql_ast.specs.declared.leaf.Leaf.{Leaf}
use Rattle.sql_ast.specs.declared.leaf.Leaf.TheVariants.{Truth, Parameter}
use Rattle.sql_ast.specs.declared.leaf.Operator.{Operator}
use Rattle.sql_ast.specs.declared.leaf.Operator.TheVariants as op
use Rattle.sql_ast.specs.Expressions as trees
use Rattle.sql_ast.specs.Expressions.{Tree, Trees, leaf, call, call_of_all, negated, binary, in_list, between, is_null, inverted}
use Rattle.cond_logic.specs.declared.truth.Truth3.TheVariants.{Yes, No}
use Rattle.cond_logic.specs.declared.cond.CompareOp.{CompareOp}
use Rattle.cond_logic.specs.declared.cond.CompareOp.TheVariants.{Eq, Ne, Lt, Le, Gt, Ge}
use Rattle.cond_logic.specs.declared.cond.Operand.{Operand}
use Rattle.cond_logic.specs.declared.cond.Operand.TheVariants as bound
use Rattle.cond_logic.specs.Scalars as scalars
use Rattle.cond_logic.specs.Scalars.{ScalarTree}
use Rattle.cond_logic.specs.Trees as conds
use Rattle.cond_logic.specs.Trees.{CondTree}
use Rattle.expression_binder.specs.Firsts.{fault_in, or_first}
use Rattle.expression_binder.specs.Kinds.{kind_alone, side_kind}
use Rattle.expression_binder.specs.Operands.{typed}
use Rattle.expression_binder.specs.Conditions.{in_op, from_op, to_op, cond_faults}
use Rattle.expression_binder.specs.Constants.{scalar}
use Rattle.expression_binder.specs.declared.scope.Param.{Param}
use Rattle.expression_binder.specs.Scopes.{Scope, param}

-- a column or a value
abbrev pub as_operand : ScalarTree → Operand
as_operand (scalars.column c) = bound.Column c
as_operand (scalars.literal v) = bound.Lit v
as_operand _ = bound.Lit value.Null

abbrev pub operand_of : Result ScalarTree Fault → Result Operand Fault
operand_of (Ok x) = Ok (as_operand x)
operand_of (Err f) = Err f

-- a parameter by itself stays one
abbrev pub param_operand : ℕ → Option Param → Operand
param_operand n None = bound.Lit value.Null
param_operand n (Some p) = bound.Param (n - 1)

abbrev pub operand : Scope → Kind → Tree → Result Operand Fault
operand s k (leaf (Parameter n)) = Ok (param_operand n (param s.params n))
operand s k t = operand_of (scalar s k t)

-- one side of a comparison, of the kind that the other side gives it
abbrev pub side : Scope → (other own : Tree) → Result Operand Fault
side s other own = operand s (side_kind (typed s other).given (typed s own).given) own

abbrev pub alone : Scope → Tree → Result Operand Fault
alone s x = operand s (kind_alone (typed s x).given) x

abbrev pub compare_op : Operator → CompareOp
compare_op op.Equal = Eq
compare_op op.NotEqual = Ne
compare_op op.Less = Lt
compare_op op.LessEqual = Le
compare_op op.Greater = Gt
compare_op op.GreaterEqual = Ge
compare_op _ = Eq

-- ---- comparisons

unfoldable pub side_faults : Scope → Tree → Tree → List Fault
side_faults s x y = fault_in (side s y x) ++ fault_in (side s x y)

abbrev pub or_null : Result Operand Fault → Operand
or_null (Ok x) = x
or_null (Err f) = bound.Lit value.Null

abbrev pub comparison : Scope → Operator → Tree → Tree → CondTree
comparison s o x y = conds.compares (compare_op o) (or_null (side s y x)) (or_null (side s x y))

-- with each value of a list
abbrev pub each_side_faults : Scope → Tree → Trees → List Fault
each_side_faults s x trees.no_more = []
each_side_faults s x (trees.and_more t ts) = side_faults s x t ++ each_side_faults s x ts

abbrev pub comparisons : Scope → Operator → Tree → Trees → List CondTree
comparisons s o x trees.no_more = []
comparisons s o x (trees.and_more t ts) = comparison s o x t ∷ comparisons s o x ts

-- ---- conditions

abbrev pub inverted_if : Bool → CondTree → CondTree
inverted_if true c = conds.inverted c
inverted_if false c = c

-- one condition is itself
abbrev pub any_of : List CondTree → CondTree
any_of (c ∷ []) = c
any_of cs = conds.any_of (conds.listed cs)

abbrev pub all_of : List CondTree → CondTree
all_of (c ∷ []) = c
all_of cs = conds.all_of (conds.listed cs)

-- IN is one of the equalities, NOT IN all inequalities
abbrev pub in_meaning : (is_not : Bool) → List CondTree → CondTree
in_meaning true cs = all_of cs
in_meaning false cs = any_of cs

-- TRUE and FALSE are known; a boolean operand by itself is asked whether it is true
abbrev pub is_true : Operand → CondTree
is_true x = conds.compares Eq x (bound.Lit (value.Truth true))

abbrev pub leaf_meaning : Scope → Leaf → CondTree
leaf_meaning s (Truth true) = conds.known Yes
leaf_meaning s (Truth false) = conds.known No
leaf_meaning s l = is_true (or_null (operand s KTruth (leaf l)))

abbrev mutual
  pub constant_faults : Scope → Tree → List Fault
  constant_faults s (leaf l) = fault_in (operand s KTruth (leaf l))
  constant_faults s (call f ts) = []
  constant_faults s (call_of_all f) = []
  constant_faults s (negated e) = []
  constant_faults s (binary o x y) = side_faults s x y
  constant_faults s (in_list b x ts) = each_side_faults s x ts
  constant_faults s (between b x y z) = side_faults s x y ++ side_faults s x z
  constant_faults s (is_null b x) = fault_in (alone s x)
  constant_faults s (inverted e) = constant_faults s e
  constant_faults s (trees.all_of ts) = constants_faults s ts
  constant_faults s (trees.any_of ts) = constants_faults s ts

  pub constants_faults : Scope → Trees → List Fault
  constants_faults s trees.no_more = []
  constants_faults s (trees.and_more t ts) = constant_faults s t ++ constants_faults s ts

abbrev mutual
  pub meaning : Scope → Tree → CondTree
  meaning s (leaf l) = leaf_meaning s l
  meaning s (call f ts) = conds.known No
  meaning s (call_of_all f) = conds.known No
  meaning s (negated e) = conds.known No
  meaning s (binary o x y) = comparison s o x y
  meaning s (in_list b x ts) = in_meaning b (comparisons s (in_op b) x ts)
  meaning s (between b x y z) = in_meaning (not b) (comparison s (from_op b) x y ∷ comparison s (to_op b) x z ∷ [])
  meaning s (is_null b x) = inverted_if b (conds.null_test (or_null (alone s x)))
  meaning s (inverted e) = conds.inverted (meaning s e)
  meaning s (trees.all_of ts) = conds.all_of (conds.listed (meanings s ts))
  meaning s (trees.any_of ts) = conds.any_of (conds.listed (meanings s ts))

  pub meanings : Scope → Trees → List CondTree
  meanings s trees.no_more = []
  meanings s (trees.and_more t ts) = meaning s t ∷ meanings s ts

-- the condition bound, or its first fault: names and kinds come before constants
abbrev pub condition : Scope → Tree → Result CondTree Fault
condition s t = or_first (cond_faults s t ++ constant_faults s t) (meaning s t)
