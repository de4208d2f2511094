-- What a statement asks for fits its tables: columns lie in their items, the sides of a comparison are of kinds that
-- may be compared, and what is computed is of the kind that is told.
use Rattle.std.specs.Prelude.{◌≡◌, ◌<◌, ℕ, nat_le, true, List, [], ◌∷◌, Option, Some, Ok, length, map, slice_get, slice_index_or}
use Rattle.pg_values.specs.declared.value.Kind.{Kind}
use Rattle.pg_values.specs.declared.value.Kind.TheVariants.{Int4 as KInt4, Int8 as KInt8, Text as KText, Day as KDay, Truth as KTruth}
use Rattle.pg_values.specs.declared.value.Value.{Value}
use Rattle.pg_values.specs.declared.value.Value.TheVariants.{Null, Int4, Int8, Text, Day, Truth}
use Rattle.sql_ast.specs.Expressions.{Tree}
use Rattle.sql_ast.specs.declared.leaf.Operator.{Operator}
use Rattle.cond_logic.specs.declared.cond.ColumnId.{ColumnId}
use Rattle.cond_logic.specs.declared.cond.Operand.{Operand}
use Rattle.cond_logic.specs.declared.cond.Operand.TheVariants.{Column, Lit, Param as Argument}
use Rattle.cond_logic.specs.Scalars.{ScalarTree, column, literal, table_name, computes, cancels}
use Rattle.cond_logic.specs.Rewriting.{pushed, negation, with_args}
use Rattle.cond_logic.specs.Trees.{CondTree, CondTrees, no_more, and_more, all_of, any_of, inverted, compares, null_test, known}
use Rattle.expression_binder.specs.declared.scope.Param.{Param}
use Rattle.expression_binder.specs.Conditions.{cond_faults}
use Rattle.expression_binder.specs.Constants.{arith_of, scalar}
use Rattle.expression_binder.specs.Kinds.{kind_alone, kind_made, are_alike}
use Rattle.expression_binder.specs.Meanings.{constant_faults, meaning}
use Rattle.expression_binder.specs.Operands.{operand_faults, typed}
use Rattle.expression_binder.specs.Scopes.{Item, Scope}

-- the column is one of the item's, and of that kind
abbrev pub LiesIn : Item → ColumnId → Kind → Type 0
LiesIn item c k = (item.number ≡ c.item) × (c.position < length item.columns) × (k ≡ slice_index_or (map (λ d. d.kind) item.columns) c.position KText)

-- the column lies in one of the items
abbrev pub Lies : List Item → ColumnId → Kind → Type 0
Lies items c k = (i : ℕ) × (item : Item) × (slice_get items i ≡ Some item) × LiesIn item c k

abbrev pub IsNumbered : List Item → ℕ → Type 0
IsNumbered items n = (i : ℕ) × (item : Item) × (slice_get items i ≡ Some item) × (item.number ≡ n)

-- the value is of the kind, or null
abbrev pub IsOf : Value → Kind → Type 0
IsOf Null k = Unit {0}
IsOf (Int4 n) k = k ≡ KInt4
IsOf (Int8 n) k = k ≡ KInt8
IsOf (Text s) k = k ≡ KText
IsOf (Day d) k = k ≡ KDay
IsOf (Truth p) k = k ≡ KTruth

-- each argument is of its parameter's kind, or null
abbrev pub ArgumentsFit : List Param → Type 0
ArgumentsFit params = (n : ℕ) (p : Param) → slice_get params n ≡ Some p → IsOf p.value p.kind

-- ---- conditions

-- one side of a comparison is of the kind
abbrev pub SideOf : List Item → List Param → Operand → Kind → Type 0
SideOf items params (Column c) k = Lies items c k
SideOf items params (Lit v) k = IsOf v k
SideOf items params (Argument i) k = (p : Param) × (slice_get params i ≡ Some p) × (k ≡ p.kind)

-- the sides of each comparison are of kinds that may be compared
abbrev mutual
  pub Fits : List Item → List Param → CondTree → Type 0
  Fits items params (all_of cs) = AllFit items params cs
  Fits items params (any_of cs) = AllFit items params cs
  Fits items params (inverted c) = Fits items params c
  Fits items params (compares op x y) = (k : Kind) × (l : Kind) × SideOf items params x k × SideOf items params y l × (are_alike k l ≡ true)
  Fits items params (null_test x) = (k : Kind) × SideOf items params x k
  Fits items params (known t) = Unit {0}

  pub AllFit : List Item → List Param → CondTrees → Type 0
  AllFit items params no_more = Unit {0}
  AllFit items params (and_more c cs) = Fits items params c × AllFit items params cs

-- ---- what is computed

-- of the kind, by an operator that is listed for the kinds of its sides
abbrev pub HasKind : List Item → ScalarTree → Kind → Type 0
HasKind items (column c) k = Lies items c k
HasKind items (literal v) k = IsOf v k
HasKind items (table_name n) k = IsNumbered items n × (k ≡ KText)
HasKind items (computes a x y) k = (o : Operator) × (l : Kind) × (r : Kind) × (arith_of o ≡ a) × (kind_made o l r ≡ Some k) × HasKind items x l × HasKind items y r
HasKind items (cancels x) k = HasKind items x KInt4 × (k ≡ KTruth)

-- ---- the laws

-- arguments are of their kinds, and the number of the session is an integer
abbrev pub IsSound : Scope → Type 0
IsSound s = ArgumentsFit s.params × (nat_le s.session 2147483647 ≡ true)

-- an operand by itself has the kind that it is told to have
abbrev pub OperandsFit : Type 0
OperandsFit = (s : Scope) (t : Tree) (x : ScalarTree) → IsSound s → operand_faults s t ≡ [] → scalar s (kind_alone (typed s t).given) t ≡ Ok x → HasKind s.items x (kind_alone (typed s t).given)

abbrev pub ConditionsFit : Type 0
ConditionsFit = (s : Scope) (t : Tree) → IsSound s → cond_faults s t ≡ [] → constant_faults s t ≡ [] → Fits s.items s.params (meaning s t)

-- and fits as well once NOT is pushed inwards, as does its negation
abbrev pub PushedFit : Type 0
PushedFit = (items : List Item) (params : List Param) (c : CondTree) → Fits items params c → Fits items params (pushed c) × Fits items params (negation c)

-- each value that is given for a parameter is of its kind, or null
abbrev pub ValuesFit : List Param → List Value → Type 0
ValuesFit params args = (i : ℕ) (p : Param) (v : Value) → slice_get params i ≡ Some p → slice_get args i ≡ Some v → IsOf v p.kind

-- and with values in the places of parameters
abbrev pub GivenFit : Type 0
GivenFit = (items : List Item) (params : List Param) (args : List Value) (c : CondTree) → ValuesFit params args → Fits items params c → Fits items params (with_args args c)
