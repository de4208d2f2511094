-- The places of parameters in an expression, and the kinds that they give: what a string literal would have there (PREPARE,
-- 10.2 Operators).
use Rattle.std.specs.Prelude.{ℕ, ◌-◌, ◌==◌, if◌then◌else◌, List, [], ◌∷◌, ◌++◌, Option, Some, None, is_some, slice_index_or}
use Rattle.pg_values.specs.declared.value.Kind.{Kind}
use Rattle.pg_values.specs.declared.value.Kind.TheVariants.{Int4 as KInt4}
use Rattle.sql_ast.specs.declared.leaf.Leaf.{Leaf}
use Rattle.sql_ast.specs.declared.leaf.Leaf.TheVariants.{Parameter}
use Rattle.sql_ast.specs.declared.leaf.Operator.{Operator}
use Rattle.sql_ast.specs.declared.leaf.Operator.TheVariants as op
use Rattle.sql_ast.specs.Expressions.{Tree, Trees, no_more, and_more, leaf, call, call_of_all, negated, binary, in_list, between, is_null, inverted, all_of, any_of}
use Rattle.expression_binder.specs.declared.typed.Given.{Given}
use Rattle.expression_binder.specs.declared.typed.Given.TheVariants.{Of, Quoted, Nothing}
use Rattle.expression_binder.specs.Kinds.{given_made, kind_made, is_arithmetic}
use Rattle.expression_binder.specs.Operands.{leaf_typed, call_typed, is_cancel}
use Rattle.expression_binder.specs.Scopes.{Scope}

-- ---- what is known before places are looked at

-- $1 is the first parameter; each is of a kind, or is as its argument, a string literal or null
abbrev pub param_given : List Given → ℕ → Given
param_given gs n = if n == 0 then Nothing else slice_index_or gs (n - 1) Nothing

abbrev pub leaf_given : Scope → List Given → Leaf → Given
leaf_given s gs (Parameter n) = param_given gs n
leaf_given s gs l = (leaf_typed s l).given

abbrev pub given : Scope → List Given → Tree → Given
given s gs (leaf l) = leaf_given s gs l
given s gs (call f ts) = (call_typed f).given
given s gs (call_of_all f) = Nothing
given s gs (negated e) = given_made op.Subtract (Of KInt4) (given s gs e)
given s gs (binary o x y) = given_made o (given s gs x) (given s gs y)
given s gs (in_list b x ts) = Nothing
given s gs (between b x y z) = Nothing
given s gs (is_null b x) = Nothing
given s gs (inverted e) = Nothing
given s gs (all_of ts) = Nothing
given s gs (any_of ts) = Nothing

-- ---- the kind of a place

abbrev pub own_kind : Given → Option Kind
own_kind (Of k) = Some k
own_kind Quoted = None
own_kind Nothing = None

-- arithmetic gives the kind of the other operand where it is listed for two values of it
abbrev pub listed_kind : Operator → Kind → Option Kind
listed_kind o k = if is_some (kind_made o k k) then Some k else None

abbrev pub arithmetic_kind : Operator → Given → Option Kind
arithmetic_kind o (Of k) = listed_kind o k
arithmetic_kind o Quoted = None
arithmetic_kind o Nothing = None

-- and a comparison gives it always
abbrev pub beside : Operator → Given → Option Kind
beside o g = if is_arithmetic o then arithmetic_kind o g else own_kind g

abbrev pub either : Option Kind → Option Kind → Option Kind
either None k = k
either (Some j) k = Some j

-- beside several operands it is that of the first that has one
abbrev pub kind_of_any : Scope → List Given → Trees → Option Kind
kind_of_any s gs no_more = None
kind_of_any s gs (and_more t ts) = either (own_kind (given s gs t)) (kind_of_any s gs ts)

abbrev pub argument_kind : List ℕ → Option Kind
argument_kind f = if is_cancel f then Some KInt4 else None

-- ---- places

-- the number of a parameter, and the kind that is given there
abbrev pub Place : Type 0
Place = ℕ × Kind

abbrev pub parameter : ℕ → Leaf
parameter n = Parameter n

abbrev pub leaf_places : Kind → Leaf → List Place
leaf_places k (Parameter n) = (n, k) ∷ []
leaf_places k l = []

-- an operand at a place of a kind, or of none
abbrev pub at : Option Kind → Tree → List Place
at None t = []
at (Some k) (leaf l) = leaf_places k l
at (Some k) t = []

-- all places in an expression that give a kind, in the order of the text
abbrev mutual
  pub places : Scope → List Given → Tree → List Place
  places s gs (leaf l) = []
  places s gs (call f ts) = part_places s gs (argument_kind f) ts
  places s gs (call_of_all f) = []
  places s gs (negated e) = at (beside op.Subtract (Of KInt4)) e ++ places s gs e
  places s gs (binary o x y) = (at (beside o (given s gs y)) x ++ places s gs x) ++ (at (beside o (given s gs x)) y ++ places s gs y)
  places s gs (in_list b x ts) = (at (kind_of_any s gs ts) x ++ places s gs x) ++ part_places s gs (own_kind (given s gs x)) ts
  places s gs (between b x y z) =
      (at (either (own_kind (given s gs y)) (own_kind (given s gs z))) x ++ places s gs x)
      ++ ((at (own_kind (given s gs x)) y ++ places s gs y) ++ (at (own_kind (given s gs x)) z ++ places s gs z))
  places s gs (is_null b x) = places s gs x
  places s gs (inverted e) = places s gs e
  places s gs (all_of ts) = part_places s gs None ts
  places s gs (any_of ts) = part_places s gs None ts

  -- each at a place of the kind
  pub part_places : Scope → List Given → Option Kind → Trees → List Place
  part_places s gs k no_more = []
  part_places s gs k (and_more t ts) = (at k t ++ places s gs t) ++ part_places s gs k ts

-- an operand at a place of the kind
abbrev pub part : Scope → List Given → Option Kind → Tree → List Place
part s gs k t = at k t ++ places s gs t

-- ---- the kind of a parameter

-- the first place counts
abbrev pub kind_of : ℕ → List Place → Option Kind
kind_of n [] = None
kind_of n (p ∷ ps) = if p.0 == n then Some p.1 else kind_of n ps
