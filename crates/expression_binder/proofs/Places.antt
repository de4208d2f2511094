-- Only a string literal takes the kind of its place.
use Rattle.std.proofs.Common.{◌≡◌, Result, Ok, refl, ap, subst, ◌∙◌}
use Rattle.pg_values.specs.declared.fault.Fault.{Fault}
use Rattle.pg_values.specs.declared.fault.Refusal.{Refusal}
use Rattle.pg_values.specs.declared.value.Kind.{Kind}
use Rattle.pg_values.specs.declared.value.Kind.TheVariants.{Text as KText}
use Rattle.cond_logic.specs.Scalars.{ScalarTree}
use Rattle.sql_ast.specs.declared.leaf.Leaf.TheVariants.{Number, Text, Date, Null, Truth, Parameter, Column, ColumnOf, TableName, TableNameOf}
use Rattle.sql_ast.specs.declared.leaf.Operator.{Operator}
use Rattle.sql_ast.specs.Expressions.{Tree, leaf, call, call_of_all, negated, binary, in_list, between, is_null, inverted, all_of, any_of}
use Rattle.expression_binder.specs.declared.typed.Given.{Given}
use Rattle.expression_binder.specs.declared.typed.Given.TheVariants.{Quoted}
use Rattle.expression_binder.specs.declared.typed.Typed.{Typed}
use Rattle.expression_binder.specs.Constants.{scalar, operated, with_left, with_right}
use Rattle.expression_binder.specs.Firsts.{IsAnswerBy}
use Rattle.expression_binder.specs.Kinds.{kind_beside}
use Rattle.expression_binder.specs.Operands.{typed}
use Rattle.expression_binder.specs.Scopes.{Scope}

-- an operand beside another one is worth what it is where a string literal would stand
pub as_literal_beside : (s : Scope) (o : Operator) (other : Given) (t : Tree) → scalar s (kind_beside o other Quoted) t ≡ scalar s (kind_beside o other (typed s t).given) t
as_literal_beside s o other (leaf (Number n)) = refl
as_literal_beside s o other (leaf (Text z)) = refl
as_literal_beside s o other (leaf (Date z)) = refl
as_literal_beside s o other (leaf Null) = refl
as_literal_beside s o other (leaf (Truth b)) = refl
as_literal_beside s o other (leaf (Parameter n)) = refl
as_literal_beside s o other (leaf (Column c)) = refl
as_literal_beside s o other (leaf (ColumnOf t c)) = refl
as_literal_beside s o other (leaf TableName) = refl
as_literal_beside s o other (leaf (TableNameOf t)) = refl
as_literal_beside s o other (call f ts) = refl
as_literal_beside s o other (call_of_all f) = refl
as_literal_beside s o other (negated e) = refl
as_literal_beside s o other (binary p x y) = refl
as_literal_beside s o other (in_list b x ts) = refl
as_literal_beside s o other (between b x y z) = refl
as_literal_beside s o other (is_null b x) = refl
as_literal_beside s o other (inverted e) = refl
as_literal_beside s o other (all_of ts) = refl
as_literal_beside s o other (any_of ts) = refl

pub worth_beside : {T : Type 0} (r : Result T Refusal) (f : T → ScalarTree) (s : Scope) (o : Operator) (other : Given) (k : Kind) (t : Tree) → k ≡ kind_beside o other Quoted → IsAnswerBy f r (scalar s k t)
    → IsAnswerBy f r (scalar s (kind_beside o other (typed s t).given) t)
worth_beside r f s o other k t e h = subst (λ (w : Result ScalarTree Fault). IsAnswerBy f r w) (ap (λ (l : Kind). scalar s l t) e ∙ as_literal_beside s o other t) h

-- two sides, each with its own kind, and what the operator makes of them
pub sides_worth : (s : Scope) (o : Operator) (x y : Tree) (l : Typed) (a b m : ScalarTree) → scalar s KText x ≡ Ok a → l ≡ typed s x → scalar s (kind_beside o l.given (typed s y).given) y ≡ Ok b → operated o a b ≡ Ok m
    → with_left o (scalar s KText x) (scalar s (kind_beside o (typed s x).given (typed s y).given) y) ≡ Ok m
sides_worth s o x y l a b m p e q h =
    let right : scalar s (kind_beside o (typed s x).given (typed s y).given) y ≡ Ok b = subst (λ (u : Typed). scalar s (kind_beside o u.given (typed s y).given) y ≡ Ok b) e q in
    ap (λ (w : Result ScalarTree Fault). with_left o w (scalar s (kind_beside o (typed s x).given (typed s y).given) y)) p ∙ (ap (λ (w : Result ScalarTree Fault). with_right o a w) right ∙ h)
