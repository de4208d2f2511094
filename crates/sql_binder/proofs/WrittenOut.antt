-- Numbers in columns of integers.
use Rattle.std.proofs.Common.{◌≡◌, ℕ, pos, Bool, true, false, if◌then◌else◌, [], Option, Some, None, Ok, refl, ap, ◌∙◌}
use Rattle.std.specs.Prelude.{IfSome, nat_le}
use Rattle.pg_values.specs.declared.value.Kind.TheVariants.{Int4 as KInt4, Int8 as KInt8}
use Rattle.pg_values.specs.declared.value.Value.{Value}
use Rattle.pg_values.specs.declared.value.Value.TheVariants.{Int4}
use Rattle.sql_ast.specs.Expressions.{leaf}
use Rattle.sql_ast.specs.declared.leaf.Leaf.TheVariants.{Number}
use Rattle.expression_binder.specs.Constants.{literal_of, number_value, stored, value_in}
use Rattle.expression_binder.specs.Kinds.{assigned_faults, number_kind}
use Rattle.expression_binder.specs.Scopes.{Scope}
use Rattle.expression_binder.specs.declared.typed.Given.TheVariants.{Of}
use Rattle.sql_binder.specs.Inserts.{stored_value}

-- a number is an integer or a bigint, and a column of either gets it
pub integer_fits : (n : ℕ) → assigned_faults KInt4 (Of (number_kind n)) ≡ []
integer_fits n = by (nat_le n 2147483647)
  where
    by : (b : Bool) → assigned_faults KInt4 (Of (if b then KInt4 else KInt8)) ≡ []
    by true = refl
    by false = refl

pub bigint_fits : (n : ℕ) → assigned_faults KInt8 (Of (number_kind n)) ≡ []
bigint_fits n = by (nat_le n 2147483647)
  where
    by : (b : Bool) → assigned_faults KInt8 (Of (if b then KInt4 else KInt8)) ≡ []
    by true = refl
    by false = refl

-- an integer is stored as it is written
stored_so : (s : Scope) (n : ℕ) (v : Value) → v ≡ Int4 (pos n) → number_value n ≡ Ok v → stored_value s KInt4 (leaf (Number n)) ≡ Ok v
stored_so s n v is made = ap (λ r. stored KInt4 (value_in (literal_of r))) made ∙ rw is refl

pub integer_stored : (n : ℕ) (r : Option Value) → IfSome r (λ v. (v ≡ Int4 (pos n)) × (number_value n ≡ Ok v)) → IfSome r (λ v. (s : Scope) → stored_value s KInt4 (leaf (Number n)) ≡ Ok v)
integer_stored n None h = tt
integer_stored n (Some v) h = λ s. stored_so s n v h.0 h.1
