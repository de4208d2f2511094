-- The kinds of the parameters of a prepared statement, by declaration, argument or place (PREPARE, EXECUTE).
use Rattle.std.specs.Prelude.{ℕ, ◌+◌, List, [], ◌∷◌, Option, Some, None, Result}
use Rattle.pg_values.specs.declared.fault.Fault.{Fault}
use Rattle.pg_values.specs.declared.value.Kind.{Kind}
use Rattle.sql_ast.specs.Expressions.{Tree, Trees, no_more, and_more}
use Rattle.sql_ast.specs.Queries.{RowTree}
use Rattle.expression_binder.specs.declared.scope.Param.{Param}
use Rattle.expression_binder.specs.declared.typed.Given.{Given}
use Rattle.expression_binder.specs.declared.typed.Given.TheVariants.{Of}
use Rattle.expression_binder.specs.Operands.{typed}
use Rattle.expression_binder.specs.Scopes.{Item}
use Rattle.sql_binder.specs.declared.arguments.Wanted.{Wanted}
use Rattle.sql_binder.specs.declared.arguments.Wanted.TheVariants.{Declared, Placed, Free}
use Rattle.sql_binder.specs.Arguments.{argument_scope, bound_arguments}
use Rattle.prepared_statements.specs.ParameterPlaces.{Place, kind_of}
use Rattle.prepared_statements.specs.StatementPlaces.{statement_places}

-- a parameter is of its declared kind, else as its argument is by itself
abbrev pub given_for : Option Kind → Tree → Given
given_for (Some k) t = Of k
given_for None t = (typed argument_scope t).given

-- an entry for each parameter, where it has an argument
abbrev pub givens_of : List (Option Kind) → Trees → List Given
givens_of ds no_more = []
givens_of [] (and_more t ts) = []
givens_of (d ∷ ds) (and_more t ts) = given_for d t ∷ givens_of ds ts

-- the declared kind, else that of the first place, which counts where the argument has none (`kind_for` of Arguments)
abbrev pub wanted_for : (declared placed : Option Kind) → Wanted
wanted_for (Some k) p = Declared k
wanted_for None (Some k) = Placed k
wanted_for None None = Free

-- of the parameters from the one of that number on
abbrev pub wanted_from : List Place → ℕ → List (Option Kind) → List Wanted
wanted_from ps n [] = []
wanted_from ps n (d ∷ ds) = wanted_for d (kind_of n ps) ∷ wanted_from ps (n + 1) ds

abbrev pub wanted : List Item → List (Option Kind) → RowTree → Trees → List Wanted
wanted tables ds statement ts = wanted_from (statement_places tables (givens_of ds ts) statement) 1 ds

-- the parameters with their kinds and values, or the first fault of the arguments
abbrev pub bound_parameters : List Item → List (Option Kind) → RowTree → Trees → Result (List Param) Fault
bound_parameters tables ds statement ts = bound_arguments (wanted tables ds statement ts) ts
