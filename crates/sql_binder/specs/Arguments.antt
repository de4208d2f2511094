-- The parameters of a prepared statement with the arguments of its EXECUTE, or their first fault (EXECUTE).
use Rattle.std.specs.Prelude.{List, [], ◌∷◌, ◌++◌, length, Result, Ok, Err}
use Rattle.pg_values.specs.declared.fault.Fault.{Fault}
use Rattle.pg_values.specs.declared.value.Kind.{Kind}
use Rattle.pg_values.specs.declared.value.Value.{Value}
use Rattle.sql_ast.specs.Expressions.{Tree, Trees, no_more, and_more}
use Rattle.expression_binder.specs.declared.scope.Param.{Param}
use Rattle.expression_binder.specs.declared.typed.Given.{Given}
use Rattle.expression_binder.specs.declared.typed.Given.TheVariants.{Of, Quoted, Nothing}
use Rattle.expression_binder.specs.Constants.{constant, stored}
use Rattle.expression_binder.specs.Firsts.{or_first, fault_in}
use Rattle.expression_binder.specs.Kinds.{kind_alone, assigned_faults, count_faults}
use Rattle.expression_binder.specs.Operands.{operand_faults, typed}
use Rattle.expression_binder.specs.Scopes.{Scope, condition_scope}
use Rattle.sql_binder.specs.declared.arguments.Wanted.{Wanted}
use Rattle.sql_binder.specs.declared.arguments.Wanted.TheVariants.{Declared, Placed, Free}
use Rattle.sql_binder.specs.Inserts.{count_of}

-- a declared kind is the parameter's; else it is the argument's own, and that of its place for a literal without one
abbrev pub kind_for : Wanted → Given → Kind
kind_for (Declared k) g = k
kind_for (Placed k) (Of own) = own
kind_for (Placed k) Quoted = k
kind_for (Placed k) Nothing = k
kind_for Free g = kind_alone g

abbrev pub declared_faults : Wanted → Given → List Fault
declared_faults (Declared k) g = assigned_faults k g
declared_faults (Placed k) g = []
declared_faults Free g = []

abbrev pub argument_faults : Scope → List Wanted → Trees → List Fault
argument_faults s ws no_more = []
argument_faults s [] (and_more t ts) = []
argument_faults s (w ∷ ws) (and_more t ts) = (operand_faults s t ++ declared_faults w (typed s t).given) ++ argument_faults s ws ts

abbrev pub argument_kind : Scope → Wanted → Tree → Kind
argument_kind s w t = kind_for w (typed s t).given

abbrev pub argument_value : Scope → Wanted → Tree → Result Value Fault
argument_value s w t = stored (argument_kind s w t) (constant s (argument_kind s w t) t)

abbrev pub argument_constants : Scope → List Wanted → Trees → List Fault
argument_constants s ws no_more = []
argument_constants s [] (and_more t ts) = []
argument_constants s (w ∷ ws) (and_more t ts) = fault_in (argument_value s w t) ++ argument_constants s ws ts

abbrev pub made_param : Kind → Result Value Fault → List Param
made_param k (Ok v) = record { kind = k; value = v } ∷ []
made_param k (Err f) = []

abbrev pub argument_params : Scope → List Wanted → Trees → List Param
argument_params s ws no_more = []
argument_params s [] (and_more t ts) = []
argument_params s (w ∷ ws) (and_more t ts) = made_param (argument_kind s w t) (argument_value s w t) ++ argument_params s ws ts

-- columns and parameters have no place in an argument
abbrev pub argument_scope : Scope
argument_scope = condition_scope [] [] 0

-- as many arguments as there are parameters
abbrev pub arguments_faults : List Wanted → Trees → List Fault
arguments_faults ws ts = count_faults (count_of ts) (length ws) ++ (argument_faults argument_scope ws ts ++ argument_constants argument_scope ws ts)

abbrev pub bound_arguments : List Wanted → Trees → Result (List Param) Fault
bound_arguments ws ts = or_first (arguments_faults ws ts) (argument_params argument_scope ws ts)
