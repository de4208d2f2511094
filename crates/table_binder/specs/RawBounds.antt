-- What the expressions of a bound give their key columns (CREATE TABLE, partition_bound_expr; 10.4 Value Storage).
use Rattle.std.specs.Prelude.{not, List, [], ◌∷◌, ◌++◌, map, filter, Result, Ok, Err}
use Rattle.pg_values.specs.declared.value.Kind.{Kind}
use Rattle.pg_values.specs.declared.value.Value.{Value}
use Rattle.pg_values.specs.declared.fault.Fault.{Fault}
use Rattle.pg_values.specs.Refusals.{read_in}
use Rattle.value_rules.specs.Reads.{reads}
use Rattle.pg_values.specs.Kinds.{kind_of}
use Rattle.refusals.specs.Refusals.{out_of_range, wrong_kind}
use Rattle.value_rules.specs.Assignment.{assigned}
use Rattle.value_rules.specs.declared.assignment.CoerceFault.{CoerceFault}
use Rattle.value_rules.specs.declared.assignment.CoerceFault.TheVariants.{Kinds, Range as PastRange}
use Rattle.bound_forms.specs.declared.level.KeyColumn.{KeyColumn}
use Rattle.table_binder.specs.declared.raw_bound.RawValue.{RawValue}
use Rattle.table_binder.specs.declared.raw_bound.RawValue.TheVariants.{Literal, Given, Faulty}
use Rattle.table_binder.specs.declared.raw_bound.RawEdge.{RawEdge}
use Rattle.table_binder.specs.declared.raw_bound.RawEdge.TheVariants.{Min as RawMin, At as RawAt, Max as RawMax}
use Rattle.bound_forms.specs.declared.point.Edge.{Edge}
use Rattle.bound_forms.specs.declared.point.Edge.TheVariants.{Min, At, Max}
use Rattle.bound_forms.specs.Listed.{is_same}

-- a column of the kind gets the value that assignment gives it, or the value does not go there
abbrev pub given_to : Kind → Kind → Result Value CoerceFault → Result Value Fault
given_to given kind (Ok w) = Ok w
given_to given kind (Err Kinds) = Err (wrong_kind given kind)
given_to given kind (Err PastRange) = Err out_of_range

-- a string literal is read as the column's kind, a value is assigned to the column, and a fault stays one
abbrev pub value_for : Kind → RawValue → Result Value Fault
value_for kind (Literal s) = reads kind s
value_for kind (Given v) = given_to (kind_of v) kind (assigned v kind)
value_for kind (Faulty f) = Err f

abbrev pub edge_at : Result Value Fault → Result Edge Fault
edge_at (Ok v) = Ok (At v)
edge_at (Err f) = Err f

abbrev pub edge_for : Kind → RawEdge → Result Edge Fault
edge_for kind RawMin = Ok Min
edge_for kind (RawAt x) = edge_at (value_for kind x)
edge_for kind RawMax = Ok Max

-- the entries of FROM or TO, each for its key column
abbrev pub edges_for : List KeyColumn → List RawEdge → List (Result Edge Fault)
edges_for [] edges = []
edges_for (c ∷ columns) [] = []
edges_for (c ∷ columns) (e ∷ edges) = edge_for c.kind e ∷ edges_for columns edges

-- the expressions of a list, each for the one key column
abbrev pub values_for : Kind → List RawValue → List (Result Value Fault)
values_for kind values = map (value_for kind) values

-- the entries of FROM or TO, filled up with MIN
abbrev pub point_for : List KeyColumn → List RawEdge → List Edge
point_for columns edges = read_in (edges_for columns edges) ++ Min ∷ []

-- each value once, at its first place
abbrev pub each_once : List Value → List Value
each_once [] = []
each_once (v ∷ values) = v ∷ filter (λ w. not (is_same v w)) (each_once values)
