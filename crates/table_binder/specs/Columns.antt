-- The columns of a table, or their first fault (CREATE TABLE; 8 Data Types).
use Rattle.std.specs.Prelude.{ℕ, nat_le, if◌then◌else◌, List, [], ◌∷◌, ◌++◌, Option, Some, None, is_some, unwrap_or, map, length, codes, Result}
use Rattle.std.specs.Str.{bytes_eq}
use Rattle.pg_values.specs.declared.which.Which.TheVariants.{Columns as WhichColumns}
use Rattle.pg_values.specs.declared.fault.Fault.{Fault}
use Rattle.pg_values.specs.declared.value.Kind.{Kind}
use Rattle.pg_values.specs.declared.value.Kind.TheVariants.{Int4 as KInt4, Int8 as KInt8, Text as KText, Day as KDay, Truth as KTruth}
use Rattle.refusals.specs.Refusals.{too_many, column_twice, no_type}
use Rattle.sql_ast.specs.declared.table_definition.ColumnDefinition.{ColumnDefinition}
use Rattle.history.specs.declared.catalogue.Column.{Column}
use Rattle.expression_binder.specs.Firsts.{or_first, unless}
use Rattle.table_binder.specs.Names.{twice_faults}

-- the names of types
abbrev pub types : List (List ℕ × Kind)
types =
    (codes "integer", KInt4) ∷
    (codes "int", KInt4) ∷
    (codes "int4", KInt4) ∷
    (codes "bigint", KInt8) ∷
    (codes "int8", KInt8) ∷
    (codes "text", KText) ∷
    (codes "date", KDay) ∷
    (codes "boolean", KTruth) ∷
    (codes "bool", KTruth) ∷
    []

abbrev pub kind_among : List ℕ → List (List ℕ × Kind) → Option Kind
kind_among name [] = None
kind_among name (line ∷ lines) = if bytes_eq line.0 name then Some line.1 else kind_among name lines

-- the kind of a type's name
unfoldable pub kind_named : List ℕ → Option Kind
kind_named name = kind_among name types

abbrev pub kind_or_text : List ℕ → Kind
kind_or_text name = unwrap_or (kind_named name) KText

-- each type is one of them
abbrev pub type_fault : List ℕ → List Fault
type_fault name = unless (is_some (kind_named name)) (no_type name)

abbrev pub type_faults : List ColumnDefinition → List Fault
type_faults [] = []
type_faults (c ∷ cs) = type_fault c.kind ++ type_faults cs

abbrev pub names_of : List ColumnDefinition → List (List ℕ)
names_of cs = map (λ c. c.name) cs

-- at most 32 columns, each with its own name, each of a type that is there
abbrev pub columns_faults : List ColumnDefinition → List Fault
columns_faults cs = unless (nat_le (length cs) 32) (too_many WhichColumns) ++ (twice_faults column_twice [] (names_of cs) ++ type_faults cs)

abbrev pub column_of : ColumnDefinition → Column
column_of c = record { name = c.name; kind = kind_or_text c.kind; not_null = c.not_null }

abbrev pub bound_columns : List ColumnDefinition → Result (List Column) Fault
bound_columns cs = or_first (columns_faults cs) (map column_of cs)
