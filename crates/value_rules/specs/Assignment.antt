-- Which value a column of a kind gets (10.4 Value Storage).
use Rattle.std.specs.Prelude.{◌≡◌, ℤ, Bool, true, false, Result, Ok, Err}
use Rattle.value_rules.specs.Ranges.{fitted, or_fault}
use Rattle.pg_values.specs.declared.value.Kind.{Kind}
use Rattle.pg_values.specs.declared.value.Kind.TheVariants.{Int4 as KInt4, Int8 as KInt8, Text as KText, Day as KDay, Truth as KTruth}
use Rattle.pg_values.specs.declared.value.Value.{Value}
use Rattle.pg_values.specs.declared.value.Value.TheVariants.{Null, Int4, Int8, Text, Day, Truth}
use Rattle.value_rules.specs.declared.assignment.CoerceFault.{CoerceFault}
use Rattle.value_rules.specs.declared.assignment.CoerceFault.TheVariants.{Kinds, Range}

-- an integer becomes a bigint
abbrev pub integer_as : ℤ → Kind → Result Value CoerceFault
integer_as n KInt4 = Ok (Int4 n)
integer_as n KInt8 = Ok (Int8 n)
integer_as n KText = Err Kinds
integer_as n KDay = Err Kinds
integer_as n KTruth = Err Kinds

-- a bigint becomes an integer where it fits
abbrev pub bigint_as : ℤ → Kind → Result Value CoerceFault
bigint_as n KInt4 = or_fault Range (fitted false n)
bigint_as n KInt8 = Ok (Int8 n)
bigint_as n KText = Err Kinds
bigint_as n KDay = Err Kinds
bigint_as n KTruth = Err Kinds

abbrev pub kept_if : Value → Bool → Result Value CoerceFault
kept_if v true = Ok v
kept_if v false = Err Kinds

abbrev pub is_text_kind : Kind → Bool
is_text_kind KText = true
is_text_kind KInt4 = false
is_text_kind KInt8 = false
is_text_kind KDay = false
is_text_kind KTruth = false

abbrev pub is_date_kind : Kind → Bool
is_date_kind KDay = true
is_date_kind KInt4 = false
is_date_kind KInt8 = false
is_date_kind KText = false
is_date_kind KTruth = false

abbrev pub is_truth_kind : Kind → Bool
is_truth_kind KTruth = true
is_truth_kind KInt4 = false
is_truth_kind KInt8 = false
is_truth_kind KText = false
is_truth_kind KDay = false

-- null fits every kind; any other pair of kinds is refused
abbrev pub assigned : Value → Kind → Result Value CoerceFault
assigned Null kind = Ok Null
assigned (Int4 n) kind = integer_as n kind
assigned (Int8 n) kind = bigint_as n kind
assigned (Text s) kind = kept_if (Text s) (is_text_kind kind)
assigned (Day d) kind = kept_if (Day d) (is_date_kind kind)
assigned (Truth p) kind = kept_if (Truth p) (is_truth_kind kind)

-- the value that the column gets, or the fault and the value as it was
abbrev pub IsAssigned : Value → Kind → Result Value (Value × CoerceFault) → Type 0
IsAssigned v kind (Ok w) = assigned v kind ≡ Ok w
IsAssigned v kind (Err e) = (e.0 ≡ v) × (assigned v kind ≡ Err e.1)
