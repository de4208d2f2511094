-- The kind of a value.
use Rattle.pg_values.specs.declared.value.Kind.{Kind}
use Rattle.pg_values.specs.declared.value.Kind.TheVariants.{Int4 as KInt4, Int8 as KInt8, Text as KText, Day as KDay, Truth as KTruth}
use Rattle.pg_values.specs.declared.value.Value.{Value}
use Rattle.pg_values.specs.declared.value.Value.TheVariants.{Null, Int4, Int8, Text, Day, Truth}

-- the kind of a value that is not null
abbrev pub kind_of : Value → Kind
kind_of Null = KText
kind_of (Int4 n) = KInt4
kind_of (Int8 n) = KInt8
kind_of (Text s) = KText
kind_of (Day d) = KDay
kind_of (Truth p) = KTruth
