-- Which value a text spells (8.1.1 Integer Types, 8.5 Date/Time Types, 8.6 Boolean Type).
use Rattle.std.specs.Prelude.{ℕ, ◌+◌, ◌-◌, ◌*◌, ℤ, pos, neg_ℤ, Bool, true, false, ◌&&◌, ◌||◌, ◌==◌, nat_le, List, [], ◌∷◌, length, slice_index, codes, Option, Some, None, Result, Ok, Err, if◌then◌else◌}
use Rattle.std.specs.Option.{option_map}
use Rattle.std.specs.Str.{str_eq_ignore_ascii_case}
use Rattle.jiff_core.specs.Calendar.{days_in_month, days_from_civil}
use Rattle.value_rules.specs.Ranges.{fitted, or_fault}
use Rattle.pg_values.specs.declared.value.Kind.{Kind}
use Rattle.pg_values.specs.declared.value.Kind.TheVariants.{Int4 as KInt4, Int8 as KInt8, Text as KText, Day as KDay, Truth as KTruth}
use Rattle.pg_values.specs.declared.value.Value.{Value}
use Rattle.pg_values.specs.declared.value.Value.TheVariants.{Null, Int4, Int8, Text, Day, Truth}
use Rattle.pg_values.specs.Days.{IsDay}
use Rattle.value_rules.specs.declared.reading.ReadFault.{ReadFault}
use Rattle.value_rules.specs.declared.reading.ReadFault.TheVariants.{Form, NumberRange, DateForm, DateRange}
use Rattle.pg_values.specs.declared.fault.Fault.{Fault}
use Rattle.refusals.specs.Refusals.{out_of_range, no_date, date_out_of_range, no_such_value}

abbrev pub is_digit : ℕ → Bool
is_digit b = nat_le 48 b && nat_le b 57

-- the number of these digits, behind those that make n
abbrev pub number_from : ℕ → List ℕ → Option ℕ
number_from n [] = Some n
number_from n (b ∷ bs) = if is_digit b then number_from (n * 10 + (b - 48)) bs else None

-- at least one digit, and nothing else
abbrev pub number_of : List ℕ → Option ℕ
number_of [] = None
number_of (b ∷ bs) = number_from 0 (b ∷ bs)

abbrev pub signed : Bool → ℕ → ℤ
signed true n = neg_ℤ (pos n)
signed false n = pos n

-- at most one sign, then digits
abbrev pub integer_of : List ℕ → Option ℤ
integer_of [] = None
integer_of (b ∷ bs) =
    if b == 45 then option_map (signed true) (number_of bs)
    else (if b == 43 then option_map (signed false) (number_of bs) else option_map (signed false) (number_of (b ∷ bs)))

-- an integer or a bigint: a wrong form comes before a number that does not fit
abbrev pub in_range : Bool → Option ℤ → Result Value ReadFault
in_range wide None = Err Form
in_range wide (Some z) = or_fault NumberRange (fitted wide z)

-- in upper or lower case
abbrev pub truth_of : List ℕ → Result Value ReadFault
truth_of s =
    if str_eq_ignore_ascii_case s (codes "t") || str_eq_ignore_ascii_case s (codes "true") then Ok (Truth true)
    else (if str_eq_ignore_ascii_case s (codes "f") || str_eq_ignore_ascii_case s (codes "false") then Ok (Truth false) else Err Form)

-- the number of the two digits at place i
abbrev pub two_at : List ℕ → ℕ → ℕ
two_at s i = (slice_index s i - 48) * 10 + (slice_index s (i + 1) - 48)

abbrev pub digits_at : List ℕ → ℕ → Bool
digits_at s i = is_digit (slice_index s i) && is_digit (slice_index s (i + 1))

-- YYYY-MM-DD
abbrev pub is_date_form : List ℕ → Bool
is_date_form s =
    (length s == 10) && (digits_at s 0 && (digits_at s 2 && ((slice_index s 4 == 45) && (digits_at s 5 && ((slice_index s 7 == 45) && digits_at s 8)))))

-- the calendar has this day, from the year 1 on
abbrev pub is_there : ℕ → ℕ → ℕ → Bool
is_there y m d = nat_le 1 y && (nat_le 1 m && (nat_le m 12 && (nat_le 1 d && nat_le d (days_in_month (pos y) m))))

abbrev pub day_of : ℕ → ℕ → ℕ → Result Value ReadFault
day_of y m d = if is_there y m d then Ok (Day (days_from_civil (pos y) m d)) else Err DateRange

abbrev pub date_of : List ℕ → Result Value ReadFault
date_of s = if is_date_form s then day_of (two_at s 0 * 100 + two_at s 2) (two_at s 5) (two_at s 8) else Err DateForm

-- the value of this kind that the text spells
abbrev pub reading : Kind → List ℕ → Result Value ReadFault
reading KInt4 s = in_range false (integer_of s)
reading KInt8 s = in_range true (integer_of s)
reading KText s = Ok (Text s)
reading KDay s = date_of s
reading KTruth s = truth_of s

-- the fault with its state: a wrong form names the text, and that of a number or a truth value the kind too
abbrev pub read_fault : Kind → List ℕ → ReadFault → Fault
read_fault kind s Form = no_such_value s kind
read_fault kind s NumberRange = out_of_range
read_fault kind s DateForm = no_date s
read_fault kind s DateRange = date_out_of_range

abbrev pub told : Kind → List ℕ → Result Value ReadFault → Result Value Fault
told kind s (Ok v) = Ok v
told kind s (Err e) = Err (read_fault kind s e)

-- the value that the text spells, or the fault that it is refused with
abbrev pub reads : Kind → List ℕ → Result Value Fault
reads kind s = told kind s (reading kind s)

-- a date is one from 0001-01-01 to 9999-12-31
abbrev pub IsCalendarDay : Value → Type 0
IsCalendarDay (Day d) = IsDay d
IsCalendarDay Null = Unit {0}
IsCalendarDay (Int4 n) = Unit {0}
IsCalendarDay (Int8 n) = Unit {0}
IsCalendarDay (Text s) = Unit {0}
IsCalendarDay (Truth p) = Unit {0}
