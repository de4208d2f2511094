-- The day that a text spells is that of the calendar's date.
use Rattle.std.proofs.Common.{◌≡◌, ℕ, ◌≤◌, ◌==◌, ◌&&◌, Bool, true, false, length, slice_index, ℤ, pos, List, refl, arith, Ok}
use Rattle.std.proofs.lemmas.Bool.Decides.{nat_tests}
use Rattle.jiff_core.specs.Calendar.{IsCivilDate, days_from_civil, days_in_month}
use Rattle.pg_values.specs.declared.value.Value.TheVariants.{Day}
use Rattle.value_rules.specs.Reads.{is_there, day_of, is_date_form, digits_at}

there : (y m d : ℕ) → 1 ≤ y → 1 ≤ m → m ≤ 12 → 1 ≤ d → d ≤ days_in_month (pos y) m → is_there y m d ≡ true
there y m d a b c e f = grind (arith, nat_tests)

pub day_of_is : (y m d : ℕ) (year : ℤ) (month day : ℕ) → 1 ≤ y → IsCivilDate year month day → year ≡ pos y → pos month ≡ pos m → pos day ≡ pos d → day_of y m d ≡ Ok (Day (days_from_civil year month day))
day_of_is y m d year month day some civil ey em ed =
    let em' : month ≡ m = cc in
    let ed' : day ≡ d = cc in
    let civil' = rw (ey, em', ed') at civil in
    rw (ey, em', ed', there y m d some civil'.1.0 civil'.1.1 civil'.2.0 civil'.2.1) refl

seventh : (a b c d e f g : Bool) → (a && (b && (c && (d && (e && (f && g)))))) ≡ true → g ≡ true
seventh true true true true true true g h = h
seventh false b c d e f g h = cc
seventh true false c d e f g h = cc
seventh true true false d e f g h = cc
seventh true true true false e f g h = cc
seventh true true true true false f g h = cc
seventh true true true true true false g h = cc

-- the last two bytes of a date are digits
pub form_last : (s : List ℕ) → is_date_form s ≡ true → digits_at s 8 ≡ true
form_last s e = seventh (length s == 10) (digits_at s 0) (digits_at s 2) (slice_index s 4 == 45) (digits_at s 5) (slice_index s 7 == 45) (digits_at s 8) e
