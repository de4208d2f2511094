-- Values are of the kinds that they are read as and computed to.
use Rattle.std.proofs.Common.{◌≡◌, ℕ, ◌+◌, ℤ, ◌+ℤ◌, ◌-ℤ◌, pos, nat_le, Bool, true, false, ◌&&◌, ◌||◌, List, [], ◌∷◌, ◌++◌, Option, Some, None, Result, Ok, Err, refl, sym, ap, subst, ◌∙◌, if◌then◌else◌}
use Rattle.pg_values.specs.Days.{is_day}
use Rattle.pg_values.specs.declared.value.Kind.{Kind}
use Rattle.pg_values.specs.declared.value.Kind.TheVariants.{Int4 as KInt4, Int8 as KInt8, Text as KText, Day as KDay, Truth as KTruth}
use Rattle.pg_values.specs.declared.value.Value.{Value}
use Rattle.pg_values.specs.declared.value.Value.TheVariants.{Null, Int4, Int8, Text, Day, Truth}
use Rattle.refusals.specs.Refusals.{out_of_range}
use Rattle.value_rules.specs.Arithmetic.{whole, moved, moved_by, apart, number, computed}
use Rattle.value_rules.specs.Ranges.{fitted, dated, or_fault, is_integer, is_bigint}
use Rattle.value_rules.specs.Reads.{reads, told, reading, in_range, integer_of}
use Rattle.value_rules.specs.declared.operators.ArithFault.{ArithFault}
use Rattle.value_rules.specs.declared.operators.ArithFault.TheVariants.{OutOfRange, DateRange}
use Rattle.sql_ast.specs.declared.leaf.Operator.{Operator}
use Rattle.sql_ast.specs.declared.leaf.Operator.TheVariants as op
use Rattle.expression_binder.specs.Constants.{arith_of, number_value}
use Rattle.expression_binder.specs.Kinds.{kind_made, number_kind}
use Rattle.binding_laws.specs.Fitting.{IsOf}

-- ---- ranges

null_is : {E : Type 0} (u : Value) (k : Kind) (r : Result Value E) → r ≡ Ok Null → r ≡ Ok u → IsOf u k
null_is u k r e h = let same : Null ≡ u = cc in subst (λ v. IsOf v k) same tt

integer_is : {E : Type 0} (z : ℤ) (e : E) (u : Value) → or_fault e (fitted false z) ≡ Ok u → IsOf u KInt4
integer_is z e u h = by_test (is_integer z) h
  where
    by_test : (b : Bool) → or_fault e (if b then Some (Int4 z) else None) ≡ Ok u → IsOf u KInt4
    by_test true q = let same : Int4 z ≡ u = cc in subst (λ v. IsOf v KInt4) same refl
    by_test false q = cc

bigint_is : {E : Type 0} (z : ℤ) (e : E) (u : Value) → or_fault e (fitted true z) ≡ Ok u → IsOf u KInt8
bigint_is z e u h = by_test (is_bigint z) h
  where
    by_test : (b : Bool) → or_fault e (if b then Some (Int8 z) else None) ≡ Ok u → IsOf u KInt8
    by_test true q = let same : Int8 z ≡ u = cc in subst (λ v. IsOf v KInt8) same refl
    by_test false q = cc

date_is : {E : Type 0} (z : ℤ) (e : E) (u : Value) → or_fault e (dated z) ≡ Ok u → IsOf u KDay
date_is z e u h = by_test (is_day z) h
  where
    by_test : (b : Bool) → or_fault e (if b then Some (Day z) else None) ≡ Ok u → IsOf u KDay
    by_test true q = let same : Day z ≡ u = cc in subst (λ v. IsOf v KDay) same refl
    by_test false q = cc

whole_integer : (r : Result ℤ ArithFault) (u : Value) → whole false r ≡ Ok u → IsOf u KInt4
whole_integer (Ok z) u h = integer_is z _ u h
whole_integer (Err e) u h = cc

whole_bigint : (r : Result ℤ ArithFault) (u : Value) → whole true r ≡ Ok u → IsOf u KInt8
whole_bigint (Ok z) u h = bigint_is z _ u h
whole_bigint (Err e) u h = cc

-- ---- arithmetic

made_integer : (o : Operator) (m : Kind) → kind_made o KInt4 KInt4 ≡ Some m → KInt4 ≡ m
made_integer op.Add m h = cc
made_integer op.Subtract m h = cc
made_integer op.Multiply m h = cc
made_integer op.Divide m h = cc
made_integer op.Remainder m h = cc
made_integer op.Equal m h = cc
made_integer op.NotEqual m h = cc
made_integer op.Less m h = cc
made_integer op.LessEqual m h = cc
made_integer op.Greater m h = cc
made_integer op.GreaterEqual m h = cc

made_wide : (o : Operator) (m : Kind) → kind_made o KInt4 KInt8 ≡ Some m → KInt8 ≡ m
made_wide op.Add m h = cc
made_wide op.Subtract m h = cc
made_wide op.Multiply m h = cc
made_wide op.Divide m h = cc
made_wide op.Remainder m h = cc
made_wide op.Equal m h = cc
made_wide op.NotEqual m h = cc
made_wide op.Less m h = cc
made_wide op.LessEqual m h = cc
made_wide op.Greater m h = cc
made_wide op.GreaterEqual m h = cc

made_wide_left : (o : Operator) (m : Kind) → kind_made o KInt8 KInt4 ≡ Some m → KInt8 ≡ m
made_wide_left op.Add m h = cc
made_wide_left op.Subtract m h = cc
made_wide_left op.Multiply m h = cc
made_wide_left op.Divide m h = cc
made_wide_left op.Remainder m h = cc
made_wide_left op.Equal m h = cc
made_wide_left op.NotEqual m h = cc
made_wide_left op.Less m h = cc
made_wide_left op.LessEqual m h = cc
made_wide_left op.Greater m h = cc
made_wide_left op.GreaterEqual m h = cc

made_bigint : (o : Operator) (m : Kind) → kind_made o KInt8 KInt8 ≡ Some m → KInt8 ≡ m
made_bigint op.Add m h = cc
made_bigint op.Subtract m h = cc
made_bigint op.Multiply m h = cc
made_bigint op.Divide m h = cc
made_bigint op.Remainder m h = cc
made_bigint op.Equal m h = cc
made_bigint op.NotEqual m h = cc
made_bigint op.Less m h = cc
made_bigint op.LessEqual m h = cc
made_bigint op.Greater m h = cc
made_bigint op.GreaterEqual m h = cc

moved_is : (o : Operator) (m : Kind) (d n : ℤ) (u : Value) → kind_made o KDay KInt4 ≡ Some m → moved (arith_of o) d n ≡ Ok u → IsOf u m
moved_is op.Add m d n u h e = let same : KDay ≡ m = cc in subst (λ k. IsOf u k) same (date_is (d +ℤ n) DateRange u e)
moved_is op.Subtract m d n u h e = let same : KDay ≡ m = cc in subst (λ k. IsOf u k) same (date_is (d -ℤ n) DateRange u e)
moved_is op.Multiply m d n u h e = cc h
moved_is op.Divide m d n u h e = cc h
moved_is op.Remainder m d n u h e = cc h
moved_is op.Equal m d n u h e = cc h
moved_is op.NotEqual m d n u h e = cc h
moved_is op.Less m d n u h e = cc h
moved_is op.LessEqual m d n u h e = cc h
moved_is op.Greater m d n u h e = cc h
moved_is op.GreaterEqual m d n u h e = cc h

moved_by_is : (o : Operator) (m : Kind) (n d : ℤ) (u : Value) → kind_made o KInt4 KDay ≡ Some m → moved_by (arith_of o) n d ≡ Ok u → IsOf u m
moved_by_is op.Add m n d u h e = let same : KDay ≡ m = cc in subst (λ k. IsOf u k) same (date_is (d +ℤ n) DateRange u e)
moved_by_is op.Subtract m n d u h e = cc h
moved_by_is op.Multiply m n d u h e = cc h
moved_by_is op.Divide m n d u h e = cc h
moved_by_is op.Remainder m n d u h e = cc h
moved_by_is op.Equal m n d u h e = cc h
moved_by_is op.NotEqual m n d u h e = cc h
moved_by_is op.Less m n d u h e = cc h
moved_by_is op.LessEqual m n d u h e = cc h
moved_by_is op.Greater m n d u h e = cc h
moved_by_is op.GreaterEqual m n d u h e = cc h

apart_is : (o : Operator) (m : Kind) (d n : ℤ) (u : Value) → kind_made o KDay KDay ≡ Some m → apart (arith_of o) d n ≡ Ok u → IsOf u m
apart_is op.Add m d n u h e = cc h
apart_is op.Subtract m d n u h e = let same : KInt4 ≡ m = cc in subst (λ k. IsOf u k) same (integer_is (d -ℤ n) OutOfRange u e)
apart_is op.Multiply m d n u h e = cc h
apart_is op.Divide m d n u h e = cc h
apart_is op.Remainder m d n u h e = cc h
apart_is op.Equal m d n u h e = cc h
apart_is op.NotEqual m d n u h e = cc h
apart_is op.Less m d n u h e = cc h
apart_is op.LessEqual m d n u h e = cc h
apart_is op.Greater m d n u h e = cc h
apart_is op.GreaterEqual m d n u h e = cc h

-- what is computed of values of two kinds is of the kind that the operator makes of these
pub computed_is : (o : Operator) (v w u : Value) (l r m : Kind) → kind_made o l r ≡ Some m → IsOf v l → IsOf w r → computed (arith_of o) v w ≡ Ok u → IsOf u m
computed_is o Null w u l r m h p q e = null_is u m (Ok Null) refl e
computed_is o (Int4 i) Null u l r m h p q e = null_is u m (Ok Null) refl e
computed_is o (Int4 i) (Int4 j) u l r m h p q e = subst (λ k. IsOf u k) (made_integer o m (ap (λ c. kind_made o c KInt4) (sym p) ∙ (ap (kind_made o l) (sym q) ∙ h))) (whole_integer (number (arith_of o) i j) u e)
computed_is o (Int4 i) (Int8 j) u l r m h p q e = subst (λ k. IsOf u k) (made_wide o m (ap (λ c. kind_made o c KInt8) (sym p) ∙ (ap (kind_made o l) (sym q) ∙ h))) (whole_bigint (number (arith_of o) i j) u e)
computed_is o (Int4 i) (Text j) u l r m h p q e = cc e
computed_is o (Int4 i) (Day j) u l r m h p q e = moved_by_is o m i j u (ap (λ c. kind_made o c KDay) (sym p) ∙ (ap (kind_made o l) (sym q) ∙ h)) e
computed_is o (Int4 i) (Truth j) u l r m h p q e = cc e
computed_is o (Int8 i) Null u l r m h p q e = null_is u m (Ok Null) refl e
computed_is o (Int8 i) (Int4 j) u l r m h p q e = subst (λ k. IsOf u k) (made_wide_left o m (ap (λ c. kind_made o c KInt4) (sym p) ∙ (ap (kind_made o l) (sym q) ∙ h))) (whole_bigint (number (arith_of o) i j) u e)
computed_is o (Int8 i) (Int8 j) u l r m h p q e = subst (λ k. IsOf u k) (made_bigint o m (ap (λ c. kind_made o c KInt8) (sym p) ∙ (ap (kind_made o l) (sym q) ∙ h))) (whole_bigint (number (arith_of o) i j) u e)
computed_is o (Int8 i) (Text j) u l r m h p q e = cc e
computed_is o (Int8 i) (Day j) u l r m h p q e = cc e
computed_is o (Int8 i) (Truth j) u l r m h p q e = cc e
computed_is o (Text i) Null u l r m h p q e = null_is u m (Ok Null) refl e
computed_is o (Text i) (Int4 j) u l r m h p q e = cc e
computed_is o (Text i) (Int8 j) u l r m h p q e = cc e
computed_is o (Text i) (Text j) u l r m h p q e = cc e
computed_is o (Text i) (Day j) u l r m h p q e = cc e
computed_is o (Text i) (Truth j) u l r m h p q e = cc e
computed_is o (Day i) Null u l r m h p q e = null_is u m (Ok Null) refl e
computed_is o (Day i) (Int4 j) u l r m h p q e = moved_is o m i j u (ap (λ c. kind_made o c KInt4) (sym p) ∙ (ap (kind_made o l) (sym q) ∙ h)) e
computed_is o (Day i) (Int8 j) u l r m h p q e = cc e
computed_is o (Day i) (Text j) u l r m h p q e = cc e
computed_is o (Day i) (Day j) u l r m h p q e = apart_is o m i j u (ap (λ c. kind_made o c KDay) (sym p) ∙ (ap (kind_made o l) (sym q) ∙ h)) e
computed_is o (Day i) (Truth j) u l r m h p q e = cc e
computed_is o (Truth i) Null u l r m h p q e = null_is u m (Ok Null) refl e
computed_is o (Truth i) (Int4 j) u l r m h p q e = cc e
computed_is o (Truth i) (Int8 j) u l r m h p q e = cc e
computed_is o (Truth i) (Text j) u l r m h p q e = cc e
computed_is o (Truth i) (Day j) u l r m h p q e = cc e
computed_is o (Truth i) (Truth j) u l r m h p q e = cc e

-- ---- what is read

in_range_integer : (o : Option ℤ) (u : Value) → in_range false o ≡ Ok u → IsOf u KInt4
in_range_integer None u h = cc
in_range_integer (Some z) u h = integer_is z _ u h

in_range_bigint : (o : Option ℤ) (u : Value) → in_range true o ≡ Ok u → IsOf u KInt8
in_range_bigint None u h = cc
in_range_bigint (Some z) u h = bigint_is z _ u h

day_is : {E : Type 0} (a b : Bool) (d : ℤ) (e f : E) (u : Value) → (if a then (if b then Ok (Day d) else Err e) else Err f) ≡ Ok u → IsOf u KDay
day_is true true d e f u h = let same : Day d ≡ u = cc in subst (λ v. IsOf v KDay) same refl
day_is true false d e f u h = cc
day_is false b d e f u h = cc

truth_is : {E : Type 0} (a b : Bool) (e : E) (u : Value) → (if a then Ok (Truth true) else (if b then Ok (Truth false) else Err e)) ≡ Ok u → IsOf u KTruth
truth_is true b e u h = let same : Truth true ≡ u = cc in subst (λ v. IsOf v KTruth) same refl
truth_is false true e u h = let same : Truth false ≡ u = cc in subst (λ v. IsOf v KTruth) same refl
truth_is false false e u h = cc

read_ok : (k : Kind) (s : List ℕ) (u : Value) → reads k s ≡ Ok u → reading k s ≡ Ok u
read_ok k s u = elim (reading k s) as (λ r. told k s r ≡ Ok u → r ≡ Ok u) [ Ok v ↦ (λ h. let same : v ≡ u = cc in ap Ok same) | Err e ↦ (λ h. cc) ]

reading_is : (k : Kind) (s : List ℕ) (u : Value) → reading k s ≡ Ok u → IsOf u k
reading_is KInt4 s u h = in_range_integer (integer_of s) u h
reading_is KInt8 s u h = in_range_bigint (integer_of s) u h
reading_is KText s u h = let same : Text s ≡ u = cc in subst (λ v. IsOf v KText) same refl
reading_is KDay s u h = day_is _ _ _ _ _ u h
reading_is KTruth s u h = truth_is _ _ _ u h

pub reads_is : (k : Kind) (s : List ℕ) (u : Value) → reads k s ≡ Ok u → IsOf u k
reads_is k s u h = reading_is k s u (read_ok k s u h)

-- ---- literals

pub number_is : (n : ℕ) (v : Value) → number_value n ≡ Ok v → IsOf v (number_kind n)
number_is n v h = by_tests (nat_le n 2147483647) (nat_le n 9223372036854775807) h
  where
    by_tests : (a b : Bool) → (if a then Ok (Int4 (pos n)) else (if b then Ok (Int8 (pos n)) else Err out_of_range)) ≡ Ok v → IsOf v (if a then KInt4 else KInt8)
    by_tests true b q = let same : Int4 (pos n) ≡ v = cc in subst (λ u. IsOf u KInt4) same refl
    by_tests false true q = let same : Int8 (pos n) ≡ v = cc in subst (λ u. IsOf u KInt8) same refl
    by_tests false false q = cc

-- a small number is an integer
pub small_is : (n : ℕ) (v : Value) → nat_le n 2147483647 ≡ true → number_value n ≡ Ok v → IsOf v KInt4
small_is n v small h = subst (λ k. IsOf v k) (ap (λ b. if b then KInt4 else KInt8) small) (number_is n v h)
