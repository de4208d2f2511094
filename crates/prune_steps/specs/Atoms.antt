-- What the atoms of a condition say of the key columns of a level (5.11.4 Partition Pruning, 9.2 Comparison Functions
-- and Operators).
use Rattle.std.specs.Prelude.{◌≡◌, ℕ, zero, suc, ◌==◌, Bool, true, false, ◌||◌, List, [], ◌∷◌, ◌++◌, Option, Some, None, position, slice_get, if◌then◌else◌}
use Rattle.pg_values.specs.declared.value.Kind.{Kind}
use Rattle.pg_values.specs.declared.value.Kind.TheVariants.{Int4 as KInt4, Int8 as KInt8, Text as KText, Day as KDay, Truth as KTruth}
use Rattle.pg_values.specs.declared.value.Value.{Value}
use Rattle.pg_values.specs.declared.value.Value.TheVariants.{Null, Int4, Int8, Text, Day, Truth}
use Rattle.bound_forms.specs.declared.level.KeyColumn.{KeyColumn}
use Rattle.bound_forms.specs.declared.level.Level.{Level}
use Rattle.cond_logic.specs.declared.cond.CompareOp.{CompareOp}
use Rattle.cond_logic.specs.declared.cond.CompareOp.TheVariants.{Eq, Ne, Lt, Le, Gt, Ge}
use Rattle.cond_logic.specs.declared.cond.Operand.{Operand}
use Rattle.cond_logic.specs.declared.cond.Operand.TheVariants.{Column, Lit, Param}
use Rattle.cond_logic.specs.Trees.{CondTree, CondTrees, no_more, and_more, all_of, any_of, inverted, compares, null_test, known}
use Rattle.cond_logic.specs.Truths.{is_null}

-- a level, and the FROM item whose columns its key columns are
pub record Asked : Type 0 where
  pub item : ℕ
  pub level : Level

abbrev pub asked : ℕ → Level → Asked
asked item level = record { item = item; level = level }

-- ---- operands

-- the key column that an operand is, from 0
abbrev pub key_of : Asked → Operand → Option ℕ
key_of a (Column c) = if c.item == a.item then position (λ k. k.position == c.position) a.level.columns else None
key_of a (Lit v) = None
key_of a (Param i) = None

-- the value of an operand that is known; a parameter without an argument, and a column, are not
abbrev pub literal : Operand → Option Value
literal (Column c) = None
literal (Lit v) = Some v
literal (Param i) = None

abbrev pub known_null : Option Value → Bool
known_null (Some v) = is_null v
known_null None = false

-- the value can be compared with those of the kind
abbrev pub compares_with : Kind → Value → Bool
compares_with KInt4 (Int4 n) = true
compares_with KInt4 (Int8 n) = true
compares_with KInt8 (Int4 n) = true
compares_with KInt8 (Int8 n) = true
compares_with KText (Text s) = true
compares_with KDay (Day n) = true
compares_with KTruth (Truth t) = true
compares_with _ _ = false

abbrev pub suits : Option KeyColumn → Value → Bool
suits None v = false
suits (Some c) v = compares_with c.kind v

-- ---- comparisons, read with the column on the left

pub data Reading : Type 0 where
  -- with null: never true
  Never : Reading
  -- it says nothing of a key column by itself
  Anything : Reading
  -- key column j against a known value that it can be compared with
  On : (j : ℕ) → CompareOp → Value → Reading

abbrev pub ReadingFits : List KeyColumn → Reading → Type 0
ReadingFits columns (On j op v) = suits (slice_get columns j) v ≡ true
ReadingFits columns Never = Unit {0}
ReadingFits columns Anything = Unit {0}

abbrev pub turned : CompareOp → CompareOp
turned Eq = Eq
turned Ne = Ne
turned Lt = Gt
turned Le = Ge
turned Gt = Lt
turned Ge = Le

-- a key column beside a known value
abbrev pub on_key : List KeyColumn → CompareOp → Option ℕ → Option Value → Reading
on_key columns op (Some j) (Some v) = if suits (slice_get columns j) v then On j op v else Anything
on_key columns op _ _ = Anything

abbrev pub or_else : Reading → Reading → Reading
or_else Anything r = r
or_else Never r = Never
or_else (On j op v) r = On j op v

-- a comparison with null is never true, whatever stands beside it
abbrev pub reading : Asked → CompareOp → Operand → Operand → Reading
reading a op x y =
    if known_null (literal x) || known_null (literal y) then Never
    else or_else (on_key a.level.columns op (key_of a x) (literal y)) (on_key a.level.columns (turned op) (key_of a y) (literal x))

-- ---- the flattened AND, part by part

-- an OR of one part is that part
abbrev pub is_one : CondTrees → Bool
is_one (and_more t no_more) = true
is_one _ = false

abbrev pub equal_on : Reading → ℕ → Option Value
equal_on (On i Eq v) j = if i == j then Some v else None
equal_on _ j = None

abbrev pub null_on : Option ℕ → ℕ → Option Value
null_on (Some i) j = if i == j then Some Null else None
null_on None j = None

abbrev pub first_of : Option Value → Option Value → Option Value
first_of (Some v) later = Some v
first_of None later = later

abbrev mutual
  -- the value of the first equality on key column j in the flattened AND; with nulls IS NULL is one
  pub given : Asked → (nulls : Bool) → CondTree → ℕ → Option Value
  given a nulls (all_of ts) j = first_given a nulls ts j
  given a nulls (any_of ts) j = if is_one ts then first_given a nulls ts j else None
  given a nulls (inverted t) j = None
  given a nulls (compares op x y) j = equal_on (reading a op x y) j
  given a nulls (null_test x) j = if nulls then null_on (key_of a x) j else None
  given a nulls (known t) j = None

  pub first_given : Asked → (nulls : Bool) → CondTrees → ℕ → Option Value
  first_given a nulls no_more j = None
  first_given a nulls (and_more t ts) j = first_of (given a nulls t j) (first_given a nulls ts j)

abbrev pub added : Option (List Value) → Option Value → Option (List Value)
added (Some p) (Some v) = Some (p ++ v ∷ [])
added _ _ = None

-- the values of the key columns before j, where each is given one
abbrev pub values_before : (ℕ → Option Value) → ℕ → Option (List Value)
values_before first zero = Some []
values_before first (suc j) = added (values_before first j) (first j)
