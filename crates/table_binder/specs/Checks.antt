-- What a bound must be for its level, and the faults of one that is not (CREATE TABLE, Notes on partition bounds).
use Rattle.std.specs.Prelude.{ℕ, nat_lt, nat_le, ◌==◌, Bool, true, false, not, ◌&&◌, ◌||◌, List, [], ◌∷◌, ◌++◌, length, codes, Result}
use Rattle.std.specs.List.{list_any}
use Rattle.pg_values.specs.declared.fault.Fault.{Fault}
use Rattle.pg_values.specs.declared.strategy.Strategy.{Strategy}
use Rattle.pg_values.specs.declared.strategy.Strategy.TheVariants.{Range as ByRange, List as ByList, Hash as ByHash}
use Rattle.bound_forms.specs.declared.level.KeyColumn.{KeyColumn}
use Rattle.table_binder.specs.declared.raw_bound.RawValue.{RawValue}
use Rattle.table_binder.specs.declared.raw_bound.RawValue.TheVariants.{Literal, Given, Faulty}
use Rattle.table_binder.specs.declared.raw_bound.RawEdge.{RawEdge}
use Rattle.table_binder.specs.declared.raw_bound.RawEdge.TheVariants.{Min as RawMin, At as RawAt, Max as RawMax}
use Rattle.table_binder.specs.declared.raw_bound.RawBound.{RawBound}
use Rattle.table_binder.specs.declared.raw_bound.RawBound.TheVariants.{Range as RawRange, List as RawList, Hash as RawHash, Default as RawDefault}
use Rattle.bound_forms.specs.declared.partition_bound.Bound.{Bound}
use Rattle.bound_forms.specs.declared.partition_bound.TheConstants.{MOST_MODULUS}
use Rattle.bound_forms.specs.declared.partition_bound.Bound.TheVariants.{Range, List as Listed, Hash, Default}
use Rattle.bound_forms.specs.Points.{is_null}
use Rattle.bound_forms.specs.Bounds.{is_below}
use Rattle.table_binder.specs.RawBounds.{edges_for, values_for, point_for, each_once}
use Rattle.bound_forms.specs.Levels.{only_kind}
use Rattle.pg_values.specs.Refusals.{unless, or_first, faults_in, read_in}
use Rattle.refusals.specs.Refusals.{bound_does_not_suit, wrong_bound_count, null_in_range, not_repeated, bad_remainder, no_hash_default, empty_range}

-- so many values are given where so many are wanted
abbrev pub count_faults : ℕ → ℕ → List Fault
count_faults given wanted = unless (given == wanted) (wrong_bound_count given wanted)

abbrev pub is_null_value : RawValue → Bool
is_null_value (Literal s) = false
is_null_value (Given v) = is_null v
is_null_value (Faulty f) = false

abbrev pub is_null_edge : RawEdge → Bool
is_null_edge RawMin = false
is_null_edge (RawAt x) = is_null_value x
is_null_edge RawMax = false

abbrev pub has_null_edge : List RawEdge → Bool
has_null_edge edges = list_any is_null_edge edges

abbrev pub is_min : RawEdge → Bool
is_min RawMin = true
is_min (RawAt x) = false
is_min RawMax = false

abbrev pub is_max : RawEdge → Bool
is_max RawMin = false
is_max (RawAt x) = false
is_max RawMax = true

-- behind MINVALUE stands MINVALUE alone, and behind MAXVALUE MAXVALUE
abbrev pub repeat_faults : RawEdge → RawEdge → List Fault
repeat_faults RawMin next = unless (is_min next) (not_repeated (codes "MINVALUE"))
repeat_faults (RawAt x) next = []
repeat_faults RawMax next = unless (is_max next) (not_repeated (codes "MAXVALUE"))

-- entry by entry
abbrev pub word_faults : List RawEdge → List Fault
word_faults [] = []
word_faults (e ∷ []) = []
word_faults (e ∷ (next ∷ edges)) = repeat_faults e next ++ word_faults (next ∷ edges)

abbrev pub range_faults : List KeyColumn → List RawEdge → List RawEdge → List Fault
range_faults columns lower upper =
    count_faults (length lower) (length columns)
    ++ (count_faults (length upper) (length columns)
    ++ (faults_in (edges_for columns lower)
    ++ (faults_in (edges_for columns upper)
    ++ (unless (not (has_null_edge lower || has_null_edge upper)) null_in_range
    ++ (word_faults lower
    ++ (word_faults upper
    ++ unless (is_below (point_for columns lower) (point_for columns upper)) empty_range))))))

-- a list of no value is none
abbrev pub list_faults : List KeyColumn → List RawValue → List Fault
list_faults columns [] = wrong_bound_count 0 1 ∷ []
list_faults columns (x ∷ values) = faults_in (values_for (only_kind columns) (x ∷ values))

abbrev pub is_remainder : ℕ → ℕ → Bool
is_remainder modulus remainder = nat_le modulus MOST_MODULUS && nat_lt remainder modulus

abbrev pub strategy_word : Strategy → List ℕ
strategy_word ByRange = codes "RANGE"
strategy_word ByList = codes "LIST"
strategy_word ByHash = codes "HASH"

-- the faults of a bound, the first one first
abbrev pub faults : Strategy → List KeyColumn → RawBound → List Fault
faults ByRange columns (RawRange lower upper) = range_faults columns lower upper
faults ByRange columns (RawList values) = bound_does_not_suit (strategy_word ByRange) ∷ []
faults ByRange columns (RawHash modulus remainder) = bound_does_not_suit (strategy_word ByRange) ∷ []
faults ByRange columns RawDefault = []
faults ByList columns (RawRange lower upper) = bound_does_not_suit (strategy_word ByList) ∷ []
faults ByList columns (RawList values) = list_faults columns values
faults ByList columns (RawHash modulus remainder) = bound_does_not_suit (strategy_word ByList) ∷ []
faults ByList columns RawDefault = []
faults ByHash columns (RawRange lower upper) = bound_does_not_suit (strategy_word ByHash) ∷ []
faults ByHash columns (RawList values) = bound_does_not_suit (strategy_word ByHash) ∷ []
faults ByHash columns (RawHash modulus remainder) = unless (is_remainder modulus remainder) bad_remainder
faults ByHash columns RawDefault = no_hash_default ∷ []

-- the bound that is meant
abbrev pub bound_for : List KeyColumn → RawBound → Bound
bound_for columns (RawRange lower upper) = Range (point_for columns lower) (point_for columns upper)
bound_for columns (RawList values) = Listed (each_once (read_in (values_for (only_kind columns) values)))
bound_for columns (RawHash modulus remainder) = Hash modulus remainder
bound_for columns RawDefault = Default

-- the bound that is meant, or its first fault
abbrev pub checked : Strategy → List KeyColumn → RawBound → Result Bound Fault
checked strategy columns raw = or_first (faults strategy columns raw) (bound_for columns raw)
