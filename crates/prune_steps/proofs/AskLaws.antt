-- The bounds of a level can be asked for values that can be compared with its key columns.
use Rattle.std.proofs.Common.{◌≡◌, ℕ, ◌+◌, ◌<◌, ◌≤◌, true, false, List, [], ◌∷◌, ◌++◌, length, get_or, refl, arith}
use Rattle.std.specs.Prelude.{slice_get}
use Rattle.std.specs.List.{All}
use Rattle.pg_values.specs.declared.value.Kind.{Kind}
use Rattle.pg_values.specs.declared.value.Kind.TheVariants.{Int4 as KInt4, Int8 as KInt8, Text as KText, Day as KDay, Truth as KTruth}
use Rattle.pg_values.specs.declared.value.Value.{Value}
use Rattle.pg_values.specs.declared.value.Value.TheVariants.{Null, Int4, Int8, Text, Day, Truth}
use Rattle.pg_values.specs.Order.{AreComparable}
use Rattle.pg_values.specs.Kinds.{kind_of}
use Rattle.bound_forms.specs.declared.level.Level.{Level}
use Rattle.bound_forms.specs.declared.level.KeyColumn.{KeyColumn}
use Rattle.pg_values.specs.declared.strategy.Strategy.TheVariants.{Range as ByRange, List as ByList, Hash as ByHash}
use Rattle.bound_forms.specs.declared.partition_bound.Bound.{Bound}
use Rattle.bound_forms.specs.declared.partition_bound.Bound.TheVariants.{Range, List as Listed, Hash, Default}
use Rattle.bound_forms.specs.declared.point.Fill.{Fill}
use Rattle.bound_forms.specs.declared.point.Fill.TheVariants.{Min as WithMin}
use Rattle.bound_forms.specs.Points.{is_null}
use Rattle.bound_forms.specs.Levels.{IsBoundAt, IsOfLevel}
use Rattle.bound_forms.specs.Accepts.{FitsBound}
use Rattle.part_bounds.specs.Stored.{stored, width, FitsEnd}
use Rattle.part_bounds.specs.Laws.{AreForColumns}
use Rattle.part_bounds.proofs.LevelStored.{at_strategy, ends_fit, has_strategy, points_wide, ranges_fit}
use Rattle.prune_steps.specs.declared.chain.ChainOp.{ChainOp}
use Rattle.prune_steps.specs.declared.chain.ChainOp.TheVariants.{Eq as ChainEq, Lt as ChainLt, Le as ChainLe, Gt as ChainGt, Ge as ChainGe}
use Rattle.prune_steps.specs.AskedBy.{AskedByRange, AskedByList, AskedByHash}
use Rattle.prune_steps.specs.Atoms.{compares_with, suits}
use Rattle.prune_steps.specs.Runs.{from_count, from_fill, to_count, to_fill}

-- ---- kinds

pub compares : (w : Value) (kind : Kind) (v : Value) → is_null w ≡ false → kind_of w ≡ kind → compares_with kind v ≡ true → AreComparable w v
compares w kind v n is h = by w v n (rw (← is) at h)
  where
    by : (w v : Value) → is_null w ≡ false → compares_with (kind_of w) v ≡ true → AreComparable w v
    by Null v n h = cc
    by (Int4 m) (Int4 k) n h = refl
    by (Int4 m) (Int8 k) n h = refl
    by (Int8 m) (Int4 k) n h = refl
    by (Int8 m) (Int8 k) n h = refl
    by (Text m) (Text k) n h = refl
    by (Day m) (Day k) n h = refl
    by (Truth m) (Truth k) n h = refl
    by (Int4 m) Null n h = cc
    by (Int4 m) (Text k) n h = cc
    by (Int4 m) (Day k) n h = cc
    by (Int4 m) (Truth k) n h = cc
    by (Int8 m) Null n h = cc
    by (Int8 m) (Text k) n h = cc
    by (Int8 m) (Day k) n h = cc
    by (Int8 m) (Truth k) n h = cc
    by (Text m) Null n h = cc
    by (Text m) (Int4 k) n h = cc
    by (Text m) (Int8 k) n h = cc
    by (Text m) (Day k) n h = cc
    by (Text m) (Truth k) n h = cc
    by (Day m) Null n h = cc
    by (Day m) (Int4 k) n h = cc
    by (Day m) (Int8 k) n h = cc
    by (Day m) (Text k) n h = cc
    by (Day m) (Truth k) n h = cc
    by (Truth m) Null n h = cc
    by (Truth m) (Int4 k) n h = cc
    by (Truth m) (Int8 k) n h = cc
    by (Truth m) (Text k) n h = cc
    by (Truth m) (Day k) n h = cc

-- values of the first key columns, each comparable with its column
abbrev pub Suit : List KeyColumn → List Value → Type 0
Suit columns [] = Unit {0}
Suit [] (v ∷ values) = ⊥
Suit (c ∷ columns) (v ∷ values) = (compares_with c.kind v ≡ true) × Suit columns values

pub suit_more : (columns : List KeyColumn) (values : List Value) (v : Value) → Suit columns values → suits (slice_get columns (length values)) v ≡ true → Suit columns (values ++ v ∷ [])
suit_more [] [] v h s = cc
suit_more (c ∷ columns) [] v h s = (s, tt)
suit_more [] (w ∷ values) v h s = absurd h
suit_more (c ∷ columns) (w ∷ values) v h s = (h.0, suit_more columns values v h.1 s)

pub suit_long : (columns : List KeyColumn) (values : List Value) → Suit columns values → length values ≤ length columns
suit_long columns [] h = omega arith
suit_long [] (v ∷ values) h = absurd h
suit_long (c ∷ columns) (v ∷ values) h = let ih = suit_long columns values h.1 in omega (arith, ih)

-- what compares with a kind is not null
some_with : (kind : Kind) (v : Value) → compares_with kind v ≡ true → is_null v ≡ false
some_with KInt4 Null h = cc
some_with KInt8 Null h = cc
some_with KText Null h = cc
some_with KDay Null h = cc
some_with KTruth Null h = cc
some_with kind (Int4 n) h = refl
some_with kind (Int8 n) h = refl
some_with kind (Text s) h = refl
some_with kind (Day d) h = refl
some_with kind (Truth p) h = refl

for_columns : (columns : List KeyColumn) (values : List Value) → Suit columns values → AreForColumns columns values
for_columns columns [] h = tt
for_columns [] (v ∷ values) h = absurd h
for_columns (c ∷ columns) (v ∷ values) h = (some_with c.kind v h.0, (λ w n m e. compares w c.kind v m e h.0), for_columns columns values h.1)

for_column : (columns : List KeyColumn) (v : Value) → suits (slice_get columns 0) v ≡ true → AreForColumns columns (v ∷ [])
for_column [] v h = cc
for_column (c ∷ columns) v h = (some_with c.kind v h, (λ w n m e. compares w c.kind v m e h), tt)

-- ---- by range

pub asks_range : (level : Level) (bounds : List Bound) (op : ChainOp) (values : List Value) → level.strategy ≡ ByRange → All (IsOfLevel level) bounds → 0 < length values → Suit level.columns values
    → AskedByRange bounds op (length level.columns + 1) values
asks_range level bounds op values is all some suit = record {
  ranges = (has_strategy level bounds all).range is;
  fit = ranges_fit level bounds all;
  edges = wide;
  ends = record {
    some = some;
    few = λ more. let w = wide more in let l = suit_long level.columns values suit in omega (arith, w, l);
    start = fits (from_count op (length values)) (from_fill op) (from_le op);
    end = fits (to_count op (length values)) (to_fill op) (to_le op);
  };
}
  where
    wide : 0 < length (stored bounds) → width bounds ≡ length level.columns + 1
    wide more = points_wide level bounds all 0 [] more

    fits : (n : ℕ) (fill : Fill) → n ≤ length values → FitsEnd bounds n fill values
    fits n fill le = ends_fit level bounds n fill values all (for_columns level.columns values suit) le

    from_le : (o : ChainOp) → from_count o (length values) ≤ length values
    from_le ChainEq = omega arith
    from_le ChainLt = omega arith
    from_le ChainLe = omega arith
    from_le ChainGt = omega arith
    from_le ChainGe = omega arith

    to_le : (o : ChainOp) → to_count o (length values) ≤ length values
    to_le ChainEq = omega arith
    to_le ChainLt = omega arith
    to_le ChainLe = omega arith
    to_le ChainGt = omega arith
    to_le ChainGe = omega arith

-- ---- by list

pub asks_list : (level : Level) (bounds : List Bound) (v : Value) → level.strategy ≡ ByList → All (IsOfLevel level) bounds → suits (slice_get level.columns 0) v ≡ true → AskedByList bounds (v ∷ [])
asks_list level bounds v is all s = record {
  lists = (has_strategy level bounds all).list is;
  value = record { single = refl; two = wide; fits = fits };
}
  where
    wide : 0 < length (stored bounds) → width bounds ≡ 2
    wide more = let w = points_wide level bounds all 0 [] more in let o = level.one_if_list is in omega (arith, w, o)

    fits : FitsEnd bounds 1 WithMin (v ∷ [])
    fits = ends_fit level bounds 1 WithMin (v ∷ []) all (for_column level.columns v s) (omega arith)

-- ---- by hash

hash_fits : (columns : List KeyColumn) (key : List Value) (b : Bound) → IsBoundAt ByHash columns b → FitsBound key b
hash_fits columns key (Hash m r) h = tt
hash_fits columns key Default h = absurd h
hash_fits columns key (Range l u) h = absurd h
hash_fits columns key (Listed values) h = absurd h

pub asks_hash : (level : Level) (bounds : List Bound) (key : List Value) → level.strategy ≡ ByHash → All (IsOfLevel level) bounds → AskedByHash bounds key
asks_hash level bounds key is all = record {
  hashes = (has_strategy level bounds all).hash is;
  fits = λ k d lt. hash_fits level.columns key (get_or bounds k d) (at_strategy level ByHash bounds is all k d lt);
}
