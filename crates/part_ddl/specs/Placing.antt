-- Whether a partition may stand below a table (the manual, CREATE TABLE, PARTITION OF, and 5.11.2 Declarative
-- Partitioning).
use Rattle.std.specs.Prelude.{◌≡◌, ℕ, ◌+◌, List, [], ◌∷◌, ◌++◌, ◌&&◌, Bool, false, Option, Some, None, Result, Ok, Err, All, length, map, nat_le, nat_lt, option_map, position, slice_index_or}
use Rattle.std.specs.Ordering.{is_ge}
use Rattle.pg_values.specs.declared.fault.Fault.{Fault}
use Rattle.pg_values.specs.declared.fault.Refusal.{Refusal}
use Rattle.pg_values.specs.declared.fault.Refusal.TheVariants.{Sql, NoMemory}
use Rattle.pg_values.specs.declared.which.Which.TheVariants.{Partitions, Levels}
use Rattle.bound_forms.specs.declared.level.Level.{Level as OneLevel}
use Rattle.bound_forms.specs.declared.partition_bound.Bound.{Bound}
use Rattle.bound_forms.specs.declared.partition_bound.Bound.TheVariants.{Range, Hash, Default}
use Rattle.bound_forms.specs.Accepts.{is_default}
use Rattle.bound_forms.specs.Bounds.{overlaps}
use Rattle.bound_forms.specs.Points.{point_order}
use Rattle.pg_values.specs.Refusals.{unless}
use Rattle.refusals.specs.Refusals.{not_partitioned, second_default, partition_is_pending, modulus_does_not_suit, bound_overlaps, too_many}
use Rattle.bound_forms.specs.Levels.{IsOfLevel}
use Rattle.bound_forms.specs.Moduli.{bad_modulus}
use Rattle.history.specs.declared.catalogue.Entry.{Entry}
use Rattle.history.specs.declared.catalogue.TableShape.{TableShape}
use Rattle.history.specs.declared.catalogue.TableShape.TheVariants.{Leaf, Level}
use Rattle.history.specs.History.{History}
use Rattle.history.specs.Presence.{entries_present}
use Rattle.row_router.specs.Histories.{above, bound_of, children}
use Rattle.part_catalog.specs.declared.TheConstants.{ENTRY_LIMIT}
use Rattle.part_catalog.specs.Answers.{pending_entry}
use Rattle.part_catalog.specs.Found.{made_at}
use Rattle.part_catalog.specs.Full.{tables_above, added}

-- ---- the table above

-- its level, where it is partitioned
abbrev pub level_told : (name : List ℕ) → TableShape → Result OneLevel Fault
level_told name (Leaf leaf) = Err (not_partitioned name)
level_told name (Level level) = Ok level

abbrev pub level_at : History → (table : ℕ) → Result OneLevel Fault
level_at h table = level_told (made_at h table).name (made_at h table).shape

-- want of memory apart, the refusal is this fault
abbrev pub IsFault : {T : Type 0} → Refusal → Result T Fault → Type 0
IsFault (Sql f) wanted = wanted ≡ Err f
IsFault NoMemory wanted = Unit {0}

-- ---- the partitions that stand below it for a session, in plain order

abbrev pub partitions_of : History → (session table : ℕ) → List Entry
partitions_of h session table = children (entries_present h session) table

abbrev pub child_name : History → Entry → List ℕ
child_name h e = (made_at h e.child.number).name

abbrev pub names_below : History → (session table : ℕ) → List (List ℕ)
names_below h session table = map (child_name h) (partitions_of h session table)

abbrev pub bounds_below : History → (session table : ℕ) → List Bound
bounds_below h session table = map bound_of (partitions_of h session table)

-- ---- what stands against a further bound, told from the names and the bounds of those that are there

-- the fault tells the name at the place that was found
abbrev pub fault_at : (List ℕ → Fault) → (names : List (List ℕ)) → Option ℕ → List Fault
fault_at fault names None = []
fault_at fault names (Some i) = fault (slice_index_or names i []) ∷ []

abbrev pub pending_faults : (parent : List ℕ) → Option (List ℕ) → List Fault
pending_faults parent None = []
pending_faults parent (Some p) = partition_is_pending p parent ∷ []

-- a default stands beside no other default, and beside no pending partition
abbrev pub default_faults : (parent : List ℕ) → (pending : Option (List ℕ)) → (names : List (List ℕ)) → List Bound → Bound → List Fault
default_faults parent pending names bounds Default = fault_at (second_default parent) names (position is_default bounds) ++ pending_faults parent pending
default_faults parent pending names bounds _ = []

abbrev pub modulus_told : Bound → Option ℕ → List Fault
modulus_told (Hash m r) (Some n) = modulus_does_not_suit m n ∷ []
modulus_told _ _ = []

abbrev pub modulus_faults : List Bound → Bound → List Fault
modulus_faults bounds b = modulus_told b (bad_modulus b bounds)

abbrev pub overlap_faults : (names : List (List ℕ)) → List Bound → Bound → List Fault
overlap_faults names bounds b = fault_at bound_overlaps names (position (overlaps b) bounds)

abbrev pub bound_faults : (parent : List ℕ) → (pending : Option (List ℕ)) → (names : List (List ℕ)) → List Bound → Bound → List Fault
bound_faults parent pending names bounds b = default_faults parent pending names bounds b ++ (modulus_faults bounds b ++ overlap_faults names bounds b)

-- a table has 1,024 partitions at most, a path 8 tables, and each partition that a run attaches a number of 64 bits
abbrev pub room_faults : (partitions added levels : ℕ) → List Fault
room_faults partitions added levels = unless (nat_lt partitions 1024 && nat_lt added ENTRY_LIMIT) (too_many Partitions) ++ unless (nat_le levels 8) (too_many Levels)

-- the range begins where the other one ends, or behind it
abbrev pub begins_behind : Bound → Bound → Bool
begins_behind (Range l u) (Range m v) = is_ge (point_order l v)
begins_behind _ _ = false

-- the bounds are of one level
pub record AreOfOneLevel (b : Bound) (bounds : List Bound) : Type 0 where
  pub level : OneLevel
  pub mine : IsOfLevel level b
  pub theirs : All (IsOfLevel level) bounds

-- ---- the same, of a history

abbrev pub pending_name : History → (session table : ℕ) → Option (List ℕ)
pending_name h session table = option_map (child_name h) (pending_entry h session table)

-- how many tables stand on the longest path once such a partition is there, which is so many tables high
abbrev pub levels_with : History → (session table height : ℕ) → ℕ
levels_with h session table height = tables_above (above (entries_present h session)) table + height

-- the faults of a further partition, the first one first
abbrev pub place_faults : History → (session table : ℕ) → Bound → (height : ℕ) → List Fault
place_faults h session table b height =
    bound_faults (made_at h table).name (pending_name h session table) (names_below h session table) (bounds_below h session table) b
    ++ room_faults (length (partitions_of h session table)) (added h) (levels_with h session table height)
