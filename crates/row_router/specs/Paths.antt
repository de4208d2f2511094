-- Which table of a path refuses a row (the manual, 5.11.2 Declarative Partitioning; ALTER TABLE, DETACH PARTITION).
use Rattle.std.specs.Prelude.{ℕ, ◌<◌, Bool, false, not, if◌then◌else◌, List, [], ◌∷◌, Option, Some, None, All, length, slice_index_or}
use Rattle.std.specs.List.{list_any}
use Rattle.pg_values.specs.declared.value.Value.{Value}
use Rattle.pg_values.specs.KeyKinds.{IsNotNull}
use Rattle.pg_values.specs.declared.ids.TableNo.{TableNo}
use Rattle.bound_forms.specs.declared.partition_bound.Bound.TheVariants.{Default}
use Rattle.bound_forms.specs.Bounds.{BoundOfKind}
use Rattle.bound_forms.specs.Accepts.{accepts, accepts_among, FitsBound, FitsSet}
use Rattle.history.specs.declared.catalogue.KeptCheck.{KeptCheck}
use Rattle.row_router.specs.declared.path_part.Place.{Place}
use Rattle.row_router.specs.declared.path_part.PathPart.{PathPart}
use Rattle.row_router.specs.Trees.{key_of}
use Rattle.row_router.specs.declared.path.PathTest.{PathTest}
use Rattle.row_router.specs.declared.path.PathTest.TheVariants.{Bounds, Checks}

-- its bound, among those of its siblings, does not accept the row
abbrev pub place_refuses : List Value → Place → Bool
place_refuses row p = not (accepts_among p.bounds (key_of p.level row) (slice_index_or p.bounds p.child Default))

abbrev pub check_refuses : List Value → KeptCheck → Bool
check_refuses row c = not (accepts (key_of c.level row) c.bound)

-- a table that is no partition has no place
abbrev pub refuses_at : List Value → Option Place → Bool
refuses_at row None = false
refuses_at row (Some p) = place_refuses row p

abbrev pub refuses : PathTest → List Value → PathPart → Bool
refuses Bounds row part = refuses_at row part.place
refuses Checks row part = list_any (check_refuses row) part.checks

-- the nearest table that refuses the row
abbrev pub refused : PathTest → List Value → List PathPart → Option TableNo
refused what row [] = None
refused what row (p ∷ ps) = if refuses what row p then Some p.table else refused what row ps

-- ---- which rows may be asked of a path: the key columns lie in the row, and its keys can be asked of the bounds

abbrev pub PlaceFits : List Value → Place → Type 0
PlaceFits row p = (p.child < length p.bounds) × All (λ c. c.position < length row) p.level.columns × FitsSet p.bounds (key_of p.level row)

abbrev pub CheckFits : List Value → KeptCheck → Type 0
CheckFits row c = All (λ k. k.position < length row) c.level.columns × FitsBound (key_of c.level row) c.bound × BoundOfKind IsNotNull c.bound

abbrev pub FitsAt : List Value → Option Place → Type 0
FitsAt row None = Unit {0}
FitsAt row (Some p) = PlaceFits row p

abbrev pub PartFits : List Value → PathPart → Type 0
PartFits row part = FitsAt row part.place × All (CheckFits row) part.checks
