-- Where the values of a list level stand.
use Rattle.std.specs.Prelude.{◌≡◌, ℕ, suc, Bool, List, [], ◌∷◌, ◌++◌, map, if◌then◌else◌}
use Rattle.std.specs.List.{list_any, slice_index_or}
use Rattle.pg_values.specs.declared.value.Value.{Value}
use Rattle.pg_values.specs.declared.value.Value.TheVariants.{Null}
use Rattle.bound_forms.specs.declared.partition_bound.Bound.{Bound}
use Rattle.bound_forms.specs.declared.partition_bound.Bound.TheVariants.{Range, List as Listed, Hash, Default}
use Rattle.part_bounds.specs.declared.listing.Listing.{Listing}
use Rattle.bound_forms.specs.Points.{point_of, is_null}
use Rattle.part_bounds.specs.Stored.{Mark, marks, lies_below, IsListLevel}

abbrev pub AValue : Type 0
AValue = Value

abbrev pub values_of : Bound → List Value
values_of (Listed values) = values
values_of (Range lower upper) = []
values_of (Hash modulus remainder) = []
values_of Default = []

-- the value that is listed there, or null
abbrev pub value_at : List Bound → Listing → Value
value_at bounds s = slice_index_or (values_of (slice_index_or bounds s.child Default)) s.place Null

-- its stored point and its child
abbrev pub mark_at : List Bound → Listing → Mark
mark_at bounds s = record { point = point_of (value_at bounds s ∷ []); child = s.child }

abbrev pub listing_less : List Bound → Listing → Listing → Bool
listing_less bounds a b = lies_below (mark_at bounds a) (mark_at bounds b)

-- the place of a value, unless it is null
abbrev pub one_place : ℕ → ℕ → Value → List Listing
one_place child place v = if is_null v then [] else record { child = child; place = place } ∷ []

-- those of the values of a child, which stand from a place on
abbrev pub places_from : ℕ → ℕ → List Value → List Listing
places_from child place [] = []
places_from child place (v ∷ values) = one_place child place v ++ places_from child (suc place) values

-- those of the bounds, which are numbered from n on
abbrev pub listings_from : ℕ → List Bound → List Listing
listings_from n [] = []
listings_from n (b ∷ bounds) = places_from n 0 (values_of b) ++ listings_from (suc n) bounds

-- the array names the stored points of a list level in their order
abbrev pub StandsFor : List Bound → List Listing → Type 0
StandsFor bounds listings = IsListLevel bounds → map (mark_at bounds) listings ≡ marks bounds

abbrev pub lists_null : Bound → Bool
lists_null b = list_any is_null (values_of b)
