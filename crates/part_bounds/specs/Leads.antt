-- The lead of a point: a number that tells its order from afar. Of two points that can be compared and whose leads differ, the one
-- with the lesser lead lies below the other.
use Rattle.std.specs.Prelude.{◌≡◌, ◌++◌, ℤ, pos, negsuc, List, [], ◌∷◌, map}
use Rattle.pg_values.specs.declared.value.Value.{Value}
use Rattle.pg_values.specs.declared.value.Value.TheVariants.{Null, Int4, Int8, Text, Day, Truth}
use Rattle.bound_forms.specs.declared.partition_bound.Bound.{Bound}
use Rattle.bound_forms.specs.declared.point.Edge.{Edge}
use Rattle.bound_forms.specs.declared.point.Edge.TheVariants.{Min, At, Max}
use Rattle.part_bounds.specs.declared.listing.Listing.{Listing}
use Rattle.part_bounds.specs.Listings.{value_at}
use Rattle.part_bounds.specs.Stored.{stored, range_points, HasPoints}

-- integers and days tell by their number, others do not tell
abbrev pub value_lead : Value → ℤ
value_lead (Int4 n) = n
value_lead (Int8 n) = n
value_lead (Day day) = day
value_lead (Text s) = pos 0
value_lead (Truth p) = pos 0
value_lead Null = pos 0

-- MINVALUE has the least bigint, -9223372036854775808, and MAXVALUE the greatest
abbrev pub edge_lead : Edge → ℤ
edge_lead Min = negsuc 9223372036854775807
edge_lead (At v) = value_lead v
edge_lead Max = pos 9223372036854775807

-- that of the first edge
abbrev pub lead : List Edge → ℤ
lead [] = pos 0
lead (e ∷ es) = edge_lead e

abbrev pub listed_lead : List Bound → Listing → ℤ
listed_lead bounds s = value_lead (value_at bounds s)

-- those of the stored points, in their order
abbrev pub AreLeads : List Bound → List ℤ → Type 0
AreLeads bounds leads = HasPoints bounds → leads ≡ map lead (stored bounds)

-- those of the ranges and of the listed values
abbrev pub leads_of : List Bound → List Listing → List ℤ
leads_of bounds listings = map lead (range_points bounds) ++ map (listed_lead bounds) listings
