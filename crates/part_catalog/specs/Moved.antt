-- Places of entries once some of them are taken out.
use Rattle.std.specs.Prelude.{ℕ, suc, if◌then◌else◌, Bool, List, [], ◌∷◌, Option, Some, None, slice_index_or}
use Rattle.part_catalog.specs.declared.stored.StoredEntry.{StoredEntry}

-- the new place of each entry, where so many stay before these; one that goes has none
abbrev pub places_left : (StoredEntry → Bool) → ℕ → List StoredEntry → List (Option ℕ)
places_left stays n [] = []
places_left stays n (x ∷ xs) = if stays x then Some n ∷ places_left stays (suc n) xs else None ∷ places_left stays n xs

-- a list of places, as they are then
abbrev pub moved_to : Option ℕ → List ℕ → List ℕ
moved_to None ks = ks
moved_to (Some k) ks = k ∷ ks

abbrev pub moved : List (Option ℕ) → List ℕ → List ℕ
moved places [] = []
moved places (k ∷ ks) = moved_to (slice_index_or places k None) (moved places ks)
