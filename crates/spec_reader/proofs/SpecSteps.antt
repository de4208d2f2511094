-- One part more of a script that is built.
use Rattle.std.proofs.Common.{◌≡◌, List, [], ◌∷◌, ◌++◌, refl, ap}
use Rattle.spec_reader.specs.Specs.{markers_of}
use Rattle.spec_reader.specs.declared.spec.Marker.{Marker}
use Rattle.spec_reader.specs.declared.spec.Marker.TheVariants as markers
use Rattle.spec_reader.specs.declared.written.WrittenMarker.{WrittenMarker}
use Rattle.spec_reader.specs.declared.written.WrittenMarker.TheVariants as written

pub markers_push : (ms : List WrittenMarker) (m : WrittenMarker) → markers_of ms ++ markers_of (m ∷ []) ≡ markers_of (ms ++ m ∷ [])
markers_push [] m = refl
markers_push (written.Waiting ∷ ms) m = ap (λ (z : List Marker). markers.Waiting ∷ z) (markers_push ms m)
markers_push (written.After name ∷ ms) m = ap (λ (z : List Marker). markers.After name ∷ z) (markers_push ms m)
markers_push (written.Notices ∷ ms) m = markers_push ms m
