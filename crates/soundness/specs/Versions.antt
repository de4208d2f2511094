-- Row versions and their ends as propositions: each new event adds one case and keeps the others.
use Rattle.std.specs.Prelude.{◌≡◌, ℕ, [], ◌∷◌, ◌⊎◌}
use Rattle.history.specs.declared.version.Version.{Version}
use Rattle.history.specs.declared.version.End.{End}
use Rattle.history.specs.Rows.{RowEvents, LeafAdded, RowBorn, RowEnded}

-- there is such a version
abbrev pub IsVersion : RowEvents → Version → Type 0
IsVersion [] x = ⊥
IsVersion (LeafAdded l ∷ h) x = IsVersion h x
IsVersion (RowBorn v ∷ h) x = (v ≡ x) ⊎ IsVersion h x
IsVersion (RowEnded k e ∷ h) x = IsVersion h x

-- the version of that number was ended so
abbrev pub IsEnd : RowEvents → ℕ → End → Type 0
IsEnd [] k x = ⊥
IsEnd (LeafAdded l ∷ h) k x = IsEnd h k x
IsEnd (RowBorn v ∷ h) k x = IsEnd h k x
IsEnd (RowEnded id e ∷ h) k x = ((id ≡ k) × (e ≡ x)) ⊎ IsEnd h k x
