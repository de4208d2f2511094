-- What is appended to a script that is being made.
use Rattle.std.specs.Prelude.{ℕ, List, [], ◌∷◌}
use Rattle.script_program.specs.Draws.{Drawn, Moves, drawn, fixed, in_turn}
use Rattle.script_program.specs.declared.load.Load.{Load}

abbrev pub Goes : Drawn ℕ → Load → Load → Type 0
Goes d old new = Moves d old.state old.text.items new.state new.text.items

abbrev pub drawn_between : List ℕ → ℕ → List ℕ → Drawn ℕ
drawn_between before n behind = in_turn (fixed before ∷ drawn n ∷ fixed behind ∷ [])
