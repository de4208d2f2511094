-- The order of refusals: the first fault, or else what comes of it.
use Rattle.std.specs.Prelude.{List, [], ◌∷◌, Result, Ok, Err}
use Rattle.pg_values.specs.declared.fault.Fault.{Fault}

-- one answer after another
abbrev pub next_answer : {T U : Type 0} → Result T Fault → (T → Result U Fault) → Result U Fault
next_answer (Ok x) next = next x
next_answer (Err f) next = Err f

abbrev pub unless_faults : {T : Type 0} → List Fault → Result T Fault → Result T Fault
unless_faults [] answer = answer
unless_faults (f ∷ fs) answer = Err f
