-- The first of a list of faults.
use Rattle.std.specs.Prelude.{◌≡◌, Bool, true, false, List, [], ◌∷◌, Result, Ok, Err}
use Rattle.pg_values.specs.declared.fault.Fault.{Fault}
use Rattle.pg_values.specs.declared.fault.Refusal.{Refusal}
use Rattle.pg_values.specs.declared.fault.Refusal.TheVariants.{Sql, NoMemory}

-- the fault, unless the rule is kept
abbrev pub unless : Bool → Fault → List Fault
unless true f = []
unless false f = f ∷ []

-- the value, or the first of the faults
abbrev pub or_first : {T : Type 0} → List Fault → T → Result T Fault
or_first [] v = Ok v
or_first (f ∷ fs) v = Err f

-- the faults of one computation
abbrev pub fault_in : {T : Type 0} → Result T Fault → List Fault
fault_in (Ok v) = []
fault_in (Err f) = f ∷ []

-- want of memory apart, the answer stands for this one
abbrev pub IsAnswerBy : {T U : Type 0} → (T → U) → Result T Refusal → Result U Fault → Type 0
IsAnswerBy f (Ok v) wanted = wanted ≡ Ok (f v)
IsAnswerBy f (Err (Sql e)) wanted = wanted ≡ Err e
IsAnswerBy f (Err NoMemory) wanted = Unit {0}
