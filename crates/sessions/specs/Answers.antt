-- What a call answers that may be refused.
use Rattle.std.specs.Prelude.{◌≡◌, Result, Ok, Err}
use Rattle.pg_values.specs.declared.fault.Fault.{Fault}
use Rattle.pg_values.specs.declared.fault.Refusal.{Refusal}
use Rattle.pg_values.specs.declared.fault.Refusal.TheVariants.{Sql, NoMemory}

-- what is wanted, seen as contracts see it, or the fault; want of memory is free
abbrev pub IsAnswerBy : {T U : Type 0} → (T → U) → Result T Refusal → Result U Fault → Type 0
IsAnswerBy view (Ok x) wanted = wanted ≡ Ok (view x)
IsAnswerBy view (Err (Sql f)) wanted = wanted ≡ Err f
IsAnswerBy view (Err NoMemory) wanted = Unit {0}
