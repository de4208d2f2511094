-- What is given is told through a function, behind a part too.
use Rattle.std.proofs.Common.{◌≡◌, refl, Result, Ok, Err}
use Rattle.pg_values.specs.declared.answer.Answer.{Answer}
use Rattle.pg_values.specs.declared.fault.Fault.{Fault}
use Rattle.pg_values.specs.declared.ids.LeafId.{LeafId}
use Rattle.std.specs.Prelude.{List}
use Rattle.statement_steps.specs.Ended.{giving}
use Rattle.statement_steps.specs.Made.{Made, Halt, and_then, then_told}
use Rattle.select_statement.specs.Plain.{answer_in}
use Rattle.select_statement.specs.Selected.{outcome, with_reads}

pub giving_then : {T U V : Type 0} (f : U → V) (m : Made T) (next : T → Made U) → giving f (and_then m next) ≡ and_then m (λ x. giving f (next x))
giving_then {T = T} {U = U} {V = V} f m next = by m.told
  where
    by : (r : Result T Halt) → giving f (then_told r m.events next) ≡ then_told r m.events (λ x. giving f (next x))
    by (Ok x) = refl
    by (Err stop) = refl

-- the answer alone
pub answer_alone : (reads : List LeafId) (r : Result Answer Fault) → giving answer_in (outcome (with_reads reads r)) ≡ outcome r
answer_alone reads (Ok a) = refl
answer_alone reads (Err f) = refl
