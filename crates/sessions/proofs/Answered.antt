-- A call that is refused.
use Rattle.std.proofs.Common.{◌≡◌, Result, Err, subst}
use Rattle.pg_values.specs.declared.fault.Fault.{Fault}
use Rattle.pg_values.specs.declared.fault.Refusal.{Refusal}
use Rattle.pg_values.specs.declared.fault.Refusal.TheVariants.{Sql}
use Rattle.sessions.specs.Answers.{IsAnswerBy}

-- what is said of a fault does not depend on how answers are seen
pub refused_by : {U : Type 0} (e : Refusal) (f : Fault) (wanted : Result U Fault) → e ≡ Sql f → IsAnswerBy (λ (x : U). x) (Err e) wanted → wanted ≡ Err f
refused_by {U} e f wanted is h = subst (λ z. IsAnswerBy (λ (x : U). x) (Err z) wanted) is h
