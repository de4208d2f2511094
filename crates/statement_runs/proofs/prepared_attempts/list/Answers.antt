use Rattle.std.proofs.Common.{Result, subst}
use Rattle.pg_values.specs.declared.fault.Refusal.{Refusal}
use Rattle.expression_binder.specs.Firsts.{IsAnswerBy}
use Rattle.statement_runs.proofs.Whole.{taken_is}
use Rattle.statement_runs.proofs.prepared_attempts.list.Goals as goal

pub returns-in-Ok-clause-is : goal.returns-in-Ok-clause-is
returns-in-Ok-clause-is c ps told answer =
    taken_is told ps c.args.stores.now c.args.caller c.requires (subst (λ (d : Result (Unit {0}) Refusal). IsAnswerBy (λ (u : Unit {0}). ps) d told) c.in-Ok.is answer)
