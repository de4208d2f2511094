use Rattle.std.proofs.Common.{ap, sym}
use Rattle.step_engine.specs.Run.{fault_in, refused}
use Rattle.step_engine.proofs.opening.OpensStoresOpener.refusal.Goals as goal

pub returns-in-Ok : goal.returns-in-Ok
unfolding refused
returns-in-Ok g c = sym (ap fault_in c.in-Ok.ensures.is)

pub returns-in-Err-Sql : goal.returns-in-Err-Sql
unfolding refused
returns-in-Err-Sql g c = sym (ap fault_in (rw c.in-Err-Sql.field-0-is at c.in-Err-Sql.ensures.is))
