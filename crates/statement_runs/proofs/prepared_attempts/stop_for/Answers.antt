use Rattle.statement_runs.proofs.Whole.{refused_is, no_memory_is}
use Rattle.statement_runs.proofs.prepared_attempts.stop_for.Goals as goal

pub returns-in-Sql-clause-is : goal.returns-in-Sql-clause-is
returns-in-Sql-clause-is c left before f same = refused_is left c.in-Sql.fault c.args.stores.now c.args.caller f before c.requires (λ h stands. same h stands c.in-Sql.fault c.in-Sql.is)

pub returns-in-Sql-clause-tally : goal.returns-in-Sql-clause-tally
returns-in-Sql-clause-tally c before more same = same c.in-Sql.fault c.in-Sql.is

pub returns-in-NoMemory-clause-is : goal.returns-in-NoMemory-clause-is
returns-in-NoMemory-clause-is c left before f same = no_memory_is left c.args.stores.now c.args.caller f before

pub returns-in-NoMemory-clause-tally : goal.returns-in-NoMemory-clause-tally
returns-in-NoMemory-clause-tally c before more same = tt
