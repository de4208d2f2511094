use Rattle.std.proofs.lemmas.Result.{err_from_is_err_and}
use Rattle.part_ddl.specs.Tables.{count_faults}
use Rattle.table_statements.specs.Seen.{seen_plan}
use Rattle.table_statements.specs.Tables.{columns_and_key}
use Rattle.ddl_steps.proofs.Firsts.{past_none, none_first, stops_first}
use Rattle.table_statements.proofs.tables.plan_of.Goals as goal

pub returns-in_err-check_count-clause-answer : goal.returns-in_err-check_count-clause-answer
returns-in_err-check_count-clause-answer c = let p = err_from_is_err_and c.from_residual.result c.from_residual.ensures.1 in λ h catalog.
    rw (p.1, p.2) (stops_first seen_plan c.in_err-check_count.field-0.0 (count_faults h) (columns_and_key c.args.definitions.now c.args.by.now) tt (c.in_err-check_count.ensures h catalog))

pub returns-clause-answer : goal.returns-clause-answer
returns-clause-answer c = λ h catalog.
    past_none seen_plan c.columns_and_key.result (count_faults h) (columns_and_key c.args.definitions.now c.args.by.now) (none_first (count_faults h) tt (c.in_ok-check_count.ensures h catalog)) c.columns_and_key.ensures.answer
