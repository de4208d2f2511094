use Rattle.statement_steps.proofs.Steps.{handed_on}
use Rattle.table_statements.proofs.Fresh.{table_step, table_not_made}
use Rattle.table_statements.proofs.tables.make_planned.Goals as goal

pub make_table-requires-clause-leaves : goal.make_table-requires-clause-leaves
make_table-requires-clause-leaves c = c.requires.may.sound.1.leaves

pub returns : goal.returns
returns c =
    table_step (record { leaf = c.new_leaf_may_follow.ensures; level = c.new_level_may_follow.ensures; housed = c.leaves_are_housed.ensures })
    c.args.stores.now c.make_table.new.rows c.make_table.new.catalog c.args.attempt.now.caller c.args.name c.args.plan.columns c.args.plan.level c.in-Some.by c.in_ok-make_table.field-0
    c.requires.may c.requires.fit c.requires.free c.in-Some.ensures.is c.in_ok-make_table.ensures

pub returns-in_err-make_table : goal.returns-in_err-make_table
returns-in_err-make_table c =
    handed_on c.from_residual.ensures.1 (table_not_made c.args.stores.now c.make_table.new.rows c.make_table.new.catalog c.args.attempt.now.caller c.args.name c.args.plan.columns c.args.plan.level c.in-Some.by c.in_err-make_table.field-0.0 c.requires.may c.requires.free c.in_err-make_table.ensures)
