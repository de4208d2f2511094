use Rattle.table_statements.specs.Partitions.{partitioned}
use Rattle.sql_ast.specs.Commands.{bound_tree}
use Rattle.statement_runs.proofs.Whole.{silent_ends}
use Rattle.statement_runs.proofs.attempts.attempt_create_partition.Goals as goal

pub returns : goal.returns
returns c rest ps out = silent_ends rest c.ended.result c.create_partition.result c.ended.ensures c.args.stores.now c.create_partition.new.stores c.args.attempt.now.caller (partitioned c.args.attempt.now.names.now c.args.attempt.now.caller c.args.name.now c.args.parent.now (bound_tree c.args.bound.now) c.args.by.now) out c.create_partition.ensures
