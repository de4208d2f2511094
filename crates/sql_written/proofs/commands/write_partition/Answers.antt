use Rattle.sql_ast.specs.Commands.{bound_tree}
use Rattle.sql_written.specs.Commands.{bound_marks, maybe_by}
use Rattle.sql_written.proofs.WriteCommands.{partition_text}
use Rattle.sql_written.proofs.commands.write_partition.Goals as goal

pub returns : goal.returns
returns c =
    partition_text c.write_by.result c.args.name.now c.args.parent.now (bound_marks (bound_tree c.args.bound.now)) (maybe_by c.args.by.now) _ _ _ _ _ _ _ _ c.in_ok-extend_from_slice.ensures.items c.in_ok-write_name.ensures.ok
    c.in_ok-extend_from_slice-2.ensures.items c.in_ok-write_name-2.ensures.ok c.in_ok-push.ensures.items c.in_ok-write_bound.ensures c.write_by.ensures
