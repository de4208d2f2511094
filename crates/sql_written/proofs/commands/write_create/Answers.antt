use Rattle.sql_written.specs.Commands.{column_marks, maybe_by}
use Rattle.sql_written.specs.Lists.{enclosed, parts}
use Rattle.sql_written.proofs.WriteCommands.{create_text}
use Rattle.sql_written.proofs.commands.write_create.Goals as goal

pub returns : goal.returns
returns c =
    create_text c.write_by.result c.args.name.now (enclosed (parts column_marks c.args.columns.now)) (maybe_by c.args.by.now) _ _ _ _ _ _ c.in_ok-extend_from_slice.ensures.items c.in_ok-write_name.ensures.ok c.in_ok-push.ensures.items
    c.in_ok-write_columns.ensures c.write_by.ensures
