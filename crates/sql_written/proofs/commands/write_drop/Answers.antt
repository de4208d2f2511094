use Rattle.sql_written.proofs.WriteCommands.{drop_text}
use Rattle.sql_written.proofs.commands.write_drop.Goals as goal

pub returns : goal.returns
returns c =
    drop_text c.write_names.result c.args.if_there c.args.names.now c.as_slice.result.now _ _ _ _ c.as_slice.ensures c.in_ok-extend_from_slice.ensures.items c.in_ok-write_exists.ensures c.write_names.ensures
