use Rattle.sql_written.specs.Commands.{locked_marks, mode_marks}
use Rattle.sql_written.specs.Lists.{parts}
use Rattle.sql_written.proofs.WriteCommands.{lock_text}
use Rattle.sql_written.proofs.commands.write_lock.Goals as goal

pub returns : goal.returns
returns c =
    lock_text c.write_mode.result (parts locked_marks c.args.tables.now) (mode_marks c.args.mode) _ _ _ _ c.in_ok-extend_from_slice.ensures.items c.in_ok-write_locked.ensures c.write_mode.ensures
