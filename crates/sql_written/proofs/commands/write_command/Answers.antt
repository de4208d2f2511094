use Rattle.std.proofs.Common.{◌≡◌, ap, sym}
use Rattle.sql_ast.specs.Commands.{attaches, bound_tree, command_tree, deallocates, detaches, makes_partition}
use Rattle.sql_written.proofs.WriteCommands.{deallocate_text, same_command}
use Rattle.sql_written.proofs.commands.write_command.Goals as goal

pub returns-in-CreatePartition : goal.returns-in-CreatePartition
returns-in-CreatePartition c =
    let t = makes_partition c.as_bytes-in-CreatePartition.result.now c.as_bytes-in-CreatePartition-2.result.now (bound_tree c.in-CreatePartition.bound) c.in-CreatePartition.by in
    let h = sym (ap command_tree c.in-CreatePartition.is) in
    let e : t ≡ command_tree c.args.command.now = cc (h, c.as_bytes-in-CreatePartition.ensures, c.as_bytes-in-CreatePartition-2.ensures) in
    same_command c.write_partition.result t (command_tree c.args.command.now) _ _ e c.write_partition.ensures

pub returns-in-Attach : goal.returns-in-Attach
returns-in-Attach c =
    let t = attaches c.as_bytes-in-Attach.result.now c.as_bytes-in-Attach-2.result.now (bound_tree c.in-Attach.bound) in
    let h = sym (ap command_tree c.in-Attach.is) in
    let e : t ≡ command_tree c.args.command.now = cc (h, c.as_bytes-in-Attach.ensures, c.as_bytes-in-Attach-2.ensures) in
    same_command c.write_attach.result t (command_tree c.args.command.now) _ _ e c.write_attach.ensures

pub returns-in-Detach : goal.returns-in-Detach
returns-in-Detach c =
    let t = detaches c.as_bytes-in-Detach.result.now c.as_bytes-in-Detach-2.result.now c.in-Detach.how in
    let h = sym (ap command_tree c.in-Detach.is) in
    let e : t ≡ command_tree c.args.command.now = cc (h, c.as_bytes-in-Detach.ensures, c.as_bytes-in-Detach-2.ensures) in
    same_command c.write_detach.result t (command_tree c.args.command.now) _ _ e c.write_detach.ensures

pub returns-in_ok-extend_from_slice-in-Deallocate : goal.returns-in_ok-extend_from_slice-in-Deallocate
returns-in_ok-extend_from_slice-in-Deallocate c =
    let z = c.as_bytes-in-Deallocate.result.now in
    let h = sym (ap command_tree c.in-Deallocate.is) in
    let e : deallocates z ≡ command_tree c.args.command.now = cc (h, c.as_bytes-in-Deallocate.ensures) in
    deallocate_text c.write_name-in-Deallocate.result z (command_tree c.args.command.now) _ _ _ e c.in_ok-extend_from_slice-in-Deallocate.ensures.items c.write_name-in-Deallocate.ensures.ok
