use Rattle.sql_ast.specs.Commands.{edges_of}
use Rattle.sql_written.specs.Commands.{edges}
use Rattle.sql_written.proofs.WriteCommands.{range_text}
use Rattle.sql_written.proofs.commands.write_range.Goals as goal

pub returns : goal.returns
returns c =
    range_text c.write_edges-2.result (edges (edges_of c.args.from.now)) (edges (edges_of c.args.to.now)) c.args.out.now.items c.extend_from_slice.new.self.items c.write_edges.new.out.items c.extend_from_slice-2.new.self.items c.write_edges-2.new.out.items
    c.in_ok-extend_from_slice.ensures.items c.in_ok-write_edges.ensures c.in_ok-extend_from_slice-2.ensures.items c.write_edges-2.ensures
