use Rattle.part_ddl.proofs.Making.{table_is_made}
use Rattle.part_ddl.proofs.tables.make_table.Goals as goal

pub add_table-requires : goal.add_table-requires
add_table-requires c = c.in_ok-shape.ensures.keys c.args.columns c.requires.keys

pub returns-in-Ok : goal.returns-in-Ok
returns-in-Ok c h cat rows =
    let there = c.in_ok-shape.ensures.made h rows in
    table_is_made c.args.catalog.now c.add_table.new.self c.shape_for.new.rows h c.args.name c.args.columns c.args.level c.args.by c.args.cmd c.in-Ok.table c.in_ok-shape.shape cat c.in-Ok.ensures.number c.in-Ok.ensures.cause there.0 there.1
    (λ g stands. c.in-Ok.ensures.added g stands)
