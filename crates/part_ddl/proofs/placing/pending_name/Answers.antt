use Rattle.std.proofs.Common.{◌∙◌, sym}
use Rattle.part_ddl.proofs.Making.{child_made}
use Rattle.part_ddl.proofs.placing.pending_name.Goals as goal

pub name_of-requires : goal.name_of-requires
name_of-requires c =
    child_made c.args.txs.now c.args.catalog.now c.args.session c.args.table.number c.in-Some.child c.requires (λ h txs st. sym c.in-Some.is ∙ c.pending_of.ensures h txs st)
