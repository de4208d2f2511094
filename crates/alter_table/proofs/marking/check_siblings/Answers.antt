use Rattle.std.proofs.Common.{sym, ◌∙◌}
use Rattle.ddl_steps.proofs.Below.{default_made}
use Rattle.alter_table.proofs.Pending.{pending_made}
use Rattle.alter_table.proofs.marking.check_siblings.Goals as goal

pub name_of-name-requires : goal.name_of-name-requires
name_of-name-requires c =
    default_made c.args.txs.now c.args.catalog.now c.args.session c.args.parent.number c.in-Some.default c.requires.siblings (λ h txs catalog. sym c.in-Some.is ∙ c.default_of.ensures h txs catalog)

pub name_of-name-requires-in-Some-pending_of : goal.name_of-name-requires-in-Some-pending_of
name_of-name-requires-in-Some-pending_of c =
    let a = c.requires.siblings in
    pending_made c.args.catalog.now a.h c.args.session c.args.parent.number c.in-Some-pending_of.table a.catalogue (sym c.in-Some-pending_of.is ∙ c.pending_of.ensures a.h a.txs a.catalogue)
