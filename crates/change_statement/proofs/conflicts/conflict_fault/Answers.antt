use Rattle.std.proofs.Common.{◌<◌, length, sym, subst}
use Rattle.pg_values.specs.declared.ids.TableNo.{TableNo}
use Rattle.row_router.specs.Seen.{seen}
use Rattle.change_statement.proofs.Faults.{holder_all}
use Rattle.change_statement.proofs.conflicts.conflict_fault.Goals as goal

pub fault_for-requires : goal.fault_for-requires
fault_for-requires c =
    subst (λ (t : TableNo). t.number < length c.args.catalog.now.tables) (sym c.in_ok-table.ensures) (holder_all (λ (t : TableNo). t.number < length c.args.catalog.now.tables) (seen c.args.tree.now) c.args.leaf c.requires)
