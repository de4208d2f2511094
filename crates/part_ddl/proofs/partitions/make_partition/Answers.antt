use Rattle.std.proofs.Common.{◌≡◌, ◌∙◌, ap, subst}
use Rattle.history.specs.declared.catalogue.Table.{Table}
use Rattle.history.specs.History.{tx_events}
use Rattle.history.specs.Transactions.{session_of}
use Rattle.part_catalog.specs.declared.new_table.CatalogRefused.{CatalogRefused}
use Rattle.part_catalog.specs.Found.{made_at}
use Rattle.part_catalog.specs.Full.{EntryRefused}
use Rattle.part_ddl.proofs.Making.{may_add, never_full, partition_is_made}
use Rattle.part_ddl.proofs.partitions.make_partition.Goals as goal

pub add_entry-requires : goal.add_entry-requires
add_entry-requires c =
    let m = c.requires in
    let columns : c.in_ok-columns.columns ≡ (made_at m.h c.args.parent.number).columns = c.in_ok-columns.ensures ∙ ap (λ (t : Table). t.columns) (c.table.ensures m.h m.catalogue) in
    may_add c.args.txs.now c.args.catalog.now c.args.rows.now c.make_table.new.catalog c.make_table.new.rows c.args.name c.in_ok-columns.columns c.args.parent c.args.bound c.args.level c.args.by c.args.cmd c.in_ok-table.table m columns
    (λ h cat st. c.in_ok-table.ensures h cat st)

pub unreachable-requires : goal.unreachable-requires
unreachable-requires c =
    let m = c.requires in
    never_full c.args.txs.now c.args.catalog.now c.args.rows.now c.make_table.new.catalog c.make_table.new.rows c.args.name c.in_ok-columns.columns c.args.parent c.args.bound c.args.level c.args.by c.args.cmd c.in_ok-table.table c.in-Err-Full.field-0-0 m
    (λ h cat st. c.in_ok-table.ensures h cat st)
    (λ h txs cat. subst (λ (r : CatalogRefused). EntryRefused h (session_of (tx_events h) c.args.by.number) c.args.parent.number c.in_ok-table.table.number r) c.in-Err-Full.field-0-is (c.in-Err-Full.ensures.cause h txs cat))

pub returns-in-Ok : goal.returns-in-Ok
returns-in-Ok c h txs cat rows =
    let columns : c.in_ok-columns.columns ≡ (made_at h c.args.parent.number).columns = c.in_ok-columns.ensures ∙ ap (λ (t : Table). t.columns) (c.table.ensures h cat) in
    partition_is_made c.args.txs.now c.make_table.new.catalog c.add_entry.new.self c.make_table.new.rows h c.args.name c.in_ok-columns.columns c.args.parent c.args.bound c.args.level c.args.by c.args.cmd c.in_ok-table.table txs columns
    (c.in_ok-table.ensures h cat rows)
    (λ g there stands. c.in-Ok.ensures.added g there stands)
