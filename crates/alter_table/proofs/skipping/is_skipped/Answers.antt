use Rattle.part_ddl.specs.Placing.{level_at}
use Rattle.alter_table.specs.Skipped.{asks_nothing, is_implied, kept_for}
use Rattle.alter_table.proofs.LeftOut.{skipped_told, not_skipped}
use Rattle.alter_table.proofs.skipping.is_skipped.Goals as goal
use Rattle.ddl_steps.proofs.Checks.{if_ok_more}

pub returns-then-asks_nothing : goal.returns-then-asks_nothing
returns-then-asks_nothing c =
    let s = c.args.session in
    let p = c.args.parent.number in
    let t = c.args.table.number in
    if_ok_more c.is_said.result _ _ (λ is told h txs catalog. skipped_told c.asks_nothing.result is (asks_nothing h s p) (is_implied (level_at h p) c.args.bound.now (kept_for h s t)) c.if-asks_nothing.true (c.asks_nothing.ensures h txs catalog) (told h txs catalog)) c.is_said.ensures

pub returns-else-asks_nothing : goal.returns-else-asks_nothing
returns-else-asks_nothing c = λ h txs catalog.
    let s = c.args.session in
    let p = c.args.parent.number in
    not_skipped c.asks_nothing.result (asks_nothing h s p) (is_implied (level_at h p) c.args.bound.now (kept_for h s c.args.table.number)) c.if-asks_nothing.false (c.asks_nothing.ensures h txs catalog)
