use Rattle.part_ddl.specs.Placing.{level_at}
use Rattle.alter_table.specs.Kept.{place_below}
use Rattle.alter_table.proofs.KeptChecks.{told_of_level, told_no_level}
use Rattle.alter_table.proofs.keeping.told_check.Goals as goal
use Rattle.ddl_steps.proofs.Checks.{if_ok_more}

pub returns-in-Ok : goal.returns-in-Ok
returns-in-Ok c =
    let s = c.args.session in
    let p = c.args.parent.number in
    let t = c.args.table.number in
    if_ok_more c.check_at.result _ _ (λ check told h txs catalog. told_of_level (level_at h p) c.in-Ok.level.now (place_below h s p t) check (c.in-Ok.ensures h catalog) (told h txs catalog)) c.check_at.ensures

pub returns-in-Err-Sql : goal.returns-in-Err-Sql
returns-in-Err-Sql c = λ h txs catalog. told_no_level c.in-Err-Sql.field-0 _ (level_at h c.args.parent.number) (place_below h c.args.session c.args.parent.number c.args.table.number) c.in-Err-Sql.field-0-is (c.in-Err-Sql.ensures h catalog)
