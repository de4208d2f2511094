use Rattle.std.proofs.Common.{subst}
use Rattle.history.specs.declared.catalogue.TableShape.{TableShape}
use Rattle.history.specs.Places.{TakesBound}
use Rattle.part_catalog.specs.Found.{made_at}
use Rattle.part_ddl.specs.Placing.{level_at}
use Rattle.alter_table.specs.Skipped.{kept_for}
use Rattle.alter_table.proofs.LeftOut.{said_at, none_said}
use Rattle.alter_table.proofs.skipping.is_said.Goals as goal
use Rattle.ddl_steps.proofs.Checks.{if_ok_more}
use Rattle.ddl_steps.proofs.Shapes.{shape_at}

pub is_implied-requires-clause-own : goal.is_implied-requires-clause-own
is_implied-requires-clause-own c =
    let a = c.requires.siblings in
    let made = made_at a.h c.args.parent.number in
    subst (λ (x : TableShape). TakesBound x c.args.bound.now) (shape_at made.name made.shape c.in-Ok.level.now (c.in-Ok.ensures a.h a.catalogue)) (c.requires.takes a.h a.catalogue)

pub returns-in-Ok : goal.returns-in-Ok
returns-in-Ok c =
    let s = c.args.session in
    let p = c.args.parent.number in
    let t = c.args.table.number in
    if_ok_more c.is_implied.result _ _ (λ is told h txs catalog. said_at (level_at h p) c.in-Ok.level.now c.args.bound.now (kept_for h s t) is (c.in-Ok.ensures h catalog) (told h txs catalog)) c.is_implied.ensures

pub returns-in-Err-Sql : goal.returns-in-Err-Sql
returns-in-Err-Sql c = λ h txs catalog. none_said c.in-Err-Sql.field-0 _ (level_at h c.args.parent.number) c.args.bound.now (kept_for h c.args.session c.args.table.number) c.in-Err-Sql.field-0-is (c.in-Err-Sql.ensures h catalog)
