use Rattle.std.proofs.Common.{◌≡◌, sym, ◌∙◌, map}
use Rattle.history.specs.Presence.{checks_of}
use Rattle.row_router.specs.Histories.{kept_of}
use Rattle.part_ddl.specs.Placing.{level_at}
use Rattle.alter_table.specs.Kept.{check_told, place_below}
use Rattle.alter_table.proofs.Checks.{told_suits}
use Rattle.alter_table.proofs.KeptChecks.{none_new, equal_kept, new_told}
use Rattle.alter_table.proofs.keeping.new_check.Goals as goal

pub is_kept-requires-clause-own : goal.is_kept-requires-clause-own
is_kept-requires-clause-own c =
    let a = c.requires.siblings in
    (told_suits a.h c.args.session c.args.parent.number c.args.table.number c.in-Some.check a.catalogue.sound (sym (sym c.in-Some.is ∙ c.in_ok-told_check.ensures a.h a.txs a.catalogue))).1

pub returns-in-None : goal.returns-in-None
returns-in-None c = λ h txs catalog.
    let s = c.args.session in
    let t = c.args.table.number in
    none_new (map kept_of (checks_of h s t)) (check_told (level_at h c.args.parent.number) (place_below h s c.args.parent.number t)) (sym c.in-None.is ∙ c.in_ok-told_check.ensures h txs catalog)

pub returns-then-is_there : goal.returns-then-is_there
returns-then-is_there c = λ h txs catalog.
    let s = c.args.session in
    let t = c.args.table.number in
    equal_kept (map kept_of (checks_of h s t)) (check_told (level_at h c.args.parent.number) (place_below h s c.args.parent.number t)) c.in-Some.check (sym c.in-Some.is ∙ c.in_ok-told_check.ensures h txs catalog) (sym c.if-is_there.true ∙ c.in_ok-is_there-in-Some.ensures h txs catalog)

pub returns-else-is_there : goal.returns-else-is_there
returns-else-is_there c = λ h txs catalog.
    let s = c.args.session in
    let t = c.args.table.number in
    new_told (map kept_of (checks_of h s t)) (check_told (level_at h c.args.parent.number) (place_below h s c.args.parent.number t)) c.in-Some.check (sym c.in-Some.is ∙ c.in_ok-told_check.ensures h txs catalog) (sym c.if-is_there.false ∙ c.in_ok-is_there-in-Some.ensures h txs catalog)
