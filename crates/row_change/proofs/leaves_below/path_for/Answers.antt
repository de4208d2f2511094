use Rattle.std.proofs.Common.{[], sym, subst}
use Rattle.row_router.specs.Histories.{path_of}
use Rattle.row_change.specs.Targets.{HasChecksOf}
use Rattle.row_change.proofs.Unchecked.{nothing_asked, checks_asked}
use Rattle.row_change.proofs.leaves_below.path_for.Goals as goal

pub returns-then-check_count-eq0 : goal.returns-then-check_count-eq0
returns-then-check_count-eq0 c h txs catalogue =
    subst (λ ps. HasChecksOf (path_of h c.args.session c.args.table.number) ps) (sym c.new.ensures.items)
    (nothing_asked h c.args.session c.args.table.number c.check_count.result c.if-check_count-eq0.true (c.check_count.ensures.is h catalogue))

pub returns : goal.returns
returns c = λ h txs catalogue. checks_asked (path_of h c.args.session c.args.table.number) c.in_ok-path.path.items (c.in_ok-path.ensures h txs catalogue)
