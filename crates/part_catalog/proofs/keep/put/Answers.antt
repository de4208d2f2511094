use Rattle.std.proofs.Common.{sym, subst}
use Rattle.std.specs.List.{All}
use Rattle.std.proofs.lemmas.List.Elements.{All-push}
use Rattle.part_catalog.specs.Groves.{IsGrownFrom}
use Rattle.part_catalog.proofs.KeptTrees.{none_kept}
use Rattle.part_catalog.proofs.keep.put.Goals as goal

pub returns-then-len-ge-KEPT_LIMIT : goal.returns-then-len-ge-KEPT_LIMIT
returns-then-len-ge-KEPT_LIMIT c tables entries all one =
    let P = IsGrownFrom tables entries in
    subst (All P) (sym c.in_ok-push.ensures.items) (All-push P c.forget.new.kept.items c.args.new (none_kept tables entries c.forget.new.kept.items c.forget.ensures) one)

pub returns : goal.returns
returns c tables entries all one =
    let P = IsGrownFrom tables entries in
    subst (All P) (sym c.in_ok-push-2.ensures.items) (All-push P c.args.kept.now.items c.args.new all one)
