use Rattle.std.proofs.Common.{sym, ◌∙◌}
use Rattle.row_router.specs.Seen.{seen}
use Rattle.row_change.proofs.Ways.{lost_is_numbered}
use Rattle.row_change.proofs.placing.leaf_of.Goals as goal

pub lost_at-requires : goal.lost_at-requires
lost_at-requires g c = lost_is_numbered _ c.args.row.now (seen c.args.tree.now) c.in-Err.lost c.requires.known (sym c.in_ok-leaf.ensures.leaf ∙ c.in-Err.is)
