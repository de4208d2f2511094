use Rattle.std.proofs.Common.{◌≡◌, map, drop}
use Rattle.std.specs.Option.{option_or}
use Rattle.pg_values.specs.declared.ids.LeafId.{LeafId}
use Rattle.row_router.specs.Trees.{trees_of}
use Rattle.row_router.specs.Seen.{seen}
use Rattle.row_change.specs.Places.{noted}
use Rattle.row_change.specs.Targets.{holder_in}
use Rattle.row_change.specs.Ways.{root}
use Rattle.row_change.proofs.TablesByLeaf.{holder_among}
use Rattle.row_change.proofs.holders.+note_holders.Given as goal

-- with the partitions that are left there are the tables of all
abbrev pub invariant-loop-child : goal.invariant-loop-child
invariant-loop-child l = (leaf : LeafId) → option_or (noted l.holders leaf) (holder_among (root (seen l.fn.tree)) (trees_of (map seen (drop l.child-index l.child-items))) leaf) ≡ option_or (noted l.fn.holders leaf) (holder_in (seen l.fn.tree) leaf)
