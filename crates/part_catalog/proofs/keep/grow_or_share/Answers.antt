use Rattle.std.proofs.Common.{◌∙◌, map}
use Rattle.part_catalog.specs.Kept.{table_in, by_place}
use Rattle.part_catalog.proofs.KeptTrees.{grown_is}
use Rattle.part_catalog.proofs.keep.grow_or_share.Goals as goal

pub returns-in_ok-shared-in-Some : goal.returns-in_ok-shared-in-Some
returns-in_ok-shared-in-Some c =
    let T = map table_in c.args.tables.now in
    let E = by_place c.args.entries.now in
    c.in_ok-shared-in-Some.ensures ∙ c.in-Some.ensures T E c.requires.kept ∙ grown_is T E c.args.flags.now c.args.table.number
