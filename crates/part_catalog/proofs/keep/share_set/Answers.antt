use Rattle.std.proofs.Common.{◌∙◌, map}
use Rattle.part_catalog.specs.Kept.{table_in, by_place}
use Rattle.part_catalog.proofs.KeptTrees.{bounds_kept}
use Rattle.part_catalog.proofs.keep.share_set.Goals as goal

pub returns-in-Level : goal.returns-in-Level
returns-in-Level c =
    let T = map table_in c.args._tables.now in
    let E = by_place c.args.entries.now in
    c.in_ok-shared.ensures
    ∙ bounds_kept T E c.args.flags.now c.args.table.number c.in-Some.tree.now c.in-Level.field-0 c.in-Level.bounds c.in-Level.field-2 c.in-Level.is (c.in-Some.ensures T E c.requires.kept)
