use Rattle.std.proofs.Common.{◌≡◌, ◌∙◌, Some, None, ap, sym, subst, arith, map, filter, get_or}
use Rattle.std.specs.List.{position_or_len}
use Rattle.std.proofs.lemmas.Grind.{common_steps, elements}
use Rattle.history.specs.declared.catalogue.Table.{Table}
use Rattle.history.specs.declared.catalogue.Entry.{Entry}
use Rattle.history.specs.declared.catalogue.TableShape.TheVariants.{Leaf as LeafShape, Level as LevelShape}
use Rattle.history.specs.Places.{table_at}
use Rattle.row_router.specs.Histories.{above, bound_of, children, is_entry}
use Rattle.row_router.proofs.Order.{children_of_part}
use Rattle.part_catalog.specs.declared.stored.StoredTable.{StoredTable}
use Rattle.part_catalog.specs.declared.stored.StoredEntry.{StoredEntry}
use Rattle.part_catalog.specs.Groves.{IsLevel}
use Rattle.part_catalog.specs.Kept.{IsBetween, table_in, number_of, no_entry, with_place, by_place}
use Rattle.part_catalog.specs.Stands.{is_flagged}
use Rattle.part_catalog.proofs.Grown.{level_of, table_is}
use Rattle.part_catalog.proofs.Paths.{place_is}
use Rattle.part_catalog.proofs.Upwards.{place_none, place_leaf, place_level}
use Rattle.part_catalog.proofs.path.place_of.Goals as goal

pub returns-in_default : goal.returns-in_default
returns-in_default c =
    let part = filter (is_flagged c.args.flags.now) (by_place c.args.entries.now) in
    let found : None ≡ above part c.args.table.number = rw c.in_default.is at c.above_shown.ensures.is in
    place_none (map table_in c.args.tables.now) part (above part c.args.table.number) found

pub bounds-tables-parent : goal.bounds-tables-parent
bounds-tables-parent c =
    let x : StoredEntry = get_or c.args.entries.now c.in-Some.at c.index-entries-at.result in
    let same : x ≡ get_or c.args.entries.now c.in-Some.at no_entry = grind (arith, common_steps, elements, c.in-Some.ensures.within) in
    (subst (IsBetween c.args.tables.now) (sym same) (c.requires.grove.listed.between c.in-Some.at c.in-Some.ensures.within)).parent

pub bounds-below-parent : goal.bounds-below-parent
bounds-below-parent c =
    let x : StoredEntry = get_or c.args.entries.now c.in-Some.at c.index-entries-at.result in
    let same : x ≡ get_or c.args.entries.now c.in-Some.at no_entry = grind (arith, common_steps, elements, c.in-Some.ensures.within) in
    let between = subst (IsBetween c.args.tables.now) (sym same) (c.requires.grove.listed.between c.in-Some.at c.in-Some.ensures.within) in
    omega (arith, between.parent, c.requires.grove.listed.count)

pub share_set-requires-clause-level : goal.share_set-requires-clause-level
share_set-requires-clause-level c =
    let x : StoredEntry = get_or c.args.entries.now c.in-Some.at c.index-entries-at.result in
    let same : x ≡ get_or c.args.entries.now c.in-Some.at no_entry = grind (arith, common_steps, elements, c.in-Some.ensures.within) in
    let between = subst (IsBetween c.args.tables.now) (sym same) (c.requires.grove.listed.between c.in-Some.at c.in-Some.ensures.within) in
    level_of c.args.tables.now c.args.entries.now c.args.below.now c.args.flags.now x.entry.parent.number _ c.index-below-parent.result c.requires.grove between.parent c.index-below-parent.is

pub returns-in-Leaf : goal.returns-in-Leaf
returns-in-Leaf c =
    let T = map table_in c.args.tables.now in
    let part = filter (is_flagged c.args.flags.now) (by_place c.args.entries.now) in
    let x : StoredEntry = get_or c.args.entries.now c.in-Some.at c.index-entries-at.result in
    let k = c.in-Some.at in
    let same : x ≡ get_or c.args.entries.now k no_entry = grind (arith, common_steps, elements, c.in-Some.ensures.within) in
    let between = subst (IsBetween c.args.tables.now) (sym same) (c.requires.grove.listed.between k c.in-Some.ensures.within) in
    let here = table_is c.args.tables.now x.entry.parent.number c.index-tables-parent.result between.parent c.index-tables-parent.is in
    let shape : (table_at T x.entry.parent.number).shape ≡ LeafShape c.in-Leaf.field-0 = ap (λ (y : Table). y.shape) here ∙ ap (λ (y : StoredTable). y.table.shape) c.index-tables-parent.is ∙ c.in-Leaf.is in
    let found : Some (with_place k x.entry) ≡ above part c.args.table.number = ap (λ (y : StoredEntry). Some (with_place k y.entry)) same ∙ c.in-Some.ensures.is in
    place_leaf T part (above part c.args.table.number) (with_place k x.entry) c.in-Leaf.field-0 found shape

pub returns-in_ok-bounds-in-Level : goal.returns-in_ok-bounds-in-Level
returns-in_ok-bounds-in-Level c =
    let T = map table_in c.args.tables.now in
    let E = by_place c.args.entries.now in
    let F = c.args.flags.now in
    let part = filter (is_flagged F) E in
    let x : StoredEntry = get_or c.args.entries.now c.in-Some.at c.index-entries-at.result in
    let k = c.in-Some.at in
    let e : Entry = with_place k x.entry in
    let p = x.entry.parent.number in
    let same : x ≡ get_or c.args.entries.now k no_entry = grind (arith, common_steps, elements, c.in-Some.ensures.within) in
    let between = subst (IsBetween c.args.tables.now) (sym same) (c.requires.grove.listed.between k c.in-Some.ensures.within) in
    let here = table_is c.args.tables.now p c.index-tables-parent.result between.parent c.index-tables-parent.is in
    let shape : (table_at T p).shape ≡ LevelShape c.in-Level.level = ap (λ (y : Table). y.shape) here ∙ ap (λ (y : StoredTable). y.table.shape) c.index-tables-parent.is ∙ c.in-Level.is in
    let found : Some e ≡ above part c.args.table.number = ap (λ (y : StoredEntry). Some (with_place k y.entry)) same ∙ c.in-Some.ensures.is in
    let level : IsLevel c.args.entries.now c.index-below-parent.result F p = level_of c.args.tables.now c.args.entries.now c.args.below.now F p _ c.index-below-parent.result c.requires.grove between.parent c.index-below-parent.is in
    let list = level.below in
    let are : c.numbers.result.now ≡ map number_of (children E p) = cc (c.numbers.ensures, list) in
    let child : c.place_among-child.result ≡ position_or_len (is_entry e) (children part p) = c.place_among-child.ensures ∙ place_is c.args.entries.now F c.numbers.result.now p e are in
    place_level T part (above part c.args.table.number) e c.in-Level.level c.in_ok-level-in-Level.level c.in_ok-bounds-in-Level.bounds c.place_among-child.result found shape c.in_ok-level-in-Level.ensures (c.in_ok-bounds-in-Level.ensures ∙ ap (map bound_of) (children_of_part (is_flagged F) E p)) child
