use Rattle.std.proofs.Common.{◌≡◌, ◌<◌, ◌≤◌, ◌+◌, ◌-◌, ◌++◌, ◌∷◌, ◌∙◌, true, false, ap, arith, List, Vec, Global, length, map, filter, drop, get_or, [], refl}
use Rattle.std.proofs.lemmas.List.{length-map, map-append}
use Rattle.std.proofs.lemmas.Grind.{common_steps, elements}
use Rattle.history.specs.declared.catalogue.Table.{Table}
use Rattle.history.specs.declared.catalogue.Entry.{Entry}
use Rattle.history.specs.Places.{table_at}
use Rattle.row_router.specs.declared.tree.Tree.{Tree}
use Rattle.part_catalog.specs.declared.stored.StoredTable.{StoredTable}
use Rattle.part_catalog.specs.declared.stored.StoredEntry.{StoredEntry}
use Rattle.history.specs.declared.catalogue.TableShape.TheVariants.{Leaf as LeafShape, Level as LevelShape}
use Rattle.row_router.specs.Seen.{seen, items_of}
use Rattle.row_router.specs.Trees.{TableTree, LeafTable}
use Rattle.row_router.specs.Histories.{children, tree_within, child_of_entry}
use Rattle.part_catalog.specs.Kept.{table_in, number_of, no_entry, with_place, by_place}
use Rattle.part_catalog.specs.Stands.{is_flagged}
use Rattle.part_catalog.proofs.Grown.{kid_at, take_step, skip_step, all_done, level_of, table_is, none_in_order, grown_bare, grown_leaf, grown_level, level_made}
use Rattle.part_catalog.proofs.grow.+grow.Goals as goal
use Rattle.part_catalog.proofs.grow.+grow.Goals.{then-flags-number+in_ok-tree-in-Level+in_ok-push-in-Level, else-flags-number}

pub bounds-below-table : goal.bounds-below-table
bounds-below-table t c = omega (arith, c.requires.known, c.requires.grove.listed.count)

pub bounds-flags-number : goal.bounds-flags-number
bounds-flags-number t c =
    let b = c.requires.grove.listed.below c.args.table.number c.requires.known in
    let same : get_or c.args.below.now c.args.table.number [] ≡ c.index-below-table.result = grind (arith, common_steps, elements, c.index-below-table.is, c.requires.grove.listed.count, c.requires.known) in
    let are : c.numbers-number-items.result.now ≡ map number_of (children (by_place c.args.entries.now) c.args.table.number) = cc in
    let kid = kid_at c.args.entries.now c.numbers-number-items.result.now c.args.table.number c.loop-number.number-index are c.loop-number-test.true in
    omega (arith, kid.known, c.requires.grove.flagged)

pub grow-requires : goal.grow-requires
grow-requires t c =
    let n = get_or c.numbers-number-items.result.now c.loop-number.number-index 0 in
    let b = c.requires.grove.listed.below c.args.table.number c.requires.known in
    let same : get_or c.args.below.now c.args.table.number [] ≡ c.index-below-table.result = grind (arith, common_steps, elements, c.index-below-table.is, c.requires.grove.listed.count, c.requires.known) in
    let are : c.numbers-number-items.result.now ≡ map number_of (children (by_place c.args.entries.now) c.args.table.number) = cc in
    let kid = kid_at c.args.entries.now c.numbers-number-items.result.now c.args.table.number c.loop-number.number-index are c.loop-number-test.true in
    let entry : get_or c.args.entries.now n c.index-entries-number.result ≡ get_or c.args.entries.now n no_entry = grind (arith, common_steps, elements, kid.known) in
    let between = c.requires.grove.listed.between n kid.known in
    (omega (arith, c.decreases, c.if-depth-eq0.false), (c.requires.grove, rw entry between.child))

pub loop-number-preserved : goal.loop-number-preserved
loop-number-preserved t c =
    let b = c.requires.grove.listed.below c.args.table.number c.requires.known in
    let same : get_or c.args.below.now c.args.table.number [] ≡ c.index-below-table.result = grind (arith, common_steps, elements, c.index-below-table.is, c.requires.grove.listed.count, c.requires.known) in
    let are : c.numbers-number-items.result.now ≡ map number_of (children (by_place c.args.entries.now) c.args.table.number) = cc in
    let E = c.args.entries.now in
    let F = c.args.flags.now in
    let A = by_place E in
    let kids = children A c.args.table.number in
    let i = c.loop-number.number-index in
    let n = get_or c.numbers-number-items.result.now i 0 in
    let kid = kid_at E c.numbers-number-items.result.now c.args.table.number i are c.loop-number-test.true in
    let e : Entry = with_place n (get_or E n no_entry).entry in
    let f : Entry → TableTree = λ x. tree_within (c.args.depth - 1) (map table_in c.args.tables.now) (filter (is_flagged F) A) c.args.named.number (child_of_entry x) in
    let all = map f (filter (is_flagged F) kids) in
    elim c.if-flags-number.branch [
      | then-flags-number+in_ok-tree-in-Level+in_ok-push-in-Level w ↦
          let entry : get_or E n w.index-entries-number.result ≡ get_or E n no_entry = grind (arith, common_steps, elements, kid.known) in
          let here : is_flagged F e ≡ true = w.if-flags-number.true in
          let tree : seen w.in_ok-tree-in-Level.tree ≡ f e = w.in_ok-tree-in-Level.ensures ∙ ap (λ (y : StoredEntry). f (with_place n y.entry)) entry in
          let put : map seen c.if-flags-number.trees.items ≡ map seen c.loop-number.trees.items ++ f e ∷ [] =
          ap (λ (v : Vec Tree Global). map seen v.items) w.trees-is ∙ ap (map seen) w.in_ok-push-in-Level.ensures.items ∙ map-append seen c.loop-number.trees.items (w.in_ok-tree-in-Level.tree ∷ []) ∙ ap (λ (x : TableTree). map seen c.loop-number.trees.items ++ x ∷ []) tree in
          take_step (is_flagged F) f (map seen c.loop-number.trees.items) (map seen c.if-flags-number.trees.items) kids i e all kid.there here put c.loop-number.invariant
      | else-flags-number w ↦
          let off : is_flagged F e ≡ false = w.if-flags-number.false in
          let kept : map seen c.if-flags-number.trees.items ≡ map seen c.loop-number.trees.items = ap (λ (v : Vec Tree Global). map seen v.items) w.trees-is in
          ap (λ (l : List TableTree). l ++ map f (filter (is_flagged F) (drop (i + 1) kids))) kept ∙ skip_step (is_flagged F) f (map seen c.loop-number.trees.items) kids i e all kid.there off c.loop-number.invariant
    ]

pub set_in_order-requires-clause-ordered : goal.set_in_order-requires-clause-ordered
set_in_order-requires-clause-ordered t c = none_in_order c.new.result.items c.new.ensures.items

pub returns-then-depth-eq0 : goal.returns-then-depth-eq0
returns-then-depth-eq0 t c =
    let T = map table_in c.args.tables.now in
    let part = filter (is_flagged c.args.flags.now) (by_place c.args.entries.now) in
    let here = table_is c.args.tables.now c.args.table.number c.index-tables-table.result c.requires.known c.index-tables-table.is in
    let is : c.index-tables-table.result.table.shape ≡ LevelShape c.in-Level.level = cc in
    let none : c.in_ok-none-in-Level.none ≡ [] = c.in_ok-none-in-Level.ensures ∙ c.new.ensures.items in
    let bare : map seen (items_of c.in_ok-bare-in-Level.bare) ≡ [] = ap (map seen) (c.in_ok-bare-in-Level.ensures ∙ c.new-trees.ensures.items) in
    c.level.ensures
    ∙ level_made _ _ _ _ _ _ _ _ c.in_ok-node.ensures c.in_ok-level-in-Level.ensures none bare
    ∙ grown_bare c.args.depth T part c.args.named.number c.args.table.number c.in-Level.level c.if-depth-eq0.true (ap (λ x. x.shape) here ∙ is)

pub set_below-requires : goal.set_below-requires
set_below-requires t c = level_of c.args.tables.now c.args.entries.now c.args.below.now c.args.flags.now c.args.table.number _ c.index-below-table.result c.requires.grove c.requires.known c.index-below-table.is

pub returns-in-Leaf : goal.returns-in-Leaf
returns-in-Leaf t c =
    let T = map table_in c.args.tables.now in
    let part = filter (is_flagged c.args.flags.now) (by_place c.args.entries.now) in
    let here = table_is c.args.tables.now c.args.table.number c.index-tables-table.result c.requires.known c.index-tables-table.is in
    let shape : (table_at T c.args.table.number).shape ≡ LeafShape c.in-Leaf.leaf = ap (λ (x : Table). x.shape) here ∙ ap (λ (y : StoredTable). y.table.shape) c.index-tables-table.is ∙ c.in-Leaf.is in
    c.leaf.ensures ∙ ap (λ n. LeafTable n c.in-Leaf.leaf) c.in_ok-node.ensures ∙ grown_leaf c.args.depth T part c.args.named.number c.args.table.number c.in-Leaf.leaf shape

pub returns-in_ok-shared-in-Level : goal.returns-in_ok-shared-in-Level
returns-in_ok-shared-in-Level t c =
    let b = c.requires.grove.listed.below c.args.table.number c.requires.known in
    let same : get_or c.args.below.now c.args.table.number [] ≡ c.index-below-table.result = grind (arith, common_steps, elements, c.index-below-table.is, c.requires.grove.listed.count, c.requires.known) in
    let are : c.numbers-number-items.result.now ≡ map number_of (children (by_place c.args.entries.now) c.args.table.number) = cc in
    let T = map table_in c.args.tables.now in
    let A = by_place c.args.entries.now in
    let F = c.args.flags.now in
    let kids = children A c.args.table.number in
    let f : Entry → TableTree = λ x. tree_within (c.args.depth - 1) T (filter (is_flagged F) A) c.args.named.number (child_of_entry x) in
    let long : length c.numbers-number-items.result.now ≡ length kids = ap length are ∙ length-map kids number_of in
    let over : length kids ≤ c.loop-number.number-index = omega (arith, long, c.loop-number-test.false) in
    let trees : map seen c.loop-number.trees.items ≡ map f (filter (is_flagged F) kids) = all_done (is_flagged F) f (map seen c.loop-number.trees.items) kids c.loop-number.number-index (map f (filter (is_flagged F) kids)) over c.loop-number.invariant in
    let here = table_is c.args.tables.now c.args.table.number c.index-tables-table.result c.requires.known c.index-tables-table.is in
    let shape : (table_at T c.args.table.number).shape ≡ LevelShape c.in-Level.level = ap (λ (x : Table). x.shape) here ∙ ap (λ (y : StoredTable). y.table.shape) c.index-tables-table.is ∙ c.in-Level.is in
    let some : 0 < c.args.depth = omega (arith, c.if-depth-eq0.false) in
    c.level-in-Level.ensures
    ∙ level_made _ _ _ _ _ _ _ _ c.in_ok-node.ensures c.in_ok-level-in-Level.ensures refl (ap (map seen) c.in_ok-shared-in-Level.ensures)
    ∙ grown_level c.args.depth T A (is_flagged F) c.args.named.number c.args.table.number c.in-Level.level c.in_ok-bounds-in-Level.bounds (map seen c.loop-number.trees.items) some shape c.in_ok-bounds-in-Level.ensures trees
