use Rattle.std.proofs.Common.{◌≡◌, ◌∙◌, ◌<◌, ap, sym, Bool, List, arith, get_or, length, map}
use Rattle.std.proofs.lemmas.Grind.{common_steps, elements}
use Rattle.history.specs.declared.catalogue.Table.{Table}
use Rattle.history.specs.declared.catalogue.TableShape.TheVariants.{Leaf}
use Rattle.history.specs.History.{tx_events}
use Rattle.history.specs.Places.{table_at}
use Rattle.row_router.specs.Histories.{node_at}
use Rattle.row_router.specs.Trees.{LeafTable}
use Rattle.part_catalog.specs.declared.stored.StoredTable.{StoredTable}
use Rattle.part_catalog.specs.declared.stored.StoredEntry.{StoredEntry}
use Rattle.part_catalog.specs.Kept.{KeptCatalogue, table_in}
use Rattle.part_catalog.specs.Stands.{present_by}
use Rattle.part_catalog.proofs.Grown.{table_is}
use Rattle.part_catalog.proofs.KeptTrees.{kept_lent}
use Rattle.part_catalog.proofs.Trees.{lent, leaf_told, present_grove, ddl_tree_told}
use Rattle.part_catalog.proofs.catalog.Catalog.ddl_tree.Goals as goal

pub returns-in-Leaf : goal.returns-in-Leaf
returns-in-Leaf c h txs st =
    let T = c.self.inside.tables.items in
    let t = c.args.table.number in
    let tables = ap (λ (k : KeptCatalogue). k.tables) c.self.view_is in
    let known : t < length T = omega (arith, c.requires.known, ap (length {A = StoredTable}) tables) in
    let at : c.index.result.now ≡ get_or T t c.index.result.now = grind (arith, common_steps, elements, c.index.ensures, known) in
    let here = table_is T t c.index.result.now known at in
    let shape : (table_at (map table_in T) t).shape ≡ Leaf c.in-Leaf.leaf = ap (λ (x : Table). x.shape) here ∙ c.in-Leaf.is in
    let own = c.in_ok-tree.ensures ∙ ap (λ (ts : List StoredTable). LeafTable (node_at (map table_in ts) t t) c.in-Leaf.leaf) c.deref.ensures.value in
    own ∙ leaf_told c.args.self.now h c.args.session t T c.in-Leaf.leaf tables st shape

pub grow_or_share-requires-clause-grove : goal.grow_or_share-requires-clause-grove
grow_or_share-requires-clause-grove c =
    let l = lent c.args.self.now c.self.inside.tables.items c.deref-3.result.now c.self.inside.entries.items c.deref-4.result.now c.self.inside.below.items c.deref-5.result.now c.self.inside.names c.self.invariant.0 (ap (λ (k : KeptCatalogue). k.tables) c.self.view_is) (ap (λ (k : KeptCatalogue). k.entries) c.self.view_is) c.deref-3.ensures.value c.deref-4.ensures.value c.deref-5.ensures.value in
    let rows : c.deref-2.result.now ≡ c.deref-4.result.now = c.deref-2.ensures.value ∙ sym c.deref-4.ensures.value in
    let count : length c.deref-6.result.now ≡ length c.deref-4.result.now = ap (length {A = Bool}) c.deref-6.ensures.value ∙ c.in_ok-flags.ensures.count ∙ ap (length {A = StoredEntry}) rows in
    present_grove c.args.txs.now c.args.self.now c.args.session c.deref-3.result.now c.deref-4.result.now c.deref-5.result.now c.deref-6.result.now l c.requires.siblings count
    (λ h txs. c.deref-6.ensures.value ∙ c.in_ok-flags.ensures.is h txs ∙ ap (map (present_by (tx_events h) c.args.session)) rows)

pub grow_or_share-requires-clause-kept : goal.grow_or_share-requires-clause-kept
grow_or_share-requires-clause-kept c =
    kept_lent c.self.inside.tables.items c.deref-3.result.now c.self.inside.entries.items c.deref-4.result.now c.self.inside.trees.items c.deref-7.result.now c.deref-3.ensures.value c.deref-4.ensures.value c.deref-7.ensures.value c.self.invariant.1

pub returns : goal.returns
returns c h txs st =
    let l = lent c.args.self.now c.self.inside.tables.items c.deref-3.result.now c.self.inside.entries.items c.deref-4.result.now c.self.inside.below.items c.deref-5.result.now c.self.inside.names c.self.invariant.0 (ap (λ (k : KeptCatalogue). k.tables) c.self.view_is) (ap (λ (k : KeptCatalogue). k.entries) c.self.view_is) c.deref-3.ensures.value c.deref-4.ensures.value c.deref-5.ensures.value in
    c.in_ok-tree-2.ensures ∙ ddl_tree_told c.args.self.now h c.args.session c.args.table.number c.deref-3.result.now c.deref-4.result.now c.deref-5.result.now c.deref-6.result.now l txs.sound st (c.deref-6.ensures.value ∙ c.in_ok-flags.ensures.is h txs ∙ ap (map (present_by (tx_events h) c.args.session)) (c.deref-2.ensures.value ∙ sym c.deref-4.ensures.value))
