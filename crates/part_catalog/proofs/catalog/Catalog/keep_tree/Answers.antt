use Rattle.std.proofs.Common.{◌≡◌, ◌∙◌, refl, ap, sym, Bool, false, List, length, map, get_or}
use Rattle.history.specs.History.{tx_events}
use Rattle.row_router.specs.Seen.{seen}
use Rattle.part_catalog.specs.declared.stored.StoredEntry.{StoredEntry}
use Rattle.part_catalog.specs.Kept.{KeptCatalogue, table_in, no_entry, by_place}
use Rattle.part_catalog.specs.Stands.{present_by, shown_by}
use Rattle.part_catalog.proofs.Trees.{lent, shown_grove, tree_told}
use Rattle.part_catalog.proofs.KeptTrees.{grown_is, grown_whole, kept_lent}
use Rattle.part_catalog.proofs.catalog.Catalog.keep_tree.Goals as goal

pub grow-requires-clause-grove : goal.grow-requires-clause-grove
grow-requires-clause-grove c =
    let l = lent c.args.self.now c.self.inside.tables.items c.deref-4.result.now c.self.inside.entries.items c.deref-5.result.now c.self.inside.below.items c.deref-6.result.now c.self.inside.names c.self.invariant.0 (ap (λ (k : KeptCatalogue). k.tables) c.self.view_is) (ap (λ (k : KeptCatalogue). k.entries) c.self.view_is) c.deref-4.ensures.value c.deref-5.ensures.value c.deref-6.ensures.value in
    let rows : c.deref.result.now ≡ c.deref-5.result.now = c.deref.ensures.value ∙ sym c.deref-5.ensures.value in
    let count : length c.deref-7.result.now ≡ length c.deref-5.result.now = ap (length {A = Bool}) c.deref-7.ensures.value ∙ c.in_ok-flags.ensures.count ∙ ap (length {A = StoredEntry}) rows in
    shown_grove c.args.txs.now c.args.self.now c.args.session c.deref-4.result.now c.deref-5.result.now c.deref-6.result.now c.deref-7.result.now l c.requires.siblings count
    (λ h txs k set. ap (λ (es : List StoredEntry). present_by (tx_events h) c.args.session (get_or es k no_entry)) (sym rows) ∙ c.in_ok-flags.ensures.part h txs k (ap (λ (fs : List Bool). get_or fs k false) (sym c.deref-7.ensures.value) ∙ set))

pub invariant_of-self : goal.invariant_of-self
invariant_of-self c =
    let T = c.self.inside.tables.items in
    let E = c.self.inside.entries.items in
    let one = grown_whole T c.deref-4.result.now E c.deref-5.result.now c.in_ok-flags.flags.items c.deref-7.result.now c.args.table.number (seen c.in_ok-tree.tree) c.deref-4.ensures.value c.deref-5.ensures.value c.deref-7.ensures.value c.in_ok-tree.ensures in
    (c.self.invariant.0, c.put.ensures (map table_in T) (by_place E) c.self.invariant.1 one)

pub invariant_of-self-2 : goal.invariant_of-self-2
invariant_of-self-2 c =
    let T = c.self.inside.tables.items in
    let E = c.self.inside.entries.items in
    let one = grown_whole T c.deref-4.result.now E c.deref-5.result.now c.in_ok-flags.flags.items c.deref-7.result.now c.args.table.number (seen c.in_ok-tree.tree) c.deref-4.ensures.value c.deref-5.ensures.value c.deref-7.ensures.value c.in_ok-tree.ensures in
    (c.self.invariant.0, c.put.ensures (map table_in T) (by_place E) c.self.invariant.1 one)

pub returns-in-Some-clause-tree : goal.returns-in-Some-clause-tree
returns-in-Some-clause-tree c h s txs st past snap =
    let T = c.self.inside.tables.items in
    let E = c.self.inside.entries.items in
    let flags = c.deref-3.result.now in
    let l = lent c.args.self.now T T E E c.self.inside.below.items c.self.inside.below.items c.self.inside.names c.self.invariant.0 (ap (λ (k : KeptCatalogue). k.tables) c.self.view_is) (ap (λ (k : KeptCatalogue). k.entries) c.self.view_is) refl refl refl in
    c.in_ok-shared.ensures
    ∙ c.in-Some.ensures (map table_in T) (by_place E) (kept_lent T T E E c.self.inside.trees.items c.deref-2.result.now refl refl c.deref-2.ensures.value c.self.invariant.1)
    ∙ grown_is (map table_in T) (by_place E) flags c.args.table.number
    ∙ tree_told c.args.self.now h c.args.session c.args.table.number s T E c.self.inside.below.items flags l txs.sound st (c.deref-3.ensures.value ∙ c.in_ok-flags.ensures.is h s txs past snap ∙ ap (map (shown_by (tx_events h) c.args.session s)) c.deref.ensures.value)

pub returns-clause-tree : goal.returns-clause-tree
returns-clause-tree c h s txs st past snap =
    let l = lent c.args.self.now c.self.inside.tables.items c.deref-4.result.now c.self.inside.entries.items c.deref-5.result.now c.self.inside.below.items c.deref-6.result.now c.self.inside.names c.self.invariant.0 (ap (λ (k : KeptCatalogue). k.tables) c.self.view_is) (ap (λ (k : KeptCatalogue). k.entries) c.self.view_is) c.deref-4.ensures.value c.deref-5.ensures.value c.deref-6.ensures.value in
    c.in_ok-shared-2.ensures ∙ c.in_ok-tree.ensures ∙ tree_told c.args.self.now h c.args.session c.args.table.number s c.deref-4.result.now c.deref-5.result.now c.deref-6.result.now c.deref-7.result.now l txs.sound st (c.deref-7.ensures.value ∙ c.in_ok-flags.ensures.is h s txs past snap ∙ ap (map (shown_by (tx_events h) c.args.session s)) (c.deref.ensures.value ∙ sym c.deref-5.ensures.value))
