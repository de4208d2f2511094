use Rattle.std.proofs.Common.{◌≡◌, ◌∙◌, ap, sym, Bool, false, List, length, map, get_or}
use Rattle.history.specs.History.{tx_events}
use Rattle.part_catalog.specs.declared.stored.StoredEntry.{StoredEntry}
use Rattle.part_catalog.specs.Kept.{KeptCatalogue, no_entry}
use Rattle.part_catalog.specs.Stands.{present_by, shown_by}
use Rattle.part_catalog.proofs.KeptTrees.{kept_lent}
use Rattle.part_catalog.proofs.Trees.{lent, shown_grove, tree_told}
use Rattle.part_catalog.proofs.catalog.Catalog.tree.Goals as goal

pub grow_or_share-requires-clause-grove : goal.grow_or_share-requires-clause-grove
grow_or_share-requires-clause-grove c =
    let l = lent c.args.self.now c.self.inside.tables.items c.deref-2.result.now c.self.inside.entries.items c.deref-3.result.now c.self.inside.below.items c.deref-4.result.now c.self.inside.names c.self.invariant.0 (ap (λ (k : KeptCatalogue). k.tables) c.self.view_is) (ap (λ (k : KeptCatalogue). k.entries) c.self.view_is) c.deref-2.ensures.value c.deref-3.ensures.value c.deref-4.ensures.value in
    let rows : c.deref.result.now ≡ c.deref-3.result.now = c.deref.ensures.value ∙ sym c.deref-3.ensures.value in
    let count : length c.deref-5.result.now ≡ length c.deref-3.result.now = ap (length {A = Bool}) c.deref-5.ensures.value ∙ c.in_ok-flags.ensures.count ∙ ap (length {A = StoredEntry}) rows in
    shown_grove c.args.txs.now c.args.self.now c.args.session c.deref-2.result.now c.deref-3.result.now c.deref-4.result.now c.deref-5.result.now l c.requires.siblings count
    (λ h txs k set. ap (λ (es : List StoredEntry). present_by (tx_events h) c.args.session (get_or es k no_entry)) (sym rows) ∙ c.in_ok-flags.ensures.part h txs k (ap (λ (fs : List Bool). get_or fs k false) (sym c.deref-5.ensures.value) ∙ set))

pub grow_or_share-requires-clause-kept : goal.grow_or_share-requires-clause-kept
grow_or_share-requires-clause-kept c =
    kept_lent c.self.inside.tables.items c.deref-2.result.now c.self.inside.entries.items c.deref-3.result.now c.self.inside.trees.items c.deref-6.result.now c.deref-2.ensures.value c.deref-3.ensures.value c.deref-6.ensures.value c.self.invariant.1

pub returns : goal.returns
returns c h s txs st past snap =
    let l = lent c.args.self.now c.self.inside.tables.items c.deref-2.result.now c.self.inside.entries.items c.deref-3.result.now c.self.inside.below.items c.deref-4.result.now c.self.inside.names c.self.invariant.0 (ap (λ (k : KeptCatalogue). k.tables) c.self.view_is) (ap (λ (k : KeptCatalogue). k.entries) c.self.view_is) c.deref-2.ensures.value c.deref-3.ensures.value c.deref-4.ensures.value in
    c.in_ok-tree.ensures ∙ tree_told c.args.self.now h c.args.session c.args.table.number s c.deref-2.result.now c.deref-3.result.now c.deref-4.result.now c.deref-5.result.now l txs.sound st (c.deref-5.ensures.value ∙ c.in_ok-flags.ensures.is h s txs past snap ∙ ap (map (shown_by (tx_events h) c.args.session s)) (c.deref.ensures.value ∙ sym c.deref-3.ensures.value))
