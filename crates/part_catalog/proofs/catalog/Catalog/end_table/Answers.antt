use Rattle.std.proofs.Common.{◌≡◌, ◌<◌, Some, ap, refl, sym, subst, arith, ◌∷◌, Option, length, map, get_or, slice_set}
use Rattle.std.specs.List.{All}
use Rattle.std.proofs.lemmas.Grind.{common_steps, elements}
use Rattle.std.proofs.lemmas.List.{length-set}
use Rattle.history.specs.declared.catalogue.Stamp.{Stamp}
use Rattle.history.specs.Catalogue.{TableDropped}
use Rattle.history.specs.History.{CatalogueChange}
use Rattle.part_catalog.specs.declared.stored.StoredTable.{StoredTable}
use Rattle.part_catalog.specs.Groves.{IsGrownFrom}
use Rattle.part_catalog.specs.Kept.{KeptCatalogue, IsKept, table_in, by_place, no_stored}
use Rattle.part_catalog.specs.Stands.{CatalogueStands}
use Rattle.part_catalog.proofs.Listed.{kept_same_tables}
use Rattle.part_catalog.proofs.Keeping.{dropped_stands, same_names, same_tables}
use Rattle.part_catalog.proofs.KeptTrees.{kept_same}
use Rattle.part_catalog.proofs.catalog.Catalog.end_table.Goals as goal

pub invariant_of-self : goal.invariant_of-self
invariant_of-self c =
    let T = c.self.inside.tables.items in
    let k = c.args.table.number in
    let s : Option Stamp = Some (record { by = c.args.by; cmd = c.args.cmd }) in
    let known : k < length T = omega (arith, c.requires.known, ap (λ (x : KeptCatalogue). length x.tables) c.self.view_is) in
    let same : c.index_mut-stored.result.now ≡ get_or T k no_stored = grind (arith, common_steps, elements, c.index_mut-stored.ensures.value) in
    let new : StoredTable = record { table = (get_or T k no_stored).table; dropped = s } in
    let there = kept_same_tables T (slice_set T k new) c.self.inside.entries.items c.self.inside.below.items c.self.inside.names (length-set T k new) (same_names T k s known) c.self.invariant.0 in
    let E = c.self.inside.entries.items in
    let grown = kept_same (map table_in T) (map table_in (slice_set T k new)) (by_place E) (by_place E) c.self.inside.trees.items (same_tables T k s known) refl c.self.invariant.1 in (
      subst (λ (x : StoredTable). IsKept (slice_set T k (record { table = x.table; dropped = s })) E c.self.inside.below.items c.self.inside.names) (sym same) there,
      subst (λ (x : StoredTable). All (IsGrownFrom (map table_in (slice_set T k (record { table = x.table; dropped = s }))) (by_place E)) c.self.inside.trees.items) (sym same) grown,
    )

pub returns : goal.returns
returns c = record {
  added = λ h txs st.
      let T = c.self.inside.tables.items in
      let k = c.args.table.number in
      let s : Option Stamp = Some (record { by = c.args.by; cmd = c.args.cmd }) in
      let known : k < length T = omega (arith, c.requires.known, ap (λ (x : KeptCatalogue). length x.tables) c.self.view_is) in
      let same : c.index_mut-stored.result.now ≡ get_or T k no_stored = grind (arith, common_steps, elements, c.index_mut-stored.ensures.value) in
      let there = dropped_stands (record { tables = T; entries = c.self.inside.entries.items; added = c.self.inside.added; checks = c.self.inside.checks.items }) h k (record { by = c.args.by; cmd = c.args.cmd }) known (c.requires.standing h txs st) (subst (λ (x : KeptCatalogue). CatalogueStands x h) (sym c.self.view_is) st) in
      subst (λ (x : StoredTable). CatalogueStands (record { tables = slice_set T k (record { table = x.table; dropped = s }); entries = c.self.inside.entries.items; added = c.self.inside.added; checks = c.self.inside.checks.items }) (CatalogueChange (TableDropped k (record { by = c.args.by; cmd = c.args.cmd })) ∷ h)) (sym same) there;
}
