-- The rows that are stored in the leaves of a table's tree are rows of its columns.
use Rattle.std.proofs.Common.{◌≡◌, ℕ, ◌<◌, List, inr, ap, sym, subst, ◌∙◌, arith, Some, All, find, option_map, map, length, get_or}
use Rattle.std.specs.List.{Contains}
use Rattle.std.proofs.lemmas.List.Elements.{All-contains}
use Rattle.pg_values.specs.declared.ids.TableNo.{TableNo}
use Rattle.bound_forms.specs.declared.level.Level.{Level as OneLevel}
use Rattle.history.specs.declared.catalogue.Entry.{Entry}
use Rattle.history.specs.declared.catalogue.Table.{Table}
use Rattle.history.specs.declared.version.Version.{Version}
use Rattle.history.specs.Catalogue.{tables_made}
use Rattle.history.specs.History.{History, tx_events, row_events, catalogue_events, versions, fresh}
use Rattle.history.specs.Places.{table_at, LiesIn, HasColumnsOf, Suits}
use Rattle.history.specs.Presence.{counts, entries_present}
use Rattle.row_router.specs.Histories.{ddl_tree}
use Rattle.row_router.specs.Trees.{IsRowOf, leaves}
use Rattle.row_router.proofs.Order.{all_children, under_children}
use Rattle.row_store.specs.Kept.{version_of}
use Rattle.soundness.specs.Versions.{IsVersion}
use Rattle.soundness.specs.Worlds.{IsMade, Present}
use Rattle.soundness.proofs.All.{legal_keeps_all}
use Rattle.soundness.proofs.Columns.{row_up, rows_are_of_trees}
use Rattle.soundness.proofs.OneLeaf.{all_versions}
use Rattle.soundness.proofs.Presence.{all_more, all_present}
use Rattle.soundness.proofs.Sound.{sound_of, catalogue_sound_of}
use Rattle.part_catalog.specs.Found.{made_at}
use Rattle.part_catalog.specs.Stands.{CatalogueStands}
use Rattle.part_ddl.specs.Below.{default_of, has_default_bound}
use Rattle.part_ddl.specs.Placing.{partitions_of}
use Rattle.stores.specs.Stand.{Stands}
use Rattle.stores.specs.declared.stores.Stores.{Stores}
use Rattle.stores.proofs.Goodness.{legal_of, permitted_of}
use Rattle.ddl_steps.proofs.Leaves.{tables_kept, found_all}

-- and of those of another table that has the same
pub rows_of : (stores : Stores) (h : History) (s p t : ℕ) (v : Version) → Stands stores h → t < length stores.catalog.tables → HasColumnsOf (made_at h p).columns (made_at h t).columns → Contains (map version_of stores.rows.stored) v → Contains (leaves (ddl_tree h s t)) v.leaf
    → IsRowOf (made_at h p).columns v.row
rows_of stores h s p t v stands low columns stored at =
    let legal = legal_of h stands.good in
    let permitted = permitted_of h stands.good in
    let count = tables_kept stores h stands in
    let made : IsMade (catalogue_events h) t = omega (arith, count, low) in
    let is = All-contains (IsVersion (row_events h)) (versions h) v (all_versions (row_events h)) (subst (λ (vs : List Version). Contains vs v) stands.all.rows.births stored) in
    row_up (made_at h p).columns (made_at h t).columns v.row columns (rows_are_of_trees h s t (fresh (tx_events h) s) v legal permitted made (inr at) is)

-- a table has the same columns in each history for which the catalogue stands
pub same_lie : (stores : Stores) (h other : History) (p : ℕ) (level : OneLevel) → CatalogueStands stores.catalog h → CatalogueStands stores.catalog other → All (LiesIn (made_at other p).columns) level.columns → All (LiesIn (made_at h p).columns) level.columns
same_lie stores h other p level here there lie = subst (λ (ts : List Table). All (LiesIn (table_at ts p).columns) level.columns) (sym there.tables ∙ here.tables) lie

-- the default partition of a table has the table's columns
pub default_columns : (stores : Stores) (h : History) (s p : ℕ) (d : TableNo) → Stands stores h → default_of h s p ≡ Some d → HasColumnsOf (made_at h p).columns (made_at h d.number).columns
default_columns stores h s p d stands is =
    let cats = catalogue_events h in
    let legal = legal_of h stands.good in
    let sound = sound_of h legal in
    let i = legal_keeps_all h legal (permitted_of h stands.good) in
    let entries = entries_present h s in
    let suit : All (Suits (tables_made cats)) entries = all_more (Present cats (counts (tx_events h) s)) (Suits (tables_made cats)) entries (λ e its. i.entries.suited e its.0) (all_present h s sound (catalogue_sound_of h legal)) in
    let P = λ (t : TableNo). HasColumnsOf (made_at h p).columns (made_at h t.number).columns in
    found_all P has_default_bound (partitions_of h s p) d
    (λ k e lt. subst (λ n. HasColumnsOf (made_at h n).columns (made_at h (get_or (partitions_of h s p) k e).child.number).columns) (under_children entries p k e lt) (all_children (Suits (tables_made cats)) entries p suit k e lt).columns) is
