use Rattle.std.proofs.Common.{◌≡◌, ◌++◌, ◌∙◌, append_assoc, ap, sym, subst, List}
use Rattle.pg_values.specs.declared.ids.TableNo.{TableNo}
use Rattle.history.specs.declared.catalogue.Stamp.{Stamp}
use Rattle.history.specs.History.{History, tx_events}
use Rattle.history.specs.Transactions.{session_of}
use Rattle.row_router.specs.Histories.{ddl_tree}
use Rattle.row_router.specs.Seen.{seen}
use Rattle.tx_table.specs.Stands.{TableStands}
use Rattle.part_catalog.specs.Stands.{CatalogueStands}
use Rattle.part_ddl.specs.Below.{tables_in, tables_from}
use Rattle.part_ddl.specs.Dropped.{places_ended, tables_dropped}
use Rattle.part_ddl.proofs.Going.{may_drop_all, places_leave, stands_on}
use Rattle.part_ddl.proofs.dropped.drop_table.Goals as goal

pub end_tables-requires : goal.end_tables-requires
end_tables-requires c =
    let V = c.deref-2.result.now in
    let s : Stamp = record { by = c.args.by; cmd = c.args.cmd } in
    let same : c.deref.result.now ≡ V = c.deref.ensures.value ∙ sym c.deref-2.ensures.value in
    let listed : V ≡ tables_in (seen c.in_ok-tree.tree) = c.deref-2.ensures.value ∙ c.in_ok-push_tables.ensures ∙ ap (λ (ts : List TableNo). ts ++ tables_in (seen c.in_ok-tree.tree)) c.new-tables.ensures.items in
    let told : (h : History) → TableStands c.args.txs.now h → CatalogueStands c.args.catalog.now h → V ≡ tables_from h (session_of (tx_events h) c.args.by.number) c.args.table.number =
    λ h txs st. listed ∙ ap tables_in (c.in_ok-tree.ensures h txs st ∙ ap (λ n. ddl_tree h n c.args.table.number) (c.session_of.ensures h txs)) in
    may_drop_all c.args.txs.now c.args.catalog.now c.end_places.new.catalog c.args.table.number c.args.by s V c.requires.known c.requires.free told
    (λ h txs st. subst (λ (ts : List TableNo). CatalogueStands c.end_places.new.catalog (places_ended (session_of (tx_events h) c.args.by.number) s h ts ++ h)) same (c.end_places.ensures h txs st))

pub returns-clause-ok : goal.returns-clause-ok
returns-clause-ok c h txs st =
    let V = c.deref-2.result.now in
    let n = session_of (tx_events h) c.args.by.number in
    let s : Stamp = record { by = c.args.by; cmd = c.args.cmd } in
    let same : c.deref.result.now ≡ V = c.deref.ensures.value ∙ sym c.deref-2.ensures.value in
    let listed : V ≡ tables_in (seen c.in_ok-tree.tree) = c.deref-2.ensures.value ∙ c.in_ok-push_tables.ensures ∙ ap (λ (ts : List TableNo). ts ++ tables_in (seen c.in_ok-tree.tree)) c.new-tables.ensures.items in
    let told : V ≡ tables_from h n c.args.table.number = listed ∙ ap tables_in (c.in_ok-tree.ensures h txs st ∙ ap (λ k. ddl_tree h k c.args.table.number) (c.session_of.ensures h txs)) in
    let g = places_ended n s h V ++ h in
    let ends : CatalogueStands c.end_places.new.catalog g = subst (λ (ts : List TableNo). CatalogueStands c.end_places.new.catalog (places_ended n s h ts ++ h)) same (c.end_places.ensures h txs st) in
    let drops : CatalogueStands c.end_tables.new.catalog (tables_dropped s V ++ g) = c.end_tables.ensures g (stands_on c.args.txs.now g h (places_leave n s h V) txs) ends in
    let whole : CatalogueStands c.end_tables.new.catalog ((tables_dropped s V ++ places_ended n s h V) ++ h) = subst (λ (x : History). CatalogueStands c.end_tables.new.catalog x) (sym (append_assoc (tables_dropped s V) (places_ended n s h V) h)) drops in
    subst (λ (ts : List TableNo). CatalogueStands c.end_tables.new.catalog ((tables_dropped s ts ++ places_ended n s h ts) ++ h)) told whole
