use Rattle.std.proofs.Common.{◌≡◌, ◌∙◌, ◌∷◌, ℕ, List, true, false, min, ap, sym, subst, refl, arith, inl, inr}
use Rattle.std.specs.Prelude.{nat_le}
use Rattle.std.proofs.lemmas.Bool.Decides.{nat_tests}
use Rattle.history.specs.declared.catalogue.Table.{Table}
use Rattle.history.specs.Catalogue.{EntryAdded, tables_made}
use Rattle.history.specs.History.{CatalogueChange, tx_events, catalogue_events}
use Rattle.history.specs.Places.{Suits}
use Rattle.history.specs.Presence.{entries_present}
use Rattle.history.specs.Transactions.{session_of}
use Rattle.row_router.specs.Trees.{TableTree, height}
use Rattle.row_router.specs.Histories.{above, ddl_tree}
use Rattle.part_catalog.specs.Full.{partitions, tables_above}
use Rattle.part_catalog.specs.Kept.{KeptCatalogue, next_entry, with_entry}
use Rattle.part_catalog.specs.Stands.{CatalogueStands}
use Rattle.part_catalog.proofs.Keeping.{added_stands}
use Rattle.part_catalog.proofs.Adding.{orders_of, too_deep, deep_enough}
use Rattle.part_catalog.proofs.catalog.Catalog.add_entry.Goals as goal

pub returns-then-self-ge-ENTRY_LIMIT-clause-cause : goal.returns-then-self-ge-ENTRY_LIMIT-clause-cause
returns-then-self-ge-ENTRY_LIMIT-clause-cause c h txs st =
    let same : c.self.inside.added ≡ c.args.self.now.added = ap (λ (k : KeptCatalogue). k.added) c.self.view_is in
    inl (refl, inr (omega (arith, same, st.added, c.if-self-ge-ENTRY_LIMIT.true)))

pub returns-then-is_full-clause-cause : goal.returns-then-is_full-clause-cause
returns-then-is_full-clause-cause c h txs st =
    let s = session_of (tx_events h) c.args.by.number in
    let p = c.args.parent.number in
    let full : nat_le 1024 (partitions h s p) ≡ true = ap (λ n. nat_le 1024 (partitions h n p)) (sym (c.session_of-session.ensures h txs)) ∙ sym (c.is_full.ensures h txs st) ∙ c.if-is_full.true in
    inl (refl, inl (grind (arith, nat_tests, full)))

pub returns-then-levels-height_up_to-gt-LEVEL_LIMIT-clause-cause : goal.returns-then-levels-height_up_to-gt-LEVEL_LIMIT-clause-cause
returns-then-levels-height_up_to-gt-LEVEL_LIMIT-clause-cause c h txs st =
    let s = session_of (tx_events h) c.args.by.number in
    let p = c.args.parent.number in
    let session = c.session_of-session.ensures h txs in
    let room : nat_le 1024 (partitions h s p) ≡ false = ap (λ n. nat_le 1024 (partitions h n p)) (sym session) ∙ sym (c.is_full.ensures h txs st) ∙ c.if-is_full.false in
    let up : c.levels_up-levels.result ≡ tables_above (above (entries_present h s)) p = c.levels_up-levels.ensures.is h txs st ∙ ap (λ n. tables_above (above (entries_present h n)) p) session in
    let deep : c.height_up_to.result ≡ min 9 (height (ddl_tree h s c.args.child.number)) =
    c.height_up_to.ensures ∙ ap (λ (t : TableTree). min 9 (height t)) (c.in-Ok.ensures h txs st ∙ ap (λ n. ddl_tree h n c.args.child.number) session) in
    inr (refl, grind (arith, nat_tests, room), too_deep (tables_above (above (entries_present h s)) p) (height (ddl_tree h s c.args.child.number)) c.height_up_to.result deep (omega (arith, up, c.if-levels-height_up_to-gt-LEVEL_LIMIT.true)))

pub push_entry-requires-clause-beside : goal.push_entry-requires-clause-beside
push_entry-requires-clause-beside c =
    orders_of c.args.self.now c.requires.h (next_entry c.args.self.now c.args.parent c.args.child c.args.bound c.args.by c.args.cmd) c.requires.catalogue c.requires.suits

pub returns-in-Ok-push_entry-clause-added : goal.returns-in-Ok-push_entry-clause-added
returns-in-Ok-push_entry-clause-added c h txs st =
    let kept = c.args.self.now in
    let e = next_entry kept c.args.parent c.args.child c.args.bound c.args.by c.args.cmd in
    let suits : Suits (tables_made (catalogue_events h)) e = subst (λ (ts : List Table). Suits ts e) (sym c.requires.catalogue.tables ∙ st.tables) c.requires.suits in
    let there = added_stands kept h e refl suits st in
    let same : c.self.inside.added ≡ kept.added = ap (λ (k : KeptCatalogue). k.added) c.self.view_is in
    let put : c.push_entry.new.self ≡ with_entry kept e =
    c.in-Ok-push_entry.ensures.ok ∙ ap (λ (n : ℕ). with_entry kept (record { id = record { number = n }; parent = c.args.parent; child = c.args.child; bound = c.args.bound; by = c.args.by; cmd = c.args.cmd })) same in
    c.forget_gone.ensures (CatalogueChange (EntryAdded e) ∷ h) txs (subst (λ (k : KeptCatalogue). CatalogueStands k (CatalogueChange (EntryAdded e) ∷ h)) (sym put) there)

pub returns-in-Ok-push_entry-clause-cause : goal.returns-in-Ok-push_entry-clause-cause
returns-in-Ok-push_entry-clause-cause c h txs st =
    let s = session_of (tx_events h) c.args.by.number in
    let p = c.args.parent.number in
    let session = c.session_of-session.ensures h txs in
    let room : nat_le 1024 (partitions h s p) ≡ false = ap (λ n. nat_le 1024 (partitions h n p)) (sym session) ∙ sym (c.is_full.ensures h txs st) ∙ c.if-is_full.false in
    let up : c.levels_up-levels.result ≡ tables_above (above (entries_present h s)) p = c.levels_up-levels.ensures.is h txs st ∙ ap (λ n. tables_above (above (entries_present h n)) p) session in
    let deep : c.height_up_to.result ≡ min 9 (height (ddl_tree h s c.args.child.number)) =
    c.height_up_to.ensures ∙ ap (λ (t : TableTree). min 9 (height t)) (c.in-Ok.ensures h txs st ∙ ap (λ n. ddl_tree h n c.args.child.number) session) in
    let same : c.self.inside.added ≡ c.args.self.now.added = ap (λ (k : KeptCatalogue). k.added) c.self.view_is in
    record {
      partitions = grind (arith, nat_tests, room);
      added = omega (arith, same, st.added, c.if-self-ge-ENTRY_LIMIT.false);
      levels = deep_enough (tables_above (above (entries_present h s)) p) (height (ddl_tree h s c.args.child.number)) c.height_up_to.result deep (omega (arith, up, c.if-levels-height_up_to-gt-LEVEL_LIMIT.false));
    }
