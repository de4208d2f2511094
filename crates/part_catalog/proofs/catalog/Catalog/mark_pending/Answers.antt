use Rattle.std.proofs.Common.{◌≡◌, ◌∙◌, ◌<◌, ◌∷◌, Some, None, Option, ap, sym, subst, arith, length, get_or, slice_set, refl, map}
use Rattle.std.specs.List.{All}
use Rattle.std.specs.List.{position}
use Rattle.std.proofs.lemmas.Grind.{common_steps, elements}
use Rattle.history.specs.declared.catalogue.Stamp.{Stamp}
use Rattle.history.specs.Catalogue.{EntryMarked, marks, counted_of}
use Rattle.history.specs.History.{CatalogueChange, tx_events, catalogue_events}
use Rattle.history.specs.Transactions.{session_of}
use Rattle.part_catalog.specs.declared.stored.StoredEntry.{StoredEntry}
use Rattle.part_catalog.specs.Groves.{IsGrownFrom}
use Rattle.part_catalog.specs.Kept.{KeptCatalogue, IsKept, table_in, no_entry, by_place}
use Rattle.part_catalog.specs.Stands.{CatalogueStands, between_by}
use Rattle.part_catalog.proofs.Listed.{kept_same_entries}
use Rattle.part_catalog.proofs.Keeping.{same_entries, marked_stands}
use Rattle.part_catalog.proofs.KeptTrees.{kept_same}
use Rattle.part_catalog.proofs.Places.{same_by_place}
use Rattle.part_catalog.proofs.Between.{between_is, none_between}
use Rattle.part_catalog.proofs.catalog.Catalog.mark_pending.Goals as goal

pub invariant_of-self : goal.invariant_of-self
invariant_of-self c =
    let E = c.self.inside.entries.items in
    let k = c.in-Some.at in
    let s : Option Stamp = Some (record { by = c.args.by; cmd = c.args.cmd }) in
    let known : k < length E = omega (arith, c.in-Some.ensures.within, c.deref.ensures.len) in
    let same : c.index_mut-stored.result.now ≡ get_or E k no_entry = grind (arith, common_steps, elements, c.index_mut-stored.ensures.value) in
    let new : StoredEntry = record { entry = (get_or E k no_entry).entry; ended = (get_or E k no_entry).ended; marked = s } in
    let there = kept_same_entries c.self.inside.tables.items E (slice_set E k new) c.self.inside.below.items c.self.inside.names (same_entries E k (get_or E k no_entry).ended s known) c.self.invariant.0 in
    let T = c.self.inside.tables.items in
    let grown = kept_same (map table_in T) (map table_in T) (by_place E) (by_place (slice_set E k new)) c.self.inside.trees.items refl (same_by_place (slice_set E k new) E (same_entries E k (get_or E k no_entry).ended s known)) c.self.invariant.1 in (
      subst (λ (x : StoredEntry). IsKept c.self.inside.tables.items (slice_set E k (record { entry = x.entry; ended = x.ended; marked = s })) c.self.inside.below.items c.self.inside.names) (sym same) there,
      subst (λ (x : StoredEntry). All (IsGrownFrom (map table_in T) (by_place (slice_set E k (record { entry = x.entry; ended = x.ended; marked = s })))) c.self.inside.trees.items) (sym same) grown,
    )

pub returns-in-Some : goal.returns-in-Some
returns-in-Some c = record {
  added = λ h e txs st is.
      let E = c.self.inside.entries.items in
      let k = c.in-Some.at in
      let stamp : Stamp = record { by = c.args.by; cmd = c.args.cmd } in
      let kept : KeptCatalogue = record { tables = c.self.inside.tables.items; entries = E; added = c.self.inside.added; checks = c.self.inside.checks.items } in
      let stands : CatalogueStands kept h = subst (λ (x : KeptCatalogue). CatalogueStands x h) (sym c.self.view_is) st in
      let known : k < length E = omega (arith, c.in-Some.ensures.within, c.deref.ensures.len) in
      let same : c.index_mut-stored.result.now ≡ get_or E k no_entry = grind (arith, common_steps, elements, c.index_mut-stored.ensures.value) in
      let s = session_of (tx_events h) c.args.by.number in
      let at : Some k ≡ position (between_by (tx_events h) s c.args.parent.number c.args.child.number) E =
      sym c.in-Some.is ∙ c.find_between.ensures.is h txs
      ∙ ap (λ n. position (between_by (tx_events h) n c.args.parent.number c.args.child.number) c.deref.result.now) (c.session_of-session.ensures h txs)
      ∙ ap (position (between_by (tx_events h) s c.args.parent.number c.args.child.number)) c.deref.ensures.value in
      let standing = c.requires h txs st in
      let first = between_is kept h s c.args.parent.number c.args.child.number k standing.0 txs.sound stands at standing.1 in
      let n = (get_or E k no_entry).entry.id.number in
      let none : counted_of (tx_events h) (marks (catalogue_events h)) n ≡ None = subst (λ n. counted_of (tx_events h) (marks (catalogue_events h)) n ≡ None) first standing.2 in
      let number = between_is kept h s c.args.parent.number c.args.child.number k e txs.sound stands at is in
      let there = marked_stands kept h k stamp known none stands in
      let here = subst (λ (x : StoredEntry). CatalogueStands (record { tables = c.self.inside.tables.items; entries = slice_set E k (record { entry = x.entry; ended = x.ended; marked = Some stamp }); added = c.self.inside.added; checks = c.self.inside.checks.items }) (CatalogueChange (EntryMarked n stamp) ∷ h)) (sym same) there in
      subst (λ n. CatalogueStands (record { tables = c.self.inside.tables.items; entries = slice_set E k (record { entry = c.index_mut-stored.result.now.entry; ended = c.index_mut-stored.result.now.ended; marked = Some stamp }); added = c.self.inside.added; checks = c.self.inside.checks.items }) (CatalogueChange (EntryMarked n stamp) ∷ h)) (sym number) here;
}

pub returns-in_default : goal.returns-in_default
returns-in_default c = record {
  added = λ h e txs st is.
      let s = session_of (tx_events h) c.args.by.number in
      let kept : KeptCatalogue = record { tables = c.self.inside.tables.items; entries = c.self.inside.entries.items; added = c.self.inside.added; checks = c.self.inside.checks.items } in
      let at : None ≡ position (between_by (tx_events h) s c.args.parent.number c.args.child.number) c.self.inside.entries.items =
      sym c.in_default.is ∙ c.find_between.ensures.is h txs
      ∙ ap (λ n. position (between_by (tx_events h) n c.args.parent.number c.args.child.number) c.deref.result.now) (c.session_of-session.ensures h txs)
      ∙ ap (position (between_by (tx_events h) s c.args.parent.number c.args.child.number)) c.deref.ensures.value in
      absurd (none_between kept h s c.args.parent.number c.args.child.number e txs.sound (subst (λ (x : KeptCatalogue). CatalogueStands x h) (sym c.self.view_is) st) at is);
}
