use Rattle.std.proofs.Common.{◌≡◌, ◌∙◌, ℕ, Option, List, ap, sym, subst, map, filter, rules}
use Rattle.std.proofs.lemmas.Fn.{filter_same}
use Rattle.part_catalog.specs.declared.stored.StoredEntry.{StoredEntry}
use Rattle.part_catalog.specs.Kept.{KeptCatalogue, IsKept}
use Rattle.part_catalog.specs.Moved.{moved, places_left}
use Rattle.part_catalog.specs.Stands.{CatalogueStands, stays_by}
use Rattle.part_catalog.proofs.KeptTrees.{none_kept}
use Rattle.part_catalog.proofs.Leaving.{kept_left, left_stands}
use Rattle.part_catalog.proofs.catalog.Catalog.forget_gone.Goals as goal

pub invariant_of-self : goal.invariant_of-self
invariant_of-self c =
    let T = c.self.inside.tables.items in
    let E = c.self.inside.entries.items in
    let B = c.self.inside.below.items in
    let stays = stays_by c.args.txs.now in
    let places : c.in-Ok.places.items ≡ places_left stays 0 E = c.in-Ok.ensures ∙ ap (places_left stays 0) c.deref.ensures.value in
    let below : c.in-Ok-all_moved.below.items ≡ map (moved c.in-Ok.places.items) B =
    c.in-Ok-all_moved.ensures
    ∙ ap (λ (ps : List (Option ℕ)). map (moved ps) c.deref-2.result.now) c.deref-3.ensures.value
    ∙ ap (map (moved c.in-Ok.places.items)) c.deref-2.ensures.value in
    let entries : c.retain.new.self.items ≡ filter stays E = filter_same _ stays _ (λ x b f' k. search rules) _ _ c.retain.ensures.filtered in
    let there = kept_left stays c.in-Ok.places.items T E B c.self.inside.names places c.self.invariant.0 in (
      subst (λ (es : List StoredEntry). IsKept T es c.in-Ok-all_moved.below.items c.self.inside.names) (sym entries)
          (subst (λ (ns : List (List ℕ)). IsKept T (filter stays E) ns c.self.inside.names) (sym below) there),
      none_kept _ _ _ c.forget.ensures,
    )

pub returns : goal.returns
returns c h txs st =
    let E = c.self.inside.entries.items in
    let stays = stays_by c.args.txs.now in
    let entries : c.retain.new.self.items ≡ filter stays E = filter_same _ stays _ (λ x b f' k. search rules) _ _ c.retain.ensures.filtered in
    let kept : KeptCatalogue = record { tables = c.self.inside.tables.items; entries = E; added = c.self.inside.added; checks = c.self.inside.checks.items } in
    let stands : CatalogueStands kept h = subst (λ (k : KeptCatalogue). CatalogueStands k h) (sym c.self.view_is) st in
    subst (λ (es : List StoredEntry). CatalogueStands (record { tables = c.self.inside.tables.items; entries = es; added = c.self.inside.added; checks = c.self.inside.checks.items }) h) (sym entries) (left_stands c.args.txs.now kept h txs stands)
