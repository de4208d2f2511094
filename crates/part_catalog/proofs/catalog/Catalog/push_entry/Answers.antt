use Rattle.std.proofs.Common.{◌≡◌, ◌∙◌, ◌<◌, ◌++◌, ◌∷◌, [], ap, sym, subst, arith, List, length, map, get_or, slice_set}
use Rattle.std.specs.List.{insert, position_or_len}
use Rattle.std.proofs.lemmas.Grind.{common_steps, elements}
use Rattle.row_router.specs.Histories.{children, placed}
use Rattle.part_catalog.specs.declared.stored.StoredTable.{StoredTable}
use Rattle.part_catalog.specs.declared.stored.StoredEntry.{StoredEntry}
use Rattle.part_catalog.specs.Kept.{KeptCatalogue, IsBetween, IsKept, fresh, number_of, with_place, by_place}
use Rattle.part_catalog.specs.Ordered.{stands_behind}
use Rattle.part_catalog.proofs.Adding.{HaveOrders, can_place, stand_in_order}
use Rattle.part_catalog.proofs.KeptTrees.{none_kept}
use Rattle.part_catalog.proofs.Listed.{kept_with_entry, new_list}
use Rattle.part_catalog.proofs.catalog.Catalog.push_entry.Goals as goal

pub place_in-at-requires-clause-orders : goal.place_in-at-requires-clause-orders
place_in-at-requires-clause-orders c =
    let E = c.self.inside.entries.items in
    let B = c.self.inside.below.items in
    let p = c.args.entry.parent.number in
    let rows : c.deref.result.now ≡ E = c.deref.ensures.value in
    let entries : E ≡ c.args.self.now.entries = ap (λ (k : KeptCatalogue). k.entries) c.self.view_is in
    let known : p < length c.self.inside.tables.items = omega (arith, c.requires.between.parent, ap (λ (k : KeptCatalogue). length k.tables) c.self.view_is) in
    let within : p < length B = omega (arith, known, c.self.invariant.0.listed.count) in
    let list : c.index.result.now ≡ get_or B p [] = grind (arith, common_steps, elements, c.index.ensures) in
    let are : c.numbers.result.now ≡ map number_of (children (by_place c.deref.result.now) p) = c.numbers.ensures ∙ list ∙ c.self.invariant.0.listed.below p known ∙ ap (λ (es : List StoredEntry). map number_of (children (by_place es) p)) (sym rows) in
    can_place c.deref.result.now c.args.entry c.numbers.result.now are (subst (λ (es : List StoredEntry). HaveOrders es c.args.entry) (sym (rows ∙ entries)) c.requires.beside)

pub place_in-at-requires-clause-sorted : goal.place_in-at-requires-clause-sorted
place_in-at-requires-clause-sorted c =
    let B = c.self.inside.below.items in
    let p = c.args.entry.parent.number in
    let known : p < length c.self.inside.tables.items = omega (arith, c.requires.between.parent, ap (λ (k : KeptCatalogue). length k.tables) c.self.view_is) in
    let within : p < length B = omega (arith, known, c.self.invariant.0.listed.count) in
    let list : c.index.result.now ≡ get_or B p [] = grind (arith, common_steps, elements, c.index.ensures) in
    stand_in_order c.deref.result.now p c.numbers.result.now (c.numbers.ensures ∙ list ∙ c.self.invariant.0.listed.below p known ∙ ap (λ (es : List StoredEntry). map number_of (children (by_place es) p)) (sym c.deref.ensures.value))

pub invariant_of-self-2 : goal.invariant_of-self-2
invariant_of-self-2 c =
    let T = c.self.inside.tables.items in
    let E = c.self.inside.entries.items in
    let B = c.self.inside.below.items in
    let e = c.args.entry in
    let p = e.parent.number in
    let rows : c.deref.result.now ≡ E = c.deref.ensures.value in
    let known : p < length T = omega (arith, c.requires.between.parent, ap (λ (k : KeptCatalogue). length k.tables) c.self.view_is) in
    let within : p < length B = omega (arith, known, c.self.invariant.0.listed.count) in
    let number : c.len-place.result ≡ length E = grind (arith, common_steps, elements, c.len-place.ensures) in
    let between : IsBetween T (fresh e) = subst (λ (ts : List StoredTable). IsBetween ts (fresh e)) (sym (ap (λ (k : KeptCatalogue). k.tables) c.self.view_is)) c.requires.between in
    let read : c.index.result.now ≡ get_or B p [] = grind (arith, common_steps, elements, c.index.ensures) in
    let list : c.index_mut-list.result.now ≡ get_or B p [] = grind (arith, common_steps, elements, c.index_mut-list.ensures.value) in
    let numbers : c.numbers.result.now ≡ c.index_mut-list.result.now = c.numbers.ensures ∙ read ∙ sym list in
    let at : c.place_in-at.result ≡ position_or_len (stands_behind E e.bound) c.index_mut-list.result.now =
    c.place_in-at.ensures.is ∙ ap (λ (es : List StoredEntry). position_or_len (stands_behind es e.bound) c.numbers.result.now) rows ∙ ap (position_or_len (stands_behind E e.bound)) numbers in
    let new = new_list E e p c.place_in-at.result c.index_mut-list.result.now (list ∙ c.self.invariant.0.listed.below p known) at in
    let put : c.insert.new.self ≡ map number_of (placed (with_place (length E) e) (children (by_place E) p)) = c.in_ok-insert.ensures.ok ∙ ap (insert c.index_mut-list.result.now c.place_in-at.result) number ∙ new in
    let entries : c.push.new.self.items ≡ E ++ fresh e ∷ [] = c.in-Ok.ensures.items ∙ ap (λ (l : List StoredEntry). l ++ fresh e ∷ []) c.in_ok-reserve.ensures.items in
    let k = kept_with_entry T E B c.self.inside.names e c.insert.new.self c.self.invariant.0 between put in
    (subst (λ (es : List StoredEntry). IsKept T es (slice_set B p c.insert.new.self) c.self.inside.names) (sym entries) k, none_kept _ _ _ c.forget.ensures)
