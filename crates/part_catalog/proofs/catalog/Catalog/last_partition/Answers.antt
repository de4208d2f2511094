use Rattle.std.proofs.Common.{◌≡◌, ◌∙◌, ◌<◌, [], List, None, ap, sym, subst, arith, length, map, get_or}
use Rattle.std.specs.List.{All, last_or}
use Rattle.std.proofs.lemmas.Grind.{common_steps, elements}
use Rattle.history.specs.History.{tx_events}
use Rattle.row_router.specs.Histories.{children}
use Rattle.part_catalog.specs.declared.stored.StoredTable.{StoredTable}
use Rattle.part_catalog.specs.declared.stored.StoredEntry.{StoredEntry}
use Rattle.part_catalog.specs.Kept.{KeptCatalogue, number_of, by_place}
use Rattle.part_catalog.specs.Stands.{present_by}
use Rattle.part_catalog.proofs.Partitions.{passed, known_numbers, passed_are}
use Rattle.part_catalog.proofs.catalog.Catalog.last_partition.Goals as goal

pub last_present-requires : goal.last_present-requires
last_present-requires c =
    let E = c.self.inside.entries.items in
    let t = c.args.table.number in
    let tables = ap (λ (k : KeptCatalogue). k.tables) c.self.view_is in
    let known : t < length c.self.inside.tables.items = omega (arith, c.requires, ap (length {A = StoredTable}) tables) in
    let within : t < length c.self.inside.below.items = omega (arith, known, c.self.invariant.0.listed.count) in
    let list : c.index.result.now ≡ get_or c.self.inside.below.items t [] = grind (arith, common_steps, elements, c.index.ensures) in
    let numbers : c.numbers-numbers.result.now ≡ map number_of (children (by_place E) t) = c.numbers-numbers.ensures ∙ list ∙ c.self.invariant.0.listed.below t known in
    subst (λ (es : List StoredEntry). All (λ k. k < length es) c.numbers-numbers.result.now) (sym c.deref.ensures.value) (known_numbers E c.numbers-numbers.result.now t numbers)

pub returns : goal.returns
returns c h txs st =
    let kept = c.args.self.now in
    let t = c.args.table.number in
    let N = c.numbers-numbers.result.now in
    let tables = ap (λ (k : KeptCatalogue). k.tables) c.self.view_is in
    let entries = ap (λ (k : KeptCatalogue). k.entries) c.self.view_is in
    let known : t < length c.self.inside.tables.items = omega (arith, c.requires, ap (length {A = StoredTable}) tables) in
    let within : t < length c.self.inside.below.items = omega (arith, known, c.self.invariant.0.listed.count) in
    let list : c.index.result.now ≡ get_or c.self.inside.below.items t [] = grind (arith, common_steps, elements, c.index.ensures) in
    let numbers : N ≡ map number_of (children (by_place kept.entries) t) = c.numbers-numbers.ensures ∙ list ∙ c.self.invariant.0.listed.below t known ∙ ap (λ (es : List StoredEntry). map number_of (children (by_place es) t)) entries in
    c.last_present.ensures h txs
    ∙ ap (λ (es : List StoredEntry). last_or None (passed (present_by (tx_events h) c.args.session) es N)) (c.deref.ensures.value ∙ entries)
    ∙ ap (last_or None) (passed_are kept h c.args.session t N txs.sound st numbers)
