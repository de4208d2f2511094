use Rattle.std.proofs.Common.{◌≡◌, ◌∙◌, ◌<◌, [], List, ap, sym, subst, arith, length, map, filter, get_or}
use Rattle.std.specs.List.{All}
use Rattle.std.proofs.lemmas.Grind.{common_steps, elements}
use Rattle.std.proofs.lemmas.Bool.Decides.{nat_tests}
use Rattle.history.specs.History.{tx_events}
use Rattle.row_router.specs.Histories.{children}
use Rattle.part_catalog.specs.declared.stored.StoredTable.{StoredTable}
use Rattle.part_catalog.specs.declared.stored.StoredEntry.{StoredEntry}
use Rattle.part_catalog.specs.Full.{partitions}
use Rattle.part_catalog.specs.Kept.{KeptCatalogue, number_of, stored_at, by_place}
use Rattle.part_catalog.specs.Stands.{present_by}
use Rattle.part_catalog.proofs.Adding.{few_partitions, partitions_told}
use Rattle.part_catalog.proofs.Partitions.{known_numbers}
use Rattle.part_catalog.proofs.catalog.Catalog.is_full.Goals as goal

pub returns-then-numbers-lt-PARTITION_LIMIT : goal.returns-then-numbers-lt-PARTITION_LIMIT
returns-then-numbers-lt-PARTITION_LIMIT c h txs st =
    let kept = c.args.self.now in
    let t = c.args.table.number in
    let N = c.numbers-numbers.result.now in
    let tables = ap (λ (k : KeptCatalogue). k.tables) c.self.view_is in
    let entries = ap (λ (k : KeptCatalogue). k.entries) c.self.view_is in
    let known : t < length c.self.inside.tables.items = omega (arith, c.requires, ap (length {A = StoredTable}) tables) in
    let within : t < length c.self.inside.below.items = omega (arith, known, c.self.invariant.0.listed.count) in
    let list : c.index.result.now ≡ get_or c.self.inside.below.items t [] = grind (arith, common_steps, elements, c.index.ensures) in
    let numbers : N ≡ map number_of (children (by_place kept.entries) t) = c.numbers-numbers.ensures ∙ list ∙ c.self.invariant.0.listed.below t known ∙ ap (λ (es : List StoredEntry). map number_of (children (by_place es) t)) entries in
    few_partitions kept h c.args.session t N txs.sound st numbers (omega (arith, c.if-numbers-lt-PARTITION_LIMIT.true))

pub count_present-requires : goal.count_present-requires
count_present-requires c =
    let E = c.self.inside.entries.items in
    let t = c.args.table.number in
    let tables = ap (λ (k : KeptCatalogue). k.tables) c.self.view_is in
    let known : t < length c.self.inside.tables.items = omega (arith, c.requires, ap (length {A = StoredTable}) tables) in
    let within : t < length c.self.inside.below.items = omega (arith, known, c.self.invariant.0.listed.count) in
    let list : c.index.result.now ≡ get_or c.self.inside.below.items t [] = grind (arith, common_steps, elements, c.index.ensures) in
    let numbers : c.numbers-numbers.result.now ≡ map number_of (children (by_place E) t) = c.numbers-numbers.ensures ∙ list ∙ c.self.invariant.0.listed.below t known in
    subst (λ (es : List StoredEntry). All (λ k. k < length es) c.numbers-numbers.result.now) (sym c.deref.ensures.value) (known_numbers E c.numbers-numbers.result.now t numbers)

pub returns : goal.returns
returns c h txs st =
    let kept = c.args.self.now in
    let t = c.args.table.number in
    let N = c.numbers-numbers.result.now in
    let tables = ap (λ (k : KeptCatalogue). k.tables) c.self.view_is in
    let entries = ap (λ (k : KeptCatalogue). k.entries) c.self.view_is in
    let known : t < length c.self.inside.tables.items = omega (arith, c.requires, ap (length {A = StoredTable}) tables) in
    let within : t < length c.self.inside.below.items = omega (arith, known, c.self.invariant.0.listed.count) in
    let list : c.index.result.now ≡ get_or c.self.inside.below.items t [] = grind (arith, common_steps, elements, c.index.ensures) in
    let numbers : N ≡ map number_of (children (by_place kept.entries) t) = c.numbers-numbers.ensures ∙ list ∙ c.self.invariant.0.listed.below t known ∙ ap (λ (es : List StoredEntry). map number_of (children (by_place es) t)) entries in
    let count : c.count_present.result ≡ partitions h c.args.session t =
    c.count_present.ensures h txs
    ∙ ap (λ (es : List StoredEntry). length (filter (present_by (tx_events h) c.args.session) (map (stored_at es) N))) (c.deref.ensures.value ∙ entries)
    ∙ partitions_told kept h c.args.session t N txs.sound st numbers in
    grind (arith, nat_tests, count)
