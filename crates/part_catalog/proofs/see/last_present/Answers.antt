use Rattle.std.proofs.Common.{◌≡◌, ◌∙◌, ◌<◌, ◌≤◌, ◌-◌, arith, sym, length, get_or}
use Rattle.std.proofs.lemmas.Grind.{common_steps, elements}
use Rattle.history.specs.History.{tx_events}
use Rattle.part_catalog.specs.declared.stored.StoredEntry.{StoredEntry}
use Rattle.part_catalog.specs.Kept.{stored_at}
use Rattle.part_catalog.specs.Stands.{present_by}
use Rattle.part_catalog.proofs.Partitions.{last_found}
use Rattle.part_catalog.proofs.see.last_present.Goals as goal

pub returns-then-is_present : goal.returns-then-is_present
returns-then-is_present c = λ h txs.
    let E = c.args.entries.now in
    let N = c.args.numbers.now in
    let i = c.loop-i.i in
    let x : StoredEntry = c.index-entries-numbers.result in
    let some : 0 < i = c.loop-i-test.true in
    let within : i ≤ length N = c.loop-i.auto.i in
    let known : get_or N (i - 1) 0 < length E = c.requires (i - 1) 0 (omega (arith, some, within)) in
    let is : x ≡ stored_at E (get_or N (i - 1) 0) = grind (arith, common_steps, elements, known) in
    last_found (present_by (tx_events h) c.args.session) E N i x some within is (sym (c.is_present.ensures h txs) ∙ c.if-is_present.true) (c.loop-i.invariant h txs)
