use Rattle.std.proofs.Common.{◌≡◌, ◌+◌, ◌∷◌, [], List, drop, get_or, refl, subst}
use Rattle.std.proofs.lemmas.List.{drop_more, drop_all}
use Rattle.pg_values.specs.declared.ids.TableNo.{TableNo}
use Rattle.history.specs.declared.catalogue.Stamp.{Stamp}
use Rattle.history.specs.History.{tx_events}
use Rattle.history.specs.Transactions.{session_of}
use Rattle.part_ddl.specs.Dropped.{MayEndAll}
use Rattle.part_ddl.proofs.Going.{Ending, first_may, rest_may, ending_next, ending_last}
use Rattle.part_ddl.proofs.dropped.end_places.Goals as goal

pub end_place-requires : goal.end_place-requires
end_place-requires c =
    let T = c.args.tables.now in
    let i = c.loop-table.table-index in
    let x : TableNo = get_or T i (record { number = 0 }) in
    let more : drop i T ≡ x ∷ drop (i + 1) T = drop_more T i (record { number = 0 }) c.loop-table-test.true in
    let may : MayEndAll c.args.txs.now c.loop-table.catalog c.args.by (x ∷ drop (i + 1) T) = subst (MayEndAll c.args.txs.now c.loop-table.catalog c.args.by) more c.loop-table.invariant.may in
    first_may c.args.txs.now c.loop-table.catalog c.args.by x (drop (i + 1) T) may

pub loop-table-preserved : goal.loop-table-preserved
loop-table-preserved c =
    let T = c.args.tables.now in
    let i = c.loop-table.table-index in
    let x : TableNo = get_or T i (record { number = 0 }) in
    let s : Stamp = record { by = c.args.by; cmd = c.args.cmd } in
    let more : drop i T ≡ x ∷ drop (i + 1) T = drop_more T i (record { number = 0 }) c.loop-table-test.true in
    let may : MayEndAll c.args.txs.now c.loop-table.catalog c.args.by (x ∷ drop (i + 1) T) = subst (MayEndAll c.args.txs.now c.loop-table.catalog c.args.by) more c.loop-table.invariant.may in
    record {
      may = rest_may c.args.txs.now c.loop-table.catalog c.end_place.new.catalog c.args.by s x (drop (i + 1) T) refl c.requires.runs (λ h txs st. c.end_place.ensures h txs st) may;
      ending = λ h txs st.
          let before = subst (λ (rest : List TableNo). Ending c.args.txs.now c.loop-table.catalog (session_of (tx_events h) c.args.by.number) s h rest T) more (c.loop-table.invariant.ending h txs st) in
          ending_next c.args.txs.now c.loop-table.catalog c.end_place.new.catalog c.args.by s h x (drop (i + 1) T) T (λ g a b. c.end_place.ensures g a b) before;
    }

pub returns : goal.returns
returns c h txs st =
    let T = c.args.tables.now in
    let s : Stamp = record { by = c.args.by; cmd = c.args.cmd } in
    let none : drop c.loop-table.table-index T ≡ [] = drop_all c.loop-table.table-index T c.loop-table-test.false in
    let last = subst (λ (rest : List TableNo). Ending c.args.txs.now c.loop-table.catalog (session_of (tx_events h) c.args.by.number) s h rest T) none (c.loop-table.invariant.ending h txs st) in
    ending_last c.args.txs.now c.loop-table.catalog (session_of (tx_events h) c.args.by.number) s h T last
