use Rattle.std.proofs.Common.{◌≡◌, ◌+◌, ◌∷◌, List, drop, get_or, subst}
use Rattle.std.proofs.lemmas.List.{drop_more}
use Rattle.pg_values.specs.declared.ids.TableNo.{TableNo}
use Rattle.history.specs.declared.catalogue.Stamp.{Stamp}
use Rattle.part_ddl.specs.Dropped.{MayDropAll}
use Rattle.part_ddl.proofs.Going.{Dropping, first_there, rest_droppable, dropping_next}
use Rattle.part_ddl.proofs.dropped.end_tables.Goals as goal

pub end_table-requires-clause-standing : goal.end_table-requires-clause-standing
end_table-requires-clause-standing c h txs st =
    let T = c.args.tables.now in
    let i = c.loop-table.table-index in
    let x : TableNo = get_or T i (record { number = 0 }) in
    let more : drop i T ≡ x ∷ drop (i + 1) T = drop_more T i (record { number = 0 }) c.loop-table-test.true in
    let may : MayDropAll c.args.txs.now c.loop-table.catalog (x ∷ drop (i + 1) T) = subst (MayDropAll c.args.txs.now c.loop-table.catalog) more c.loop-table.invariant.may in
    first_there c.args.txs.now c.loop-table.catalog x (drop (i + 1) T) h may txs st

pub loop-table-preserved : goal.loop-table-preserved
loop-table-preserved c =
    let T = c.args.tables.now in
    let i = c.loop-table.table-index in
    let x : TableNo = get_or T i (record { number = 0 }) in
    let s : Stamp = record { by = c.args.by; cmd = c.args.cmd } in
    let more : drop i T ≡ x ∷ drop (i + 1) T = drop_more T i (record { number = 0 }) c.loop-table-test.true in
    let may : MayDropAll c.args.txs.now c.loop-table.catalog (x ∷ drop (i + 1) T) = subst (MayDropAll c.args.txs.now c.loop-table.catalog) more c.loop-table.invariant.may in
    record {
      may = rest_droppable c.args.txs.now c.loop-table.catalog c.end_table.new.self s x (drop (i + 1) T) (λ h txs st. c.end_table.ensures.added h txs st) may;
      dropping = λ h txs st.
          let before = subst (λ (rest : List TableNo). Dropping c.args.txs.now c.loop-table.catalog s h rest T) more (c.loop-table.invariant.dropping h txs st) in
          dropping_next c.args.txs.now c.loop-table.catalog c.end_table.new.self s h x (drop (i + 1) T) T (λ g a b. c.end_table.ensures.added g a b) before;
    }
