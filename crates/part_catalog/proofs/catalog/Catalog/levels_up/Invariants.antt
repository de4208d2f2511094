use Rattle.std.proofs.Common.{◌≡◌, ◌+◌, ◌-◌, ◌≤◌}
use Rattle.history.specs.History.{History}
use Rattle.history.specs.Presence.{entries_present}
use Rattle.row_router.specs.Histories.{above}
use Rattle.tx_table.specs.Stands.{TableStands}
use Rattle.part_catalog.specs.Answers.{number_told}
use Rattle.part_catalog.specs.Full.{tables_up, tables_above}
use Rattle.part_catalog.specs.Stands.{CatalogueStands}
use Rattle.part_catalog.proofs.catalog.Catalog.levels_up.Given as goal

abbrev pub invariant-loop-step : goal.invariant-loop-step
invariant-loop-step l = record {
  few : l.count ≤ l.step;
  told : (h : History) → TableStands l.txs h → CatalogueStands l.self h → l.count + tables_up (8 - l.step) (above (entries_present h l.session)) (number_told l.next) ≡ tables_above (above (entries_present h l.session)) l.fn.table.number;
}
