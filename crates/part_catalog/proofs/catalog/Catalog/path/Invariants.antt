use Rattle.std.proofs.Common.{◌≡◌, ◌++◌, ◌-◌, ◌<◌, IfSome, length}
use Rattle.history.specs.Catalogue.{tables_made}
use Rattle.history.specs.History.{History, catalogue_events}
use Rattle.history.specs.Presence.{entries_present, checks_of}
use Rattle.tx_table.specs.Stands.{TableStands}
use Rattle.row_router.specs.Histories.{above, part_of, upwards, path_of}
use Rattle.part_catalog.specs.Answers.{number_told}
use Rattle.part_catalog.specs.Stands.{CatalogueStands}
use Rattle.part_catalog.proofs.catalog.Catalog.path.Given as goal

abbrev pub invariant-loop-step : goal.invariant-loop-step
invariant-loop-step l = record {
  known : IfSome l.next (λ t. t.number < length l.self.tables);
  told : (h : History) → TableStands l.txs h → CatalogueStands l.self h →
      l.parts.items ++ upwards (8 - l.step) (part_of (tables_made (catalogue_events h)) (entries_present h l.session) (checks_of h l.session)) (above (entries_present h l.session)) (number_told l.next)
      ≡ path_of h l.session l.fn.table.number;
}
