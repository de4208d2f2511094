use Rattle.std.proofs.Common.{◌≡◌, ◌++◌, ◌-◌, map}
use Rattle.history.specs.History.{History}
use Rattle.history.specs.Presence.{entries_present}
use Rattle.tx_table.specs.Stands.{TableStands}
use Rattle.row_router.specs.Histories.{above, upwards, path_of}
use Rattle.part_catalog.specs.Answers.{number_told, without_place}
use Rattle.part_catalog.specs.Stands.{CatalogueStands}
use Rattle.part_catalog.proofs.Upwards.{checked_part}
use Rattle.part_catalog.proofs.catalog.Catalog.check_path.Given as goal

abbrev pub invariant-loop-step : goal.invariant-loop-step
invariant-loop-step l = (h : History) → TableStands l.txs h → CatalogueStands l.self h →
    l.parts.items ++ upwards (8 - l.step) (checked_part h l.session) (above (entries_present h l.session)) (number_told l.next)
    ≡ map without_place (path_of h l.session l.fn.table.number)
