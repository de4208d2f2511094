use Rattle.std.proofs.Common.{List, subst}
use Rattle.spec_reader.specs.Faults.{first_told, unknown_marker}
use Rattle.spec_reader.specs.Finds.{Finds}
use Rattle.spec_reader.specs.declared.written.WrittenMarker.{WrittenMarker}
use Rattle.spec_reader.proofs.use_checks.KnownMarkersCheck.check.Goals as goal

pub returns : goal.returns
returns c = subst (λ (z : List WrittenMarker). Finds c.check_all.result (first_told (unknown_marker c.args.self.now.names.now c.args.item.now.step) z)) c.as_slice.ensures c.check_all.ensures
