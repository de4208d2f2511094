use Rattle.std.proofs.Common.{List, subst}
use Rattle.spec_reader.specs.Faults.{first_told, unknown_step}
use Rattle.spec_reader.specs.Finds.{Finds}
use Rattle.spec_reader.specs.declared.written.WrittenUse.{WrittenUse}
use Rattle.spec_reader.proofs.use_checks.KnownStepsCheck.check.Goals as goal

pub returns : goal.returns
returns c = subst (λ (z : List WrittenUse). Finds c.check_all.result (first_told (unknown_step c.args.self.now.names.now) z)) c.as_slice.ensures c.check_all.ensures
