use Rattle.std.proofs.Common.{List, subst}
use Rattle.spec_reader.specs.Faults.{first_told, use_limit}
use Rattle.spec_reader.specs.Finds.{Finds}
use Rattle.spec_reader.specs.declared.written.WrittenUse.{WrittenUse}
use Rattle.spec_reader.proofs.Firsts.{finds_after}
use Rattle.spec_reader.proofs.limit_checks.PermutationLimitCheck.check.Goals as goal

pub returns : goal.returns
returns c =
    finds_after c.check_all.result _ (first_told use_limit c.args.item.now) c.in_ok-past.ensures
    (subst (λ (z : List WrittenUse). Finds c.check_all.result (first_told use_limit z)) c.as_slice.ensures c.check_all.ensures)
