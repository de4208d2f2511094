use Rattle.std.proofs.Common.{◌≡◌, List, None, subst, nat_lt}
use Rattle.pg_values.specs.declared.which.Which.TheVariants as which
use Rattle.spec_reader.specs.Faults.{first_told, permutation_limit, session_limit, setup_limit, told}
use Rattle.spec_reader.specs.Finds.{Finds}
use Rattle.spec_reader.specs.declared.fault.SpecFault.TheVariants.{Limit}
use Rattle.spec_reader.specs.declared.spec.SessionSpec.{SessionSpec}
use Rattle.spec_reader.specs.declared.written.WrittenUse.{WrittenUse}
use Rattle.spec_reader.proofs.Firsts.{finds_after}
use Rattle.spec_reader.proofs.limit_checks.limits.Goals as goal

pub returns : goal.returns
returns c =
    finds_after c.check_all.result (setup_limit c.args.spec.now.setups) _ (subst (λ n. told (nat_lt 64 n) (Limit which.SetupBlocks) ≡ None) c.len.ensures c.in_ok-past.ensures)
    (finds_after c.check_all.result (first_told session_limit c.args.spec.now.sessions) (first_told permutation_limit c.args.spec.now.permutations)
    (subst (λ (z : List SessionSpec). first_told session_limit z ≡ None) c.as_slice.ensures c.in_ok-session_limits.ensures)
    (subst (λ (z : List (List WrittenUse)). Finds c.check_all.result (first_told permutation_limit z)) c.as_slice-2.ensures c.check_all.ensures))
