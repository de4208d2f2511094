use Rattle.spec_reader.specs.Faults.{first_told, unknown_steps, unknown_uses}
use Rattle.spec_reader.proofs.Firsts.{finds_after}
use Rattle.spec_reader.proofs.use_checks.permutation_checks.Goals as goal

pub returns : goal.returns
returns c =
    finds_after c.known_uses.result _ _ c.in_ok-some_permutation.ensures
    (finds_after c.known_uses.result (first_told (unknown_steps c.args.names.now) c.args.permutations.now) (first_told (unknown_uses c.args.names.now) c.args.permutations.now) c.in_ok-known_steps.ensures c.known_uses.ensures)
