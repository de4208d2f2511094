use Rattle.std.proofs.Common.{◌≡◌, rules}
use Rattle.script_program.specs.Tasks.{permutations_of}
use Rattle.script_program.proofs.whole.count_script.Goals as goal

pub returns : goal.returns
returns g c =
    let is : c.deref.result.now ≡ permutations_of c.args.script.now = search rules in
    rw is at c.count.ensures
