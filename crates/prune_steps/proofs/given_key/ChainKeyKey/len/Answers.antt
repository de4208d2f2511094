use Rattle.std.proofs.Common.{false, sym}
use Rattle.cond_logic.specs.Trees.{cond_tree}
use Rattle.prune_steps.specs.Asking.{asked_by, known_in}
use Rattle.prune_steps.specs.Atoms.{given}
use Rattle.prune_steps.proofs.KnownTrees.{chain_long}
use Rattle.prune_steps.proofs.given_key.ChainKeyKey.len.Goals as goal

pub returns : goal.returns
returns c =
    let k = c.args.self.now in
    sym (chain_long (given (asked_by k.asking.now) false (known_in k.asking.now (cond_tree k.root.now))) k.first k.last.now)
