use Rattle.std.proofs.Common.{true, sym, ap, ◌∙◌}
use Rattle.std.specs.Prelude.{Some}
use Rattle.cond_logic.specs.Trees.{cond_tree}
use Rattle.cond_logic.specs.Tuples.{lent}
use Rattle.prune_steps.specs.Asking.{asked_by, known_in}
use Rattle.prune_steps.specs.Atoms.{given}
use Rattle.prune_steps.proofs.KnownTrees.{key_value, key_null}
use Rattle.prune_steps.proofs.given_key.GivenKeyKey.value.Goals as goal

pub returns-in-Some : goal.returns-in-Some
returns-in-Some c =
    let k = c.args.self.now in
    key_value (given (asked_by k.asking.now) true (known_in k.asking.now (cond_tree k.root.now))) k.first c.args.i c.in-Some.value.now c.requires (sym c.known_given.ensures ∙ ap lent c.in-Some.is)

pub returns-in-None : goal.returns-in-None
returns-in-None c =
    let k = c.args.self.now in
    key_null (given (asked_by k.asking.now) true (known_in k.asking.now (cond_tree k.root.now))) k.first c.args.i c.requires (sym c.known_given.ensures ∙ ap lent c.in-None.is) ∙ ap (λ v. Some v) (sym k.asking.now.is_null)
