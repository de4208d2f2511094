use Rattle.std.proofs.Common.{false, sym, ap, ◌∙◌}
use Rattle.std.specs.Prelude.{Some}
use Rattle.cond_logic.specs.Trees.{cond_tree}
use Rattle.cond_logic.specs.Tuples.{lent}
use Rattle.prune_steps.specs.Asking.{asked_by, known_in}
use Rattle.prune_steps.specs.Atoms.{given}
use Rattle.prune_steps.proofs.KnownTrees.{chain_last, chain_front, chain_null}
use Rattle.prune_steps.proofs.given_key.ChainKeyKey.value.Goals as goal

pub returns-then-i-self : goal.returns-then-i-self
returns-then-i-self c =
    let k = c.args.self.now in
    chain_last (given (asked_by k.asking.now) false (known_in k.asking.now (cond_tree k.root.now))) k.first c.args.i k.last.now c.requires c.if-i-self.true

pub returns-in-Some : goal.returns-in-Some
returns-in-Some c =
    let k = c.args.self.now in
    chain_front (given (asked_by k.asking.now) false (known_in k.asking.now (cond_tree k.root.now))) k.first c.args.i k.last.now c.in-Some.value.now c.if-i-self.false (sym c.known_given.ensures ∙ ap lent c.in-Some.is)

pub returns-in-None : goal.returns-in-None
returns-in-None c =
    let k = c.args.self.now in
    chain_null (given (asked_by k.asking.now) false (known_in k.asking.now (cond_tree k.root.now))) k.first c.args.i k.last.now c.if-i-self.false (sym c.known_given.ensures ∙ ap lent c.in-None.is)
    ∙ ap (λ v. Some v) (sym k.asking.now.is_null)
