use Rattle.std.proofs.Common.{sym, ap, ◌∙◌, arith}
use Rattle.cond_logic.specs.Trees.{cond_tree}
use Rattle.cond_logic.specs.Tuples.{lent}
use Rattle.prune_steps.specs.Asking.{asked_by, known_in}
use Rattle.prune_steps.specs.Atoms.{given}
use Rattle.prune_steps.proofs.KnownTrees.{first_more, first_none, first_all, some_there}
use Rattle.prune_steps.proofs.known.gives_first.Goals as goal

pub returns-in-None : goal.returns-in-None
returns-in-None c =
    let k = c.args.asking.now in
    first_none (given (asked_by k) c.args.nulls (known_in k (cond_tree c.args.root.now))) c.loop-i.i c.args.n (ap lent (sym c.in-None.is) ∙ c.known_given.ensures) c.loop-i-test.true

pub loop-i-preserved : goal.loop-i-preserved
loop-i-preserved c =
    let k = c.args.asking.now in
    let f = given (asked_by k) c.args.nulls (known_in k (cond_tree c.args.root.now)) in
    record {
      told = first_more f c.loop-i.i (some_there _ (f c.loop-i.i) (ap lent (sym c.in-Some.is) ∙ c.known_given.ensures)) c.loop-i.invariant.told;
      most = omega (arith, c.loop-i-test.true);
    }

pub returns : goal.returns
returns c =
    let k = c.args.asking.now in
    first_all (given (asked_by k) c.args.nulls (known_in k (cond_tree c.args.root.now))) c.loop-i.i c.args.n c.loop-i.invariant.most (omega (arith, c.loop-i-test.false)) c.loop-i.invariant.told
