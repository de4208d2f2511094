use Rattle.std.proofs.Common.{◌≡◌, ◌≤◌}
use Rattle.std.specs.Prelude.{Some}
use Rattle.cond_logic.specs.Trees.{cond_tree}
use Rattle.prune_steps.specs.Asking.{asked_by, known_in, given_values}
use Rattle.prune_steps.specs.Atoms.{given, values_before}
use Rattle.prune_steps.proofs.known.gives_first.Given as goal

-- the values of the columns so far
abbrev pub invariant-loop-i : goal.invariant-loop-i
invariant-loop-i l = record {
  told : values_before (given (asked_by l.asking) l.nulls (known_in l.asking (cond_tree l.root))) l.i ≡ Some (given_values (given (asked_by l.asking) l.nulls (known_in l.asking (cond_tree l.root))) l.i);
  most : l.i ≤ l.n;
}
