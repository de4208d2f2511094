use Rattle.std.proofs.Common.{◌≡◌, ◌++◌, take, drop}
use Rattle.spec_reader.specs.Faults.{double_step, first_behind, first_told, numbered}
use Rattle.spec_reader.proofs.names.add_steps.Given as goal

abbrev pub invariant-loop-i : goal.invariant-loop-i
invariant-loop-i l = record {
  noted : l.names ≡ l.fn.names ++ numbered l.session (take l.i l.steps);
  told : first_behind (double_step l.fn.names l.session) (take l.i l.steps) (drop l.i l.steps) ≡ first_told (double_step l.fn.names l.fn.session) l.fn.steps;
}
