use Rattle.std.proofs.Common.{◌≡◌, take, drop}
use Rattle.spec_reader.specs.Faults.{double_name, first_behind, first_told, steps_of}
use Rattle.spec_reader.proofs.names.step_names.Given as goal

abbrev pub invariant-loop-i : goal.invariant-loop-i
invariant-loop-i l = record {
  noted : l.names ≡ steps_of (take l.i l.sessions);
  told : first_behind double_name (take l.i l.sessions) (drop l.i l.sessions) ≡ first_told double_name l.fn.sessions;
}
