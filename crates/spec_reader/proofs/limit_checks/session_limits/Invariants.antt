use Rattle.std.proofs.Common.{◌≡◌, ◌≤◌, take, drop}
use Rattle.spec_reader.specs.Faults.{first_behind, first_told, session_limit, steps_in}
use Rattle.spec_reader.proofs.limit_checks.session_limits.Given as goal

abbrev pub invariant-loop-i : goal.invariant-loop-i
invariant-loop-i l = record {
  counted : l.steps ≡ steps_in (take l.i l.sessions);
  few : l.steps ≤ 4096;
  told : first_behind session_limit (take l.i l.sessions) (drop l.i l.sessions) ≡ first_told session_limit l.fn.sessions;
}
