use Rattle.std.proofs.Common.{◌≡◌, ◌*◌, ◌≤◌, take}
use Rattle.script_program.specs.Checks.{step_count}
use Rattle.script_program.proofs.check.step_count.Given as goal

-- the steps of the sessions so far
abbrev pub invariant-loop-session : goal.invariant-loop-session
invariant-loop-session l = record {
  sum : l.count ≡ step_count (take l.session-index l.sessions);
  small : l.count ≤ l.session-index * 18446744073709551615;
}
