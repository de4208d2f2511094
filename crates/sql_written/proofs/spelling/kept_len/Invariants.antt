use Rattle.std.proofs.Common.{◌≡◌, ◌+◌, ◌-◌, ◌≤◌, length, drop}
use Rattle.std.specs.List.{prefix_len}
use Rattle.sql_written.specs.Spelling.{is_kept}
use Rattle.sql_written.proofs.spelling.kept_len.Given as goal

abbrev pub invariant-loop-end : goal.invariant-loop-end
invariant-loop-end l = (l.end + prefix_len is_kept (drop l.end l.name) ≡ prefix_len is_kept l.name) × (l.end ≤ length l.name)

abbrev pub decreases-loop-end : goal.decreases-loop-end
decreases-loop-end l = length l.name - l.end
