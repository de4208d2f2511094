use Rattle.std.proofs.Common.{◌≡◌, ◌≤◌, ◌+◌, ◌-◌, drop, length}
use Rattle.std.specs.List.{prefix_len}
use Rattle.spec_reader.specs.Bytes.{goes_on}
use Rattle.spec_reader.proofs.bytes.run_len.Given as goal

abbrev pub invariant-loop-n : goal.invariant-loop-n
invariant-loop-n l = record {
  within : l.n ≤ length l.text;
  same : l.n + prefix_len (goes_on l.run) (drop l.n l.text) ≡ prefix_len (goes_on l.run) l.text;
}

abbrev pub decreases-loop-n : goal.decreases-loop-n
decreases-loop-n l = length l.text - l.n
