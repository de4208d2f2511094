use Rattle.std.proofs.Common.{◌≡◌, ◌≤◌, ◌-◌, take, length}
use Rattle.std.specs.List.{suffix_len}
use Rattle.spec_reader.specs.Bytes.{is_blank}
use Rattle.spec_reader.proofs.bytes.end_of_text.Given as goal

abbrev pub invariant-loop-n : goal.invariant-loop-n
invariant-loop-n l = record {
  within : l.n ≤ length l.text;
  same : l.n - suffix_len is_blank (take l.n l.text) ≡ length l.text - suffix_len is_blank l.text;
}

abbrev pub decreases-loop-n : goal.decreases-loop-n
decreases-loop-n l = l.n
