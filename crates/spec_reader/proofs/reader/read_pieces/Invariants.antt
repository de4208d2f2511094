use Rattle.std.proofs.Common.{◌≡◌, ◌≤◌, ◌++◌, ◌-◌, drop, length}
use Rattle.spec_reader.specs.Tokens.{tokens_from}
use Rattle.spec_reader.proofs.reader.read_pieces.Given as goal

abbrev pub invariant-loop-at : goal.invariant-loop-at
invariant-loop-at l = record {
  within : l.at ≤ length l.text;
  same : l.list.items ++ tokens_from 0 l.at (drop l.at l.text) ≡ tokens_from 0 0 l.text;
}

abbrev pub decreases-loop-at : goal.decreases-loop-at
decreases-loop-at l = length l.text - l.at
