use Rattle.std.proofs.Common.{◌≡◌, ◌≤◌, ℕ, drop, min}
use Rattle.value_rules.specs.Reads.{number_from}
use Rattle.value_rules.proofs.reading.digits.Given as goal

-- the digits so far make some number, of which at most the limit is kept
abbrev pub invariant-loop-byte : goal.invariant-loop-byte
invariant-loop-byte l = record {
  kept : (n : ℕ) × (l.number ≡ min n 9223372036854775809) × (number_from n (drop l.byte-index l.text) ≡ number_from 0 l.text);
  within : l.number ≤ 9223372036854775809;
}
