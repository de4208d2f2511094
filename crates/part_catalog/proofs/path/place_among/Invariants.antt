use Rattle.std.proofs.Common.{◌≡◌, ◌+◌, ◌≤◌, filter, drop}
use Rattle.std.specs.List.{position_or_len}
use Rattle.part_catalog.specs.Stands.{is_number, flagged_number}
use Rattle.part_catalog.proofs.path.place_among.Given as goal

abbrev pub invariant-loop-n : goal.invariant-loop-n
invariant-loop-n l = record {
  few : l.at ≤ l.n-index;
  told : l.at + position_or_len (is_number l.number) (filter (flagged_number l.flags) (drop l.n-index l.numbers)) ≡ position_or_len (is_number l.number) (filter (flagged_number l.flags) l.numbers);
}
