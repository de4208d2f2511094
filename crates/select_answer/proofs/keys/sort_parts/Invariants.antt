use Rattle.std.proofs.Common.{◌≡◌, ◌≤◌, length, take, true}
use Rattle.std.specs.List.Sorted.{IsSortedBy, IsStableBy}
use Rattle.select_answer.specs.Keys.{row_less}
use Rattle.select_answer.proofs.keys.sort_parts.Given as goal

-- rows that tie stay in order, and those of the parts so far stand in order where it says so
abbrev pub invariant-loop-place : goal.invariant-loop-place
invariant-loop-place l = record {
  within : l.start ≤ length l.rows;
  sorted : l.in_order ≡ true → IsSortedBy (row_less l.order) (take l.start l.rows);
  stable : IsStableBy (row_less l.order) l.fn.rows l.rows;
}
