use Rattle.std.proofs.Common.{◌≡◌, ◌++◌, length, map}
use Rattle.std.specs.Vec.Iter.{into_iter_items, into_iter_len}
use Rattle.plan_text.specs.Plans.{text_row}
use Rattle.plan_text.proofs.plan.text_rows.Given as goal

-- the rows so far, and those of the lines that are left
abbrev pub invariant-loop-line : goal.invariant-loop-line
invariant-loop-line l = record {
  count : into_iter_len l.line-iterator ≡ length (into_iter_items l.line-iterator);
  rows : l.rows ++ map text_row (into_iter_items l.line-iterator) ≡ map text_row l.fn.lines.items;
}
