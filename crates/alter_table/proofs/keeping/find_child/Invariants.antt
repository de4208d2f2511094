use Rattle.std.proofs.Common.{◌≡◌, drop, map}
use Rattle.std.specs.List.{find}
use Rattle.row_router.specs.Histories.{is_over}
use Rattle.alter_table.proofs.keeping.find_child.Given as goal

abbrev pub invariant-loop-entry : goal.invariant-loop-entry
invariant-loop-entry l = find (is_over l.table.number) (map (λ e. e.now) (drop l.entry-index l.entries)) ≡ find (is_over l.fn.table.number) (map (λ e. e.now) l.fn.entries)
