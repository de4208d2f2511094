use Rattle.std.proofs.Common.{◌≡◌, ◌++◌}
use Rattle.cond_logic.specs.Asked.{maybe_cond}
use Rattle.change_statement.specs.Targets.{taken}
use Rattle.change_statement.proofs.finding.push_all_taken.Given as goal

-- the rows that are left give what all give
abbrev pub invariant-loop-seen : goal.invariant-loop-seen
invariant-loop-seen l = l.found.items ++ taken (maybe_cond l.condition) l.leaf l.seen-iterator ≡ l.fn.found.items ++ taken (maybe_cond l.condition) l.leaf l.fn.scan
