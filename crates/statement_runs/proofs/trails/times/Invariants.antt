use Rattle.std.proofs.Common.{◌≡◌, ◌+◌, count_by, drop}
use Rattle.statement_runs.specs.Trails.{is_leaf, times}
use Rattle.statement_runs.proofs.trails.times.Given as goal

abbrev pub invariant-loop-other : goal.invariant-loop-other
invariant-loop-other l = l.count + count_by (is_leaf l.leaf) (drop l.other-index l.reads) ≡ times l.reads l.leaf
