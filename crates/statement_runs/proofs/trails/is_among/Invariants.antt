use Rattle.std.proofs.Common.{◌≡◌, drop}
use Rattle.std.specs.List.{list_any}
use Rattle.statement_runs.specs.Trails.{is_among, is_leaf}
use Rattle.statement_runs.proofs.trails.is_among.Given as goal

abbrev pub invariant-loop-other : goal.invariant-loop-other
invariant-loop-other l = list_any (is_leaf l.leaf) (drop l.other-index l.leaves) ≡ is_among l.leaves l.leaf
