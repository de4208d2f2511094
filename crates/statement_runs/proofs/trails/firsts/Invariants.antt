use Rattle.std.proofs.Common.{◌≡◌, drop}
use Rattle.statement_runs.specs.Trails.{firsts, noted}
use Rattle.statement_runs.proofs.trails.firsts.Given as goal

abbrev pub invariant-loop-leaf : goal.invariant-loop-leaf
invariant-loop-leaf l = noted l.found.items (drop l.leaf-index l.reads) ≡ firsts l.reads
