use Rattle.std.proofs.Common.{◌≡◌, ◌≤◌, ◌&&◌, arith}
use Rattle.pg_values.specs.Sets.{nobody}
use Rattle.lock_table.specs.Graph.{edge}
use Rattle.lock_table.proofs.Chains.{all_rows, row_more}
use Rattle.lock_table.proofs.cycle.behind.Goals as goal

pub loop-x-preserved : goal.loop-x-preserved
loop-x-preserved c p same z = row_more c.loop-x.x z _ _ (λ x. nobody (λ y. edge c.args.rows.now x y && p y)) (c.loop-x.invariant p same z) (c.joined-found.ensures p same z)

pub returns : goal.returns
returns c p same x = all_rows c.args.rows.now x c.loop-x.x _ p (omega arith) (c.loop-x.invariant p same x)
