use Rattle.std.proofs.Common.{◌≡◌, ℕ, None, take}
use Rattle.pg_values.specs.Sets.{has}
use Rattle.row_store.specs.Judged.{all_listed_in, refusing_by, seeing_by}
use Rattle.row_store.proofs.judge.judge_leaves.Given as goal

-- no row of the leaves so far refuses, and those who see one are in the set
abbrev pub invariant-loop-leaf : goal.invariant-loop-leaf
invariant-loop-leaf g l = record {
  refusing : refusing_by l.txs l.session l.me.number (g.T.RowTest.broken l.test) (all_listed_in l.versions l.lists (take l.leaf-index l.leaves)) ≡ None;
  seen : (r : ℕ) → has l.others r ≡ seeing_by l.txs l.session (g.T.RowTest.broken l.test) (all_listed_in l.versions l.lists (take l.leaf-index l.leaves)) r;
}
