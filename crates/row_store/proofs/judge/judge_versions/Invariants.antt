use Rattle.std.proofs.Common.{◌≡◌, ℕ, None, map, take}
use Rattle.pg_values.specs.Sets.{has}
use Rattle.row_store.specs.Kept.{stored_at}
use Rattle.row_store.specs.Judged.{refusing_by, seeing_by}
use Rattle.row_store.proofs.judge.judge_versions.Given as goal

-- none so far refuses, and those who see one are in the set
abbrev pub invariant-loop-id : goal.invariant-loop-id
invariant-loop-id g l = record {
  refusing : refusing_by l.txs l.session l.me.number (g.T.RowTest.broken l.test) (map (stored_at l.versions) (take l.id-index l.ids)) ≡ None;
  seen : (r : ℕ) → has l.seen r ≡ seeing_by l.txs l.session (g.T.RowTest.broken l.test) (map (stored_at l.versions) (take l.id-index l.ids)) r;
}
