use Rattle.std.proofs.Common.{◌≡◌, ℕ, ◌==◌, ◌&&◌, not, nat_lt}
use Rattle.pg_values.specs.Sets.{has}
use Rattle.row_store.specs.Judged.{is_held_shown}
use Rattle.row_store.proofs.judge.others_shown.Given as goal

-- of the sessions so far those that the version is shown to
abbrev pub invariant-loop-r : goal.invariant-loop-r
invariant-loop-r l = (k : ℕ) → has l.others k ≡ (nat_lt k l.r && (not (k == l.session) && is_held_shown l.txs k l.stored))
