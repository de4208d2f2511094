use Rattle.std.proofs.Common.{◌≡◌, ℕ, ◌<◌, None, false, slice_index_or}
use Rattle.row_store.specs.Judged.{shows_if_held}
use Rattle.row_store.proofs.dead.is_any_shown.Given as goal

-- no session so far holds a snapshot that shows the version
abbrev pub invariant-loop-r : goal.invariant-loop-r
invariant-loop-r l = (k : ℕ) → k < l.r → shows_if_held l.txs (slice_index_or l.txs.held k None) (record { version = l.stored.version; ended = l.ended }) ≡ false
