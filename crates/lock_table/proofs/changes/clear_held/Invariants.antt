use Rattle.std.proofs.Common.{◌≡◌, length}
use Rattle.std.specs.Prelude.{vec_capacity}
use Rattle.lock_table.proofs.Taken.{HasLeft}
use Rattle.lock_table.proofs.changes.clear_held.Given as goal

-- the session has left the sets of the places so far
abbrev pub invariant-loop-place : goal.invariant-loop-place
invariant-loop-place l = record {
  len : length l.held.items ≡ length l.fn.held.items;
  room : vec_capacity l.held ≡ vec_capacity l.fn.held;
  left : HasLeft l.fn.held.items l.held.items l.place-items l.place-index l.session;
}
