use Rattle.std.proofs.Common.{◌≡◌, ℕ, ◌<◌, ◌≤◌, true, get_or, length}
use Rattle.part_catalog.specs.Ordered.{stands_behind}
use Rattle.part_catalog.proofs.room.place_in.Given as goal

-- all bounds so far, from behind, come after that of the entry
abbrev pub invariant-loop-i : goal.invariant-loop-i
invariant-loop-i l = (k d : ℕ) → l.i ≤ k → k < length l.numbers → stands_behind l.entries l.entry.bound (get_or l.numbers k d) ≡ true
