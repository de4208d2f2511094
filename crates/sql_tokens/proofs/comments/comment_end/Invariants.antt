use Rattle.std.proofs.Common.{◌≡◌, ◌+◌, ◌≤◌, length, false}
use Rattle.sql_tokens.specs.Comments.{comment_end}
use Rattle.sql_tokens.proofs.comments.comment_end.Given as goal

abbrev pub invariant-loop-z : goal.invariant-loop-z
invariant-loop-z l = (comment_end l.depth l.is_second l.at l.z ≡ comment_end 0 false 2 l.initial.z) × (l.at + length l.z ≡ length l.initial.z + 2) × (l.depth + 2 ≤ l.at)

abbrev pub decreases-loop-z : goal.decreases-loop-z
decreases-loop-z l = length l.z
