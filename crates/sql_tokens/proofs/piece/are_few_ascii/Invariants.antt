use Rattle.std.proofs.Common.{ℕ, ◌<◌, slice_index}
use Rattle.sql_tokens.proofs.piece.are_few_ascii.Given as goal

-- so far each is ASCII
abbrev pub invariant-loop-b : goal.invariant-loop-b
invariant-loop-b l = (i : ℕ) → i < l.b-index → slice_index l.bytes i < 128
