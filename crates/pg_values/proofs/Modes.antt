-- Modes, one by one.
use Rattle.std.proofs.Common.{◌≡◌, ℕ, ◌==◌, true, refl, sym, ap, ◌∙◌, arith, if◌then◌else◌}
use Rattle.std.proofs.lemmas.Bool.Decides.{nat_tests}
use Rattle.pg_values.specs.declared.lock_mode.LockMode.{LockMode}
use Rattle.pg_values.specs.declared.lock_mode.LockMode.TheVariants.{AccessShare, RowShare, RowExclusive, ShareUpdateExclusive, Share, ShareRowExclusive, Exclusive, AccessExclusive}
use Rattle.pg_values.specs.Modes.{rank, same_mode, conflicts}

each : (P : LockMode → Type 0) → P AccessShare → P RowShare → P RowExclusive → P ShareUpdateExclusive → P Share → P ShareRowExclusive → P Exclusive → P AccessExclusive → (m : LockMode) → P m
each P a b c d e f g h AccessShare = a
each P a b c d e f g h RowShare = b
each P a b c d e f g h RowExclusive = c
each P a b c d e f g h ShareUpdateExclusive = d
each P a b c d e f g h Share = e
each P a b c d e f g h ShareRowExclusive = f
each P a b c d e f g h Exclusive = g
each P a b c d e f g h AccessExclusive = h

pub both_ways : (a b : LockMode) → conflicts a b ≡ conflicts b a
both_ways AccessShare = each (λ b. conflicts AccessShare b ≡ conflicts b AccessShare) refl refl refl refl refl refl refl refl
both_ways RowShare = each (λ b. conflicts RowShare b ≡ conflicts b RowShare) refl refl refl refl refl refl refl refl
both_ways RowExclusive = each (λ b. conflicts RowExclusive b ≡ conflicts b RowExclusive) refl refl refl refl refl refl refl refl
both_ways ShareUpdateExclusive = each (λ b. conflicts ShareUpdateExclusive b ≡ conflicts b ShareUpdateExclusive) refl refl refl refl refl refl refl refl
both_ways Share = each (λ b. conflicts Share b ≡ conflicts b Share) refl refl refl refl refl refl refl refl
both_ways ShareRowExclusive = each (λ b. conflicts ShareRowExclusive b ≡ conflicts b ShareRowExclusive) refl refl refl refl refl refl refl refl
both_ways Exclusive = each (λ b. conflicts Exclusive b ≡ conflicts b Exclusive) refl refl refl refl refl refl refl refl
both_ways AccessExclusive = each (λ b. conflicts AccessExclusive b ≡ conflicts b AccessExclusive) refl refl refl refl refl refl refl refl

mode_of : ℕ → LockMode
mode_of n = if n == 0 then AccessShare else if n == 1 then RowShare else if n == 2 then RowExclusive else if n == 3 then ShareUpdateExclusive else if n == 4 then Share else if n == 5 then ShareRowExclusive else if n == 6 then Exclusive else AccessExclusive

of_rank : (m : LockMode) → mode_of (rank m) ≡ m
unfolding mode_of
of_rank = each (λ m. mode_of (rank m) ≡ m) refl refl refl refl refl refl refl refl

same_rank : (a b : ℕ) → (a == b) ≡ true → a ≡ b
same_rank a b t = grind (arith, nat_tests)

-- modes of one rank are the same
pub rank_tells : (a b : LockMode) → same_mode a b ≡ true → a ≡ b
rank_tells a b t = sym (of_rank a) ∙ ap mode_of (same_rank (rank a) (rank b) t) ∙ of_rank b
