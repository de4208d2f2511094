-- The rank of the sessions with their executor: what is left of the blocks, and then the executor's.
use Rattle.std.specs.Prelude.{◌≡◌, ℕ, Bool, Option}
use Rattle.sessions.specs.Sessions.{State}
use Rattle.sessions.specs.Stands.{transactions, points_from}
use Rattle.run_ends.specs.Executors.{Ranking}

-- what can still happen to the statements of all blocks
abbrev pub points_of : {S T : Type 0} → (has_committed : S → ℕ → T → Bool) → State S T → ℕ
points_of has_committed v = points_from (has_committed v.executor) (λ t. t) 0 v.sessions

pub record IsRanked {S T : Type 0} (has_committed : S → ℕ → T → Bool) (q : Ranking S) (v : State S T) (turn : Option ℕ) (a b : ℕ) : Type 0 where
  pub blocks : points_of has_committed v ≡ a
  pub executor : q v.executor turn (transactions v.sessions) b
