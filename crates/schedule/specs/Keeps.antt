-- A property of a database's states, and of who has the turn, that each call keeps as the run makes it.
use Rattle.std.specs.Prelude.{◌≡◌, ◌<◌, ℕ, List, Option, Some, None, false, true, ◌⊎◌}
use Rattle.schedule.specs.Rules.{Rules}
use Rattle.schedule.specs.declared.block.BlockKind.{BlockKind}
use Rattle.schedule.specs.declared.database.Progress.TheVariants.{Goes, Waits, Ended}

pub record Keeps {S : Type 0} (R : Rules S) (n : ℕ) (Q : S → Option ℕ → Type 0) : Type 0 where
  pub fresh : (v : S) → Q v None → Q (R.fresh v) None
  pub begun : (v : S) (s : ℕ) (kind : BlockKind) (text : List ℕ) → Q v None → s < n → R.waits v s ≡ false → Q (R.begun v s kind text) (Some s)
  pub goes : (v : S) (s : ℕ) → Q v (Some s) → R.progress v s ≡ Goes → Q (R.stepped v s) (Some s)
  pub waits : (v : S) (s : ℕ) → Q v (Some s) → R.progress v s ≡ Waits → Q (R.stepped v s) None
  pub ends : (v : S) (s : ℕ) → Q v (Some s) → R.progress v s ≡ Ended → Q (R.stepped v s) None
  pub resumed : (v : S) (s : ℕ) → Q v None → (R.interrupted v ≡ Some s) ⊎ (R.ready v ≡ Some s) → Q (R.resumed v s) (Some s)
  -- in a setup or a teardown
  pub paused : (v : S) (s : ℕ) → Q v (Some s) → R.progress v s ≡ Waits → Q (R.cancelled (R.stepped v s) s) (Some s)
  pub cancelled : (v : S) (s : ℕ) → Q v None → (R.waits v s ≡ true) ⊎ (R.oldest v ≡ Some s) → Q (R.cancelled v s) (Some s)
  pub rolled_back : (v : S) (s : ℕ) → Q v None → Q (R.rolled_back v s) None
