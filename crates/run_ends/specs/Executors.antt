-- A rank of an executor's states, one number. A statement that goes on or waits, and a wait that ends, lower it; what begins or
-- ends a transaction, or ends a statement, may leave any.
use Rattle.std.specs.Prelude.{◌≡◌, ◌<◌, ◌≤◌, ℕ, Bool, List, Option, Some, None, false, true, ◌⊎◌, map, slice_index_or, slice_set}
use Rattle.pg_values.specs.declared.fault.Fault.{Fault}
use Rattle.sessions.specs.Commits.{CommitsOnce, AreAsBefore, OthersAreAsBefore}
use Rattle.sessions.specs.Course.{Course}
use Rattle.sessions.specs.declared.asker.Asker.{Asker}
use Rattle.sessions.specs.declared.settings.Settings.{Settings}
use Rattle.sessions.specs.declared.outcome.Outcome.TheVariants.{Goes, Waits, Commits, Done, Refused}

-- `q v turn opened k`: the state has this rank where that session has the turn, and these have a transaction open
abbrev pub Ranking : Type 0 → Type 1
Ranking S = S → Option ℕ → List Bool → ℕ → Type 0

pub record HasRank {S : Type 0} (q : Ranking S) (v : S) (turn : Option ℕ) (opened : List Bool) : Type 0 where
  pub rank : ℕ
  pub ranked : q v turn opened rank

pub record HasLower {S : Type 0} (q : Ranking S) (v : S) (turn : Option ℕ) (opened : List Bool) (k : ℕ) : Type 0 where
  pub rank : ℕ
  pub ranked : q v turn opened rank
  pub below : rank < k

pub record HasNotHigher {S : Type 0} (q : Ranking S) (v : S) (turn : Option ℕ) (opened : List Bool) (k : ℕ) : Type 0 where
  pub rank : ℕ
  pub ranked : q v turn opened rank
  pub not_above : rank ≤ k

abbrev pub is_open : List Bool → ℕ → Bool
is_open opened s = slice_index_or opened s false

-- each call as the sessions make it, where there are n
pub record LowersIn {S T : Type 0} (C : Course S T) (n : ℕ) (q : Ranking S) : Type 0 where
  pub fresh : (v : S) (os : List Bool) (k : ℕ) → q v None os k → HasRank q (C.fresh v) None (map (λ o. false) os)
  -- a session takes the turn, and gives it up
  pub takes : (v : S) (os : List Bool) (k s : ℕ) → q v None os k → s < n → C.waits v s ≡ false → HasRank q v (Some s) os
  pub gives_up : (v : S) (os : List Bool) (k s : ℕ) → q v (Some s) os k → q v None os k
  -- transactions
  pub began : (v : S) (os : List Bool) (k s : ℕ) → q v (Some s) os k → is_open os s ≡ false → HasRank q (C.began v s) (Some s) (slice_set os s true)
  pub committed : (v : S) (os : List Bool) (k s : ℕ) → q v (Some s) os k → is_open os s ≡ true → HasRank q (C.committed v s) (Some s) (slice_set os s false)
  pub aborted : (v : S) (os : List Bool) (k s : ℕ) → q v (Some s) os k → is_open os s ≡ true → HasRank q (C.aborted v s) (Some s) (slice_set os s false)
  pub rolled_back : (v : S) (os : List Bool) (k s : ℕ) → q v None os k → s < n → is_open os s ≡ true → HasRank q (C.aborted v s) None (slice_set os s false)
  -- a statement
  pub goes : (v : S) (os : List Bool) (k : ℕ) (a : Asker) (g : Settings) (t : T) → q v (Some a.session) os k → is_open os a.session ≡ true → C.outcome v a g t ≡ Goes → HasLower q (C.ran v a g t) (Some a.session) os k
  pub waits : (v : S) (os : List Bool) (k : ℕ) (a : Asker) (g : Settings) (t : T) → q v (Some a.session) os k → is_open os a.session ≡ true → C.outcome v a g t ≡ Waits → HasNotHigher q (C.ran v a g t) None os k
  pub paused : (v : S) (os : List Bool) (k : ℕ) (a : Asker) (g : Settings) (t : T) → q v (Some a.session) os k → is_open os a.session ≡ true → C.outcome v a g t ≡ Waits → HasLower q (C.cancelled (C.ran v a g t) a.session) (Some a.session) os k
  pub commits : (v : S) (os : List Bool) (k : ℕ) (a : Asker) (g : Settings) (t : T) → q v (Some a.session) os k → is_open os a.session ≡ true → C.outcome v a g t ≡ Commits → HasRank q (C.ran v a g t) (Some a.session) os
  pub done : (v : S) (os : List Bool) (k : ℕ) (a : Asker) (g : Settings) (t : T) → q v (Some a.session) os k → is_open os a.session ≡ true → C.outcome v a g t ≡ Done → HasRank q (C.ran v a g t) (Some a.session) os
  pub refused : (v : S) (os : List Bool) (k : ℕ) (a : Asker) (g : Settings) (t : T) (f : Fault) → q v (Some a.session) os k → is_open os a.session ≡ true → C.outcome v a g t ≡ Refused f → HasRank q (C.ran v a g t) (Some a.session) os
  -- a wait ends
  pub resumed : (v : S) (os : List Bool) (k s : ℕ) → q v None os k → (C.interrupted v ≡ Some s) ⊎ (C.ready v ≡ Some s) → HasLower q (C.resumed v s) (Some s) os k
  pub cancelled : (v : S) (os : List Bool) (k s : ℕ) → q v None os k → (C.waits v s ≡ true) ⊎ (C.oldest v ≡ Some s) → HasLower q (C.cancelled v s) (Some s) os k

-- `has_committed v s t`: the statement t of the session s has committed what it did first. A statement does so once at most,
-- and nothing else changes what one has done
pub record CommitOnceIn {S T : Type 0} (C : Course S T) (has_committed : S → ℕ → T → Bool) (q : Ranking S) : Type 0 where
  pub began : (v : S) (s : ℕ) → AreAsBefore (has_committed v) (has_committed (C.began v s))
  pub committed : (v : S) (s : ℕ) → AreAsBefore (has_committed v) (has_committed (C.committed v s))
  pub aborted : (v : S) (s : ℕ) → AreAsBefore (has_committed v) (has_committed (C.aborted v s))
  pub resumed : (v : S) (s : ℕ) → AreAsBefore (has_committed v) (has_committed (C.resumed v s))
  pub cancelled : (v : S) (s : ℕ) → AreAsBefore (has_committed v) (has_committed (C.cancelled v s))
  pub once : (v : S) (os : List Bool) (k : ℕ) (a : Asker) (g : Settings) (t : T) → q v (Some a.session) os k → CommitsOnce (has_committed v a.session t) (has_committed (C.ran v a g t) a.session t) (C.outcome v a g t)
  pub others : (v : S) (a : Asker) (g : Settings) (t : T) → OthersAreAsBefore a.session (has_committed v) (has_committed (C.ran v a g t))
