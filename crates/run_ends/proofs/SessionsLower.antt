-- Each call of the sessions lowers the rank.
use Rattle.std.proofs.Common.{◌≡◌, ◌<◌, ◌≤◌, ◌+◌, ℕ, zero, suc, Bool, true, false, List, [], ◌∷◌, replicate, Option, Some, None, Result, Ok, Err, refl, ap, sym, subst, ◌∙◌, inl, inr, ◌⊎◌, length, map, slice_index_or, slice_set, arith}
use Rattle.std.proofs.lemmas.List.{get_or-map, length-map}
use Rattle.std.proofs.Math.Seq.{map-set_same}
use Rattle.pg_values.specs.declared.fault.Fault.{Fault}
use Rattle.schedule.specs.declared.block.BlockKind.{BlockKind}
use Rattle.schedule.specs.declared.database.Progress.{Progress}
use Rattle.schedule.specs.declared.database.Progress.TheVariants as progress
use Rattle.run_ends.specs.Ranks as ranks
use Rattle.sessions.specs.Commits.{OthersAreAsBefore}
use Rattle.sessions.specs.Course.{Course}
use Rattle.sessions.specs.Sessions.{SessionView, State, Turn, has_open, new_session, session_at, with_block, with_session, in_its_block, aborted_if, back, rules_of}
use Rattle.sessions.specs.Stands.{transactions, points_from}
use Rattle.sessions.specs.Weight.{points}
use Rattle.sessions.proofs.Points.{all_same, one_set}
use Rattle.sessions.proofs.Whole.{transactions_set}
use Rattle.sessions.specs.declared.phase.Phase.{Phase}
use Rattle.sessions.specs.declared.phase.Phase.TheVariants.{Idle, Implicit, Explicit, Failed}
use Rattle.run_ends.specs.Executors.{Ranking, HasRank, HasLower, HasNotHigher, is_open, LowersIn, CommitOnceIn}
use Rattle.run_ends.specs.SessionRank.{IsRanked, points_of}
use Rattle.run_ends.proofs.Turns.{Good, turn_good}

put_back : {A : Type 0} (xs : List A) (s : ℕ) (d : A) → slice_set xs s (slice_index_or xs s d) ≡ xs
put_back [] s d = refl
put_back (x ∷ xs) zero d = refl
put_back (x ∷ xs) (suc s) d = ap (λ ys. x ∷ ys) (put_back xs s d)

any_default : {A : Type 0} (xs : List A) (s : ℕ) (d e : A) → s < length xs → slice_index_or xs s d ≡ slice_index_or xs s e
any_default [] s d e lt = absurd (omega arith)
any_default (x ∷ xs) zero d e lt = refl
any_default (x ∷ xs) (suc s) d e lt = any_default xs s d e (omega arith)

there : {T : Type 0} (xs : List (SessionView T)) (s : ℕ) → (session_at xs s).in_block ≡ true → s < length xs
there [] s e = absurd (cc)
there (x ∷ xs) zero e = omega arith
there (x ∷ xs) (suc s) e = let h = there xs s e in omega (arith, h)

there_open : {T : Type 0} (xs : List (SessionView T)) (s : ℕ) → has_open (session_at xs s).phase ≡ true → s < length xs
there_open [] s e = absurd (cc)
there_open (x ∷ xs) zero e = omega arith
there_open (x ∷ xs) (suc s) e = let h = there_open xs s e in omega (arith, h)

opened_at : {T : Type 0} (xs : List (SessionView T)) (s : ℕ) → s < length xs → is_open (transactions xs) s ≡ has_open (session_at xs s).phase
opened_at xs s lt = get_or-map (λ x. has_open x.phase) xs s new_session false lt

-- a session changes, and has a transaction as before
same_opened : {T : Type 0} (xs : List (SessionView T)) (s : ℕ) (y : SessionView T) → has_open y.phase ≡ has_open (session_at xs s).phase → transactions (slice_set xs s y) ≡ transactions xs
same_opened xs s y e = map-set_same (λ x. has_open x.phase) xs s y new_session e

none_opened : {T : Type 0} (xs : List (SessionView T)) → transactions (map (λ (x : SessionView T). new_session {T = T}) xs) ≡ map (λ o. false) (transactions xs)
none_opened [] = refl
none_opened (x ∷ xs) = ap (λ l. false ∷ l) (none_opened xs)

pub new_opened : (T : Type 0) (n : ℕ) → transactions (replicate n (new_session {T = T})) ≡ replicate n false
new_opened T zero = refl
new_opened T (suc n) = ap (λ l. false ∷ l) (new_opened T n)

block_phase : {T : Type 0} (x : SessionView T) (k : BlockKind) (r : Result (List T) Fault) → has_open (with_block x k r).phase ≡ has_open x.phase
block_phase x k (Ok ts) = refl
block_phase x k (Err f) = refl

less_or_same : (m n : ℕ) → m ≤ n → (m < n) ⊎ (m ≡ n)
less_or_same zero zero le = inr refl
less_or_same zero (suc n) le = inl (omega arith)
less_or_same (suc m) zero le = absurd (omega arith)
less_or_same (suc m) (suc n) le = on (less_or_same m n (omega arith))
  where
    on : (m < n) ⊎ (m ≡ n) → (suc m < suc n) ⊎ (suc m ≡ suc n)
    on (inl lt) = inl (omega arith)
    on (inr e) = inr (ap suc e)

module _ {S T : Type 0} (C : Course S T) (n : ℕ) (f : S → ℕ → T → Bool) (q : Ranking S) (k : LowersIn C n q) (once : CommitOnceIn C f q) where
  abbrev Q : State S T → Option ℕ → ℕ → ℕ → Type 0
  Q = IsRanked f q

  any : (v : State S T) (t : Option ℕ) → HasRank q v.executor t (transactions v.sessions) → ranks.HasRank Q v t
  any v t h = record { first = points_of f v; second = h.rank; ranked = record { blocks = refl; executor = h.ranked } }

  any_at : (v : State S T) (t : Option ℕ) (os : List Bool) → transactions v.sessions ≡ os → HasRank q v.executor t os → ranks.HasRank Q v t
  any_at v t os e h = any v t (subst (HasRank q v.executor t) (sym e) h)

  -- the blocks stand, and the executor's rank is lower
  same_lower : (v : State S T) (t : Option ℕ) (os : List Bool) (a b : ℕ) → transactions v.sessions ≡ os → points_of f v ≡ a → HasLower q v.executor t os b → ranks.HasLower Q v t a b
  same_lower v t os a b e same h = record { first = points_of f v; second = h.rank; ranked = record { blocks = refl; executor = subst (λ l. q v.executor t l h.rank) (sym e) h.ranked }; below = inr (same, h.below) }

  same_not_higher : (v : State S T) (t : Option ℕ) (os : List Bool) (a b : ℕ) → transactions v.sessions ≡ os → points_of f v ≡ a → HasNotHigher q v.executor t os b → ranks.HasNotHigher Q v t a b
  same_not_higher v t os a b e same h = record { first = points_of f v; second = h.rank; ranked = record { blocks = refl; executor = subst (λ l. q v.executor t l h.rank) (sym e) h.ranked }; not_above = inr (same, h.not_above) }

  -- less is left of the blocks
  less_at : (v : State S T) (t : Option ℕ) (os : List Bool) (a b : ℕ) → transactions v.sessions ≡ os → points_of f v < a → HasRank q v.executor t os → ranks.HasLower Q v t a b
  less_at v t os a b e less h = record { first = points_of f v; second = h.rank; ranked = record { blocks = refl; executor = subst (λ l. q v.executor t l h.rank) (sym e) h.ranked }; below = inl less }

  less_ended : (v : State S T) (t : Option ℕ) (os : List Bool) (a b : ℕ) → transactions v.sessions ≡ os → points_of f v < a → HasRank q v.executor t os → ranks.HasNotHigher Q v t a b
  less_ended v t os a b e less h = record { first = points_of f v; second = h.rank; ranked = record { blocks = refl; executor = subst (λ l. q v.executor t l h.rank) (sym e) h.ranked }; not_above = inl less }

  -- no more is left of them
  lower_at : (v : State S T) (t : Option ℕ) (os : List Bool) (a b : ℕ) → transactions v.sessions ≡ os → points_of f v ≤ a → HasLower q v.executor t os b → ranks.HasLower Q v t a b
  lower_at v t os a b e few h = by (less_or_same (points_of f v) a few)
    where
      by : (points_of f v < a) ⊎ (points_of f v ≡ a) → ranks.HasLower Q v t a b
      by (inl less) = less_at v t os a b e less (record { rank = h.rank; ranked = h.ranked })
      by (inr same) = same_lower v t os a b e same h

  not_higher_at : (v : State S T) (t : Option ℕ) (os : List Bool) (a b : ℕ) → transactions v.sessions ≡ os → points_of f v ≤ a → HasNotHigher q v.executor t os b → ranks.HasNotHigher Q v t a b
  not_higher_at v t os a b e few h = by (less_or_same (points_of f v) a few)
    where
      by : (points_of f v < a) ⊎ (points_of f v ≡ a) → ranks.HasNotHigher Q v t a b
      by (inl less) = less_ended v t os a b e less (record { rank = h.rank; ranked = h.ranked })
      by (inr same) = same_not_higher v t os a b e same h

  -- ---- a turn

  module _ (v : State S T) (s a b : ℕ) where
    abbrev Lowered : Progress → Turn S T → Type 0
    Lowered progress.Goes r = ranks.HasLower Q (with_session v s r) (Some s) a b
    Lowered progress.Waits r = ranks.HasNotHigher Q (with_session v s r) None a b × ranks.HasLower Q ((rules_of C).cancelled (with_session v s r) s) (Some s) a b
    Lowered progress.Ended r = ranks.HasNotHigher Q (with_session v s r) None a b

    module _ (lt : s < length v.sessions) (l : s < length (transactions v.sessions)) (is : points_of f v ≡ a) where
      sum_is : (w : S) (y : SessionView T) → OthersAreAsBefore s (f v.executor) (f w)
          → points_from (f w) (λ t. t) 0 (slice_set v.sessions s y) + points (f v.executor s) (session_at v.sessions s) ≡ points_of f v + points (f w s) y
      sum_is w y o = one_set (λ t. t) (f v.executor) (f w) s v.sessions (session_at v.sessions s) y lt (any_default v.sessions s new_session (session_at v.sessions s) lt) o

      cancelled_same : (w : S) (ys : List (SessionView T)) → points_from (f (C.cancelled w s)) (λ t. t) 0 ys ≡ points_from (f w) (λ t. t) 0 ys
      cancelled_same w ys = all_same (λ t. t) (f w) (f (C.cancelled w s)) ys (once.cancelled w s)

      lift : (p : Progress) (r : Turn S T) → OthersAreAsBefore s (f v.executor) (f r.executor) → Good C n f q k once s (transactions v.sessions) l v.executor p (points (f v.executor s) (session_at v.sessions s)) b r → Lowered p r
      lift progress.Goes r o (inl g) = let h = sum_is r.executor r.session o in less_at (with_session v s r) (Some s) _ a b (transactions_set v.sessions s r.session) (omega (arith, h, g.0, is)) g.1
      lift progress.Goes r o (inr g) = let h = sum_is r.executor r.session o in lower_at (with_session v s r) (Some s) _ a b (transactions_set v.sessions s r.session) (omega (arith, h, g.0, is)) g.1
      lift progress.Waits r o g =
          let h = sum_is r.executor r.session o in
          let e = cancelled_same r.executor (slice_set v.sessions s r.session) in (
            not_higher_at (with_session v s r) None _ a b (transactions_set v.sessions s r.session) (omega (arith, h, g.0, is)) g.1,
            lower_at ((rules_of C).cancelled (with_session v s r) s) (Some s) _ a b (transactions_set v.sessions s r.session) (omega (arith, h, g.0, is, e)) g.2,
          )
      lift progress.Ended r o g = let h = sum_is r.executor r.session o in less_ended (with_session v s r) None _ a b (transactions_set v.sessions s r.session) (omega (arith, h, g.0, is)) g.1

    in_block_lowered : (c : Bool) → (session_at v.sessions s).in_block ≡ c → Q v (Some s) a b → Lowered (in_its_block C s v.executor (session_at v.sessions s) c).progress (in_its_block C s v.executor (session_at v.sessions s) c)
    in_block_lowered true ib h =
        let lt = there v.sessions s ib in
        let l : s < length (transactions v.sessions) = let m = length-map v.sessions (λ (x : SessionView T). has_open x.phase) in omega (arith, lt, m) in
        let r = in_its_block C s v.executor (session_at v.sessions s) true in
        let good = turn_good C n f q k once s (transactions v.sessions) l v.executor b (session_at v.sessions s) h.executor ib (opened_at v.sessions s lt) in
        lift lt l h.blocks r.progress r good.0 good.1
    in_block_lowered false ib h =
        let same = put_back v.sessions s new_session in
        same_not_higher (record { executor = v.executor; sessions = slice_set v.sessions s (session_at v.sessions s) }) None (transactions v.sessions) a b (ap transactions same) (ap (points_from (f v.executor) (λ t. t) 0) same ∙ h.blocks)
        (record { rank = b; ranked = k.gives_up v.executor (transactions v.sessions) b s h.executor; not_above = omega arith })

    turn_lowered : Q v (Some s) a b → Lowered ((rules_of C).progress v s) (in_its_block C s v.executor (session_at v.sessions s) (session_at v.sessions s).in_block)
    turn_lowered h = in_block_lowered (session_at v.sessions s).in_block refl h

    at_progress : (p : Progress) → (rules_of C).progress v s ≡ p → Q v (Some s) a b → Lowered p (in_its_block C s v.executor (session_at v.sessions s) (session_at v.sessions s).in_block)
    at_progress p is h = subst (λ p. Lowered p (in_its_block C s v.executor (session_at v.sessions s) (session_at v.sessions s).in_block)) is (turn_lowered h)

  -- ---- a rollback from outside

  rolled_back_ranked : (v : State S T) (s b : ℕ) (p : Phase) → (session_at v.sessions s).phase ≡ p → q v.executor None (transactions v.sessions) b → s < n
      → HasRank q (aborted_if C s (has_open p) v.executor) None (transactions (slice_set v.sessions s (back (session_at v.sessions s))))
  rolled_back_ranked v s b Idle is h lt = record { rank = b; ranked = subst (λ l. q v.executor None l b) (sym (same_opened v.sessions s _ (sym (ap has_open is)))) h }
  rolled_back_ranked v s b Implicit is h lt =
      let t = there_open v.sessions s (ap has_open is) in
      subst (HasRank q _ None) (sym (transactions_set v.sessions s _)) (k.rolled_back v.executor (transactions v.sessions) b s h lt (opened_at v.sessions s t ∙ ap has_open is))
  rolled_back_ranked v s b Explicit is h lt =
      let t = there_open v.sessions s (ap has_open is) in
      subst (HasRank q _ None) (sym (transactions_set v.sessions s _)) (k.rolled_back v.executor (transactions v.sessions) b s h lt (opened_at v.sessions s t ∙ ap has_open is))
  rolled_back_ranked v s b Failed is h lt = record { rank = b; ranked = subst (λ l. q v.executor None l b) (sym (same_opened v.sessions s _ (sym (ap has_open is)))) h }

  pub sessions_lower : ranks.Lowers (rules_of C) n Q
  sessions_lower = record {
    fresh = λ v a b h. any_at ((rules_of C).fresh v) None _ (none_opened v.sessions) (k.fresh v.executor (transactions v.sessions) b h.executor);
    begun = λ v a b s kind text h lt free.
        any_at ((rules_of C).begun v s kind text) (Some s) (transactions v.sessions)
        (same_opened v.sessions s (with_block (session_at v.sessions s) kind (C.parsed text)) (block_phase (session_at v.sessions s) kind (C.parsed text)))
        (k.takes v.executor (transactions v.sessions) b s h.executor lt free);
    rolled_back = λ v a b s h lt. any ((rules_of C).rolled_back v s) None (rolled_back_ranked v s b (session_at v.sessions s).phase refl h.executor lt);
    waits = λ v a b s h is. (at_progress v s a b progress.Waits is h).0;
    ends = λ v a b s h is. at_progress v s a b progress.Ended is h;
    goes = λ v a b s h is. at_progress v s a b progress.Goes is h;
    paused = λ v a b s h is. (at_progress v s a b progress.Waits is h).1;
    resumed = λ v a b s h on.
        same_lower ((rules_of C).resumed v s) (Some s) (transactions v.sessions) a b refl (all_same (λ t. t) (f v.executor) (f (C.resumed v.executor s)) v.sessions (once.resumed v.executor s) ∙ h.blocks)
        (k.resumed v.executor (transactions v.sessions) b s h.executor on);
    cancelled = λ v a b s h on.
        same_lower ((rules_of C).cancelled v s) (Some s) (transactions v.sessions) a b refl (all_same (λ t. t) (f v.executor) (f (C.cancelled v.executor s)) v.sessions (once.cancelled v.executor s) ∙ h.blocks)
        (k.cancelled v.executor (transactions v.sessions) b s h.executor on);
  }
