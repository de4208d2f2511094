-- A turn of a session: each way it may go.
use Rattle.std.proofs.Common.{◌≡◌, ◌<◌, ◌≤◌, ◌+◌, ◌*◌, ℕ, zero, suc, Bool, true, false, List, [], ◌∷◌, Option, Some, None, Result, Ok, Err, refl, ap, sym, subst, ◌∙◌, inl, inr, ◌⊎◌, length, slice_set, arith}
use Rattle.pg_values.specs.declared.fault.Fault.{Fault}
use Rattle.schedule.specs.declared.database.Progress.{Progress}
use Rattle.schedule.specs.declared.database.Progress.TheVariants as progress
use Rattle.sessions.specs.Commits.{CommitsOnce, AreAsBefore, OthersAreAsBefore}
use Rattle.sessions.specs.Course.{Course}
use Rattle.sessions.specs.Sessions.{SessionView, Turn, head_of, tail, has_open, state_fault, aborted_if, failed_phase, fails, opened, begins, commits, rolls_back, asker_of, sets, kept, done, by_outcome, heard, runs, unless_idle, by_role, unless_fault, closes, by_next, by_broken, in_its_block}
use Rattle.sessions.specs.Weight.{of_phase, of_statement, of_rest, of_block, points, most_points}
use Rattle.sessions.proofs.Weights.{points_few, two_at_least}
use Rattle.sessions.specs.declared.outcome.Outcome.{Outcome}
use Rattle.sessions.specs.declared.outcome.Outcome.TheVariants as outcomes
use Rattle.pg_values.specs.declared.isolation.Isolation.{Isolation}
use Rattle.pg_values.specs.declared.isolation.Isolation.TheVariants.{ReadCommitted}
use Rattle.sessions.specs.declared.phase.Phase.{Phase}
use Rattle.sessions.specs.declared.phase.Phase.TheVariants.{Idle, Implicit, Explicit, Failed}
use Rattle.sessions.specs.declared.role.Role.{Role}
use Rattle.sessions.specs.declared.role.Role.TheVariants.{Begin, Commit, Rollback, Set, Query}
use Rattle.sessions.specs.declared.settings.Settings.{Settings}
use Rattle.run_ends.specs.Executors.{Ranking, HasRank, HasLower, HasNotHigher, is_open, LowersIn, CommitOnceIn}

-- ---- who has a transaction open

set_same : (xs : List Bool) (s : ℕ) (b : Bool) → is_open xs s ≡ b → s < length xs → slice_set xs s b ≡ xs
set_same [] s b e lt = absurd (omega arith)
set_same (x ∷ xs) zero b e lt = ap (λ y. y ∷ xs) (sym e)
set_same (x ∷ xs) (suc s) b e lt = ap (λ ys. x ∷ ys) (set_same xs s b e (omega arith))

set_twice : (xs : List Bool) (s : ℕ) (a b : Bool) → slice_set (slice_set xs s a) s b ≡ slice_set xs s b
set_twice [] s a b = refl
set_twice (x ∷ xs) zero a b = refl
set_twice (x ∷ xs) (suc s) a b = ap (λ ys. x ∷ ys) (set_twice xs s a b)

closed : (xs : List Bool) (s : ℕ) → is_open (slice_set xs s false) s ≡ false
closed [] s = refl
closed (x ∷ xs) zero = refl
closed (x ∷ xs) (suc s) = closed xs s

-- ---- points

most_in_block : {T : Type 0} (y : SessionView T) → y.in_block ≡ true → most_points y ≡ 3 * length y.rest + of_phase y.phase + 1
most_in_block y e = let h = ap (of_block y.phase (3 * length y.rest)) e in omega (arith, h)

pub in_block_points : {T : Type 0} (f : T → Bool) (y : SessionView T) → y.in_block ≡ true → points f y ≡ of_rest f y.rest + of_phase y.phase + 1
in_block_points f y e = let h = ap (of_block y.phase (of_rest f y.rest)) e in omega (arith, h)

no_more : (b d : Bool) → (b ≡ true → d ≡ true) → of_statement d ≤ of_statement b
no_more true true e = omega arith
no_more true false e = absurd (let h = e refl in cc)
no_more false true e = omega arith
no_more false false e = omega arith

module _ {S T : Type 0} (C : Course S T) (n : ℕ) (f : S → ℕ → T → Bool) (q : Ranking S) (k : LowersIn C n q) (once : CommitOnceIn C f q) (s : ℕ) (os : List Bool) (lt : s < length os) (v : S) where
  abbrev pub after : Turn S T → List Bool
  after r = slice_set os s (has_open r.session.phase)

  -- what a turn may come to, from so many points and that rank
  abbrev pub Good : Progress → (pts rank : ℕ) → Turn S T → Type 0
  Good progress.Goes pts rank r = ((points (f r.executor s) r.session < pts) × HasRank q r.executor (Some s) (after r)) ⊎ ((points (f r.executor s) r.session ≤ pts) × HasLower q r.executor (Some s) (after r) rank)
  Good progress.Waits pts rank r = (points (f r.executor s) r.session ≤ pts) × HasNotHigher q r.executor None (after r) rank × HasLower q (C.cancelled r.executor s) (Some s) (after r) rank
  Good progress.Ended pts rank r = (points (f r.executor s) r.session < pts) × HasRank q r.executor None (after r)

  -- what the statements of other sessions have committed stands
  abbrev pub IsGood : (pts rank : ℕ) → Turn S T → Type 0
  IsGood pts rank r = OthersAreAsBefore s (f v) (f r.executor) × Good r.progress pts rank r

  others_stand : OthersAreAsBefore s (f v) (f v)
  others_stand r u other = refl

  others_on : (w x : S) → OthersAreAsBefore s (f v) (f w) → AreAsBefore (f w) (f x) → OthersAreAsBefore s (f v) (f x)
  others_on w x o same r u other = same r u ∙ o r u other

  any : (w : S) (t : Option ℕ) (xs : List Bool) (rank : ℕ) → q w t xs rank → HasRank q w t xs
  any w t xs rank h = record { rank = rank; ranked = h }

  up : (w : S) (xs : List Bool) → HasRank q w (Some s) xs → HasRank q w None xs
  up w xs h = any w None xs h.rank (k.gives_up w xs h.rank s h.ranked)

  stays : (w : S) (rank : ℕ) (b : Bool) → q w (Some s) os rank → is_open os s ≡ b → HasRank q w (Some s) (slice_set os s b)
  stays w rank b h e = subst (HasRank q w (Some s)) (sym (set_same os s b e lt)) (any w (Some s) os rank h)

  -- ---- the transaction fails

  others_aborted : (w : S) (b : Bool) → OthersAreAsBefore s (f v) (f w) → OthersAreAsBefore s (f v) (f (aborted_if C s b w))
  others_aborted w true o = others_on w (C.aborted w s) o (once.aborted w s)
  others_aborted w false o = o

  failed_rank : (w : S) (rank : ℕ) (p : Phase) → q w (Some s) os rank → is_open os s ≡ has_open p → HasRank q (aborted_if C s (has_open p) w) (Some s) (slice_set os s (has_open (failed_phase p)))
  failed_rank w rank Idle h e = stays w rank false h e
  failed_rank w rank Implicit h e = k.aborted w os rank s h e
  failed_rank w rank Explicit h e = k.aborted w os rank s h e
  failed_rank w rank Failed h e = stays w rank false h e

  fails_good : (w : S) (rank pts first : ℕ) (x : SessionView T) (fault : Fault) → OthersAreAsBefore s (f v) (f w) → q w (Some s) os rank → is_open os s ≡ has_open x.phase → 0 < pts → IsGood pts first (fails C s w x fault)
  fails_good w rank pts first x fault o h e some = (others_aborted w (has_open x.phase) o, (some, up (aborted_if C s (has_open x.phase) w) (slice_set os s (has_open (failed_phase x.phase))) (failed_rank w rank x.phase h e)))

  -- ---- a statement that was taken from the front

  module _ (rank pts : ℕ) (h : q v (Some s) os rank) where
    -- so many points there were with it
    abbrev Counts : Bool → SessionView T → Type 0
    Counts b x = pts ≡ of_statement b + (3 * length x.rest + of_phase x.phase + 1)

    some_left : (b : Bool) (x : SessionView T) → Counts b x → 0 < pts
    some_left b x c = let two = two_at_least b in omega (arith, c, two)

    fewer : (b : Bool) (x : SessionView T) (w : S) (y : SessionView T) → Counts b x → y.in_block ≡ true → length y.rest ≡ length x.rest → of_phase y.phase < of_phase x.phase + 2 → points (f w s) y < pts
    fewer b x w y c ib same less = let two = two_at_least b in let few = points_few (f w s) y in let p = most_in_block y ib in omega (arith, c, p, few, two, same, less)

    begins_good : (b : Bool) (x : SessionView T) (l : Option Isolation) (p : Phase) → Counts b x → x.in_block ≡ true → x.phase ≡ p → is_open os s ≡ has_open p → IsGood pts rank (begins C s v x l p)
    begins_good b x l Idle c ib is e = (others_on v (C.began v s) others_stand (once.began v s), inl (fewer b x (C.began v s) (begins C s v x l Idle).session c ib refl (omega arith), k.began v os rank s h e))
    begins_good b x l Implicit c ib is e = (others_stand, inl (fewer b x v (begins C s v x l Implicit).session c ib refl (omega arith), stays v rank true h e))
    begins_good b x l Explicit c ib is e = (others_stand, inl (fewer b x v (begins C s v x l Explicit).session c ib refl (omega arith), stays v rank (has_open x.phase) h (e ∙ ap has_open (sym is))))
    begins_good b x l Failed c ib is e = (others_stand, inl (fewer b x v (begins C s v x l Failed).session c ib refl (omega arith), stays v rank (has_open x.phase) h (e ∙ ap has_open (sym is))))

    commits_good : (b : Bool) (x : SessionView T) (p : Phase) → Counts b x → x.in_block ≡ true → x.phase ≡ p → is_open os s ≡ has_open p → IsGood pts rank (commits C s v x p)
    commits_good b x Idle c ib is e = (others_stand, inl (fewer b x v (commits C s v x Idle).session c ib refl (omega arith), stays v rank (has_open x.phase) h (e ∙ ap has_open (sym is))))
    commits_good b x Implicit c ib is e = (others_on v (C.committed v s) others_stand (once.committed v s), inl (fewer b x (C.committed v s) (commits C s v x Implicit).session c ib refl (omega arith), k.committed v os rank s h e))
    commits_good b x Explicit c ib is e = (others_on v (C.committed v s) others_stand (once.committed v s), inl (fewer b x (C.committed v s) (commits C s v x Explicit).session c ib refl (omega arith), k.committed v os rank s h e))
    commits_good b x Failed c ib is e = (others_stand, inl (fewer b x v (commits C s v x Failed).session c ib refl (omega arith), stays v rank false h e))

    back_rank : (p : Phase) → is_open os s ≡ has_open p → HasRank q (aborted_if C s (has_open p) v) (Some s) (slice_set os s false)
    back_rank Idle e = stays v rank false h e
    back_rank Implicit e = k.aborted v os rank s h e
    back_rank Explicit e = k.aborted v os rank s h e
    back_rank Failed e = stays v rank false h e

    rolls_back_good : (b : Bool) (x : SessionView T) → Counts b x → x.in_block ≡ true → is_open os s ≡ has_open x.phase → IsGood pts rank (rolls_back C s v x)
    rolls_back_good b x c ib e = (others_aborted v (has_open x.phase) others_stand, inl (fewer b x (aborted_if C s (has_open x.phase) v) (rolls_back C s v x).session c ib refl (omega arith), back_rank x.phase e))

    sets_good : (b : Bool) (x : SessionView T) (r : Result Settings Fault) → Counts b x → x.in_block ≡ true → is_open os s ≡ has_open x.phase → IsGood pts rank (sets C s v x r)
    sets_good b x (Ok g) c ib e = (others_stand, inl (fewer b x v (sets C s v x (Ok g)).session c ib refl (omega arith), stays v rank (has_open x.phase) h e))
    sets_good b x (Err fault) c ib e = fails_good v rank pts rank x fault others_stand h e (some_left b x c)

    -- the statement is still to be done
    kept_few : (b : Bool) (x y : SessionView T) (t : T) (w : S) → Counts b x → y.in_block ≡ true → y.rest ≡ t ∷ x.rest → of_phase y.phase ≡ of_phase x.phase → (b ≡ true → f w s t ≡ true) → points (f w s) y ≤ pts
    kept_few b x y t w c ib more same on =
        let p = in_block_points (f w s) y ib in
        let r : of_rest (f w s) y.rest ≡ of_statement (f w s t) + 3 * length x.rest = ap (of_rest (f w s)) more in
        let less = no_more b (f w s t) on in
        omega (arith, c, p, r, same, less)

    -- .. and has committed what it did first
    again_fewer : (b : Bool) (x y : SessionView T) (t : T) (w : S) → Counts b x → y.in_block ≡ true → y.rest ≡ t ∷ x.rest → of_phase y.phase ≡ 0 → b ≡ false → f w s t ≡ true → points (f w s) y < pts
    again_fewer b x y t w c ib more zero_left before after =
        let p = in_block_points (f w s) y ib in
        let r : of_rest (f w s) y.rest ≡ of_statement (f w s t) + 3 * length x.rest = ap (of_rest (f w s)) more in
        let two : of_statement (f w s t) ≡ 2 = ap of_statement after in
        let three : of_statement b ≡ 3 = ap of_statement before in
        omega (arith, c, p, r, zero_left, two, three)

    again_rank : (w : S) → HasRank q w (Some s) os → is_open os s ≡ true → HasRank q (C.began (C.committed w s) s) (Some s) (slice_set os s true)
    again_rank w r on =
        let c = k.committed w os r.rank s r.ranked on in
        subst (HasRank q (C.began (C.committed w s) s) (Some s)) (set_twice os s false true) (k.began (C.committed w s) (slice_set os s false) c.rank s c.ranked (closed os s))

    again_same : (w : S) → AreAsBefore (f w) (f (C.began (C.committed w s) s))
    again_same w r u = once.began (C.committed w s) s r u ∙ once.committed w s r u

    outcome_good : (b : Bool) (x : SessionView T) (t : T) (text : List ℕ) (o : Outcome) → C.outcome v (asker_of s x) x.settings t ≡ o → CommitsOnce b (f (C.ran v (asker_of s x) x.settings t) s t) o → Counts b x → x.in_block ≡ true
        → is_open os s ≡ true → has_open x.phase ≡ true → IsGood pts rank (by_outcome C s (C.ran v (asker_of s x) x.settings t) (heard x text) t o)
    outcome_good b x t text outcomes.Goes is on c ib held same =
        (once.others v (asker_of s x) x.settings t, inr (kept_few b x (kept (heard x text) t) t (C.ran v (asker_of s x) x.settings t) c ib refl refl on, subst (λ l. HasLower q (C.ran v (asker_of s x) x.settings t) (Some s) l rank) (sym (set_same os s (has_open x.phase) (held ∙ sym same) lt)) (k.goes v os rank (asker_of s x) x.settings t h held is)))
    outcome_good b x t text outcomes.Waits is on c ib held same = (
      once.others v (asker_of s x) x.settings t,
      (
        kept_few b x (kept (heard x text) t) t (C.ran v (asker_of s x) x.settings t) c ib refl refl on,
        subst (λ l. HasNotHigher q (C.ran v (asker_of s x) x.settings t) None l rank) (sym (set_same os s (has_open x.phase) (held ∙ sym same) lt)) (k.waits v os rank (asker_of s x) x.settings t h held is),
        subst (λ l. HasLower q (C.cancelled (C.ran v (asker_of s x) x.settings t) s) (Some s) l rank) (sym (set_same os s (has_open x.phase) (held ∙ sym same) lt)) (k.paused v os rank (asker_of s x) x.settings t h held is),
      ),
    )
    outcome_good b x t text outcomes.Commits is on c ib held same =
        let w = C.ran v (asker_of s x) x.settings t in (
          others_on w (C.began (C.committed w s) s) (once.others v (asker_of s x) x.settings t) (again_same w),
          inl (again_fewer b x (kept (opened (heard x text) Implicit ReadCommitted) t) t (C.began (C.committed w s) s) c ib refl refl on.0 (again_same w s t ∙ on.1), again_rank w (k.commits v os rank (asker_of s x) x.settings t h held is) held),
        )
    outcome_good b x t text outcomes.Done is on c ib held same =
        (once.others v (asker_of s x) x.settings t, inl (fewer b x (C.ran v (asker_of s x) x.settings t) (done (heard x text) (C.looks t)) c ib refl (omega arith), subst (HasRank q (C.ran v (asker_of s x) x.settings t) (Some s)) (sym (set_same os s (has_open x.phase) (held ∙ sym same) lt)) (k.done v os rank (asker_of s x) x.settings t h held is)))
    outcome_good b x t text (outcomes.Refused fault) is on c ib held same =
        let r = k.refused v os rank (asker_of s x) x.settings t fault h held is in
        fails_good (C.ran v (asker_of s x) x.settings t) r.rank pts rank (heard x text) fault (once.others v (asker_of s x) x.settings t) r.ranked (held ∙ sym same) (some_left b x c)

    -- outside of a transaction one begins for it
    opens_fewer : (b : Bool) (x y : SessionView T) (t : T) (w : S) → Counts b x → y.in_block ≡ true → y.rest ≡ t ∷ x.rest → of_phase y.phase ≡ 0 → of_phase x.phase ≡ 1 → f w s t ≡ b → points (f w s) y < pts
    opens_fewer b x y t w c ib more now was same =
        let p = in_block_points (f w s) y ib in
        let r : of_rest (f w s) y.rest ≡ of_statement (f w s t) + 3 * length x.rest = ap (of_rest (f w s)) more in
        let e : of_statement (f w s t) ≡ of_statement b = ap of_statement same in
        omega (arith, c, p, r, now, was, e)

    unless_idle_good : (x : SessionView T) (t : T) (next : Turn S T) (p : Phase) → Counts (f v s t) x → x.in_block ≡ true → x.phase ≡ p → is_open os s ≡ has_open p
        → (has_open x.phase ≡ true → is_open os s ≡ true → IsGood pts rank next) → IsGood pts rank (unless_idle C s v x t next p)
    unless_idle_good x t next Idle c ib is e then =
        (others_on v (C.began v s) others_stand (once.began v s), inl (opens_fewer (f v s t) x (kept (opened x Implicit ReadCommitted) t) t (C.began v s) c ib refl refl (ap of_phase is) (once.began v s s t), k.began v os rank s h e))
    unless_idle_good x t next Implicit c ib is e then = then (ap has_open is) e
    unless_idle_good x t next Explicit c ib is e then = then (ap has_open is) e
    unless_idle_good x t next Failed c ib is e then = (others_stand, inl (fewer (f v s t) x v x c ib refl (omega arith), stays v rank (has_open x.phase) h (e ∙ ap has_open (sym is))))

    role_good : (x : SessionView T) (t : T) (r : Role) → Counts (f v s t) x → x.in_block ≡ true → is_open os s ≡ has_open x.phase → IsGood pts rank (by_role C s v x t r)
    role_good x t (Begin l) c ib e = begins_good (f v s t) x l x.phase c ib refl e
    role_good x t Commit c ib e = commits_good (f v s t) x x.phase c ib refl e
    role_good x t Rollback c ib e = rolls_back_good (f v s t) x c ib e
    role_good x t Set c ib e = unless_idle_good x t (sets C s v x (C.set x.settings t)) x.phase c ib refl e (λ same on. sets_good (f v s t) x (C.set x.settings t) c ib e)
    role_good x t Query c ib e =
        unless_idle_good x t (runs C s v x t) x.phase c ib refl e
        (λ same on. outcome_good (f v s t) x t (C.text v (asker_of s x) x.settings t) (C.outcome v (asker_of s x) x.settings t) refl (once.once v os rank (asker_of s x) x.settings t h) c ib on same)

    fault_good : (x : SessionView T) (t : T) (o : Option Fault) → Counts (f v s t) x → x.in_block ≡ true → is_open os s ≡ has_open x.phase → IsGood pts rank (unless_fault C s v x t o)
    fault_good x t (Some fault) c ib e = fails_good v rank pts rank x fault others_stand h e (some_left (f v s t) x c)
    fault_good x t None c ib e = role_good x t (C.role t) c ib e

    -- ---- the block

    closes_good : (x : SessionView T) (p : Phase) → 0 < pts → x.phase ≡ p → is_open os s ≡ has_open p → IsGood pts rank (closes C s v x p)
    closes_good x Idle some is e = (others_stand, (some, up v (slice_set os s (has_open x.phase)) (stays v rank (has_open x.phase) h (e ∙ ap has_open (sym is)))))
    closes_good x Implicit some is e = (others_on v (C.committed v s) others_stand (once.committed v s), (some, up (C.committed v s) (slice_set os s (has_open Idle)) (k.committed v os rank s h e)))
    closes_good x Explicit some is e = (others_stand, (some, up v (slice_set os s (has_open x.phase)) (stays v rank (has_open x.phase) h (e ∙ ap has_open (sym is)))))
    closes_good x Failed some is e = (others_stand, (some, up v (slice_set os s (has_open x.phase)) (stays v rank (has_open x.phase) h (e ∙ ap has_open (sym is)))))

    next_good : (x : SessionView T) (ts : List T) → x.rest ≡ ts → pts ≡ of_rest (f v s) x.rest + of_phase x.phase + 1 → x.in_block ≡ true → is_open os s ≡ has_open x.phase → IsGood pts rank (by_next C s v x (head_of ts))
    next_good x [] is c ib e = closes_good x x.phase (omega (arith, c)) refl e
    next_good x (t ∷ ts) is c ib e =
        let one : of_rest (f v s) x.rest ≡ of_statement (f v s t) + 3 * length ts = ap (of_rest (f v s)) is in
        let two : length (tail x.rest) ≡ length ts = ap (λ l. length (tail l)) is in
        fault_good (record x { rest = tail x.rest }) t (state_fault C (record x { rest = tail x.rest }) t) (omega (arith, c, one, two)) ib e

    broken_good : (x : SessionView T) (o : Option Fault) → pts ≡ of_rest (f v s) x.rest + of_phase x.phase + 1 → x.in_block ≡ true → is_open os s ≡ has_open x.phase → IsGood pts rank (by_broken C s v x o)
    broken_good x (Some fault) c ib e = fails_good v rank pts rank x fault others_stand h e (omega (arith, c))
    broken_good x None c ib e = next_good x x.rest refl c ib e

  pub turn_good : (rank : ℕ) (x : SessionView T) → q v (Some s) os rank → x.in_block ≡ true → is_open os s ≡ has_open x.phase → IsGood (points (f v s) x) rank (in_its_block C s v x true)
  turn_good rank x h ib e = broken_good rank (points (f v s) x) h (record x { broken = None }) x.broken (in_block_points (f v s) x ib) ib e
