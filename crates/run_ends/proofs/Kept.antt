-- What each call that runs no statement leaves of a rank.
use Rattle.std.proofs.Common.{◌≡◌, ◌≢◌, ◌<◌, ◌≤◌, ℕ, ◌+◌, ◌⊎◌, Bool, true, false, List, [], ◌∷◌, ◌++◌, Option, Some, None, refl, ap, sym, subst, ◌∙◌, inl, inr, if◌then◌else◌, IfSome, is_some, length, replicate, slice_index_or, slice_set, arith, length-set, get_or-set_other, get_or-set_same}
use Rattle.std.specs.List.{sum_by}
use Rattle.std.proofs.lemmas.Grind.{common_steps}
use Rattle.std.proofs.lemmas.Bool.{cases_lt}
use Rattle.std.proofs.lemmas.Bool.Decides.{nat_tests}
use Rattle.std.proofs.lemmas.List.{length-replicate, get_or-replicate, get_or_past}
use Rattle.history.specs.declared.wait.WaitOn.{WaitOn}
use Rattle.history.specs.declared.wait.Wanted.{Wanted}
use Rattle.history.specs.declared.wait.Wanted.TheVariants.{Lock, Others}
use Rattle.history.specs.Catalogue.{CatalogueEvents}
use Rattle.history.specs.History.{lock_events}
use Rattle.history.specs.Locks.{LockEvents, WaitResumed, WaitWithdrawn, wanted, queue}
use Rattle.history.specs.Transactions.{TxEvent}
use Rattle.history.specs.Waits.{ready}
use Rattle.lock_table.specs.Stands.{names}
use Rattle.schedule.specs.Lists.{head_of, without}
use Rattle.stores.specs.Events.{ended, resumed}
use Rattle.statement_steps.specs.Attempts.{HasCause}
use Rattle.statement_steps.specs.declared.rest.Rest.{Rest}
use Rattle.statement_runs.specs.declared.options.Options.{Options}
use Rattle.statement_runs.specs.Database.{Database, anew, empty, is_cancelled, waits, cancels, cuts, all_cut, interrupted, is_ready, resumes, happened}
use Rattle.statement_runs.specs.Weight.{of_flag, of_mark}
use Rattle.run_ends.proofs.Cutting.{is_itself, ready_some, first_passes, first_in, cut_added, cut_gone}
use Rattle.run_ends.proofs.Waiting.{lacks_wanted, ready_names, ready_waits, first_waits, got_it, still_holds}
use Rattle.run_ends.specs.Executors.{HasRank, HasLower}
use Rattle.run_ends.specs.Asking.{IsKnown}
use Rattle.run_ends.specs.StatementRank.{unheld, slack, Stands, IsKept, IsRanked}
use Rattle.run_ends.proofs.Shrinking.{Shrinks, bounded_below, over_left, given_up_shrinks, idle_after}
use Rattle.run_ends.proofs.Sums.{flag_set_less, mark_cleared, unheld_mono, unheld_less, flag_lower, cut_no_higher, lock_lower, mark_lower, cut_lower}

-- ---- flags and marks

pub set_apart : (xs : List Bool) (s r : ℕ) (b : Bool) → s ≢ r → slice_index_or xs r false ≡ false → slice_index_or (slice_set xs s b) r false ≡ false
set_apart xs s r b other off = get_or-set_other xs s r b false (λ same. other (sym same)) ∙ off

pub cleared : (xs : List Bool) (s : ℕ) → s < length xs → slice_index_or (slice_set xs s false) s false ≡ false
cleared xs s lt = get_or-set_same xs s false false lt

there : (xs : List Bool) (s : ℕ) → slice_index_or xs s false ≡ true → s < length xs
there xs s on =
    elim (cases_lt s (length xs)) [
      | inl lt ↦ lt
      | inr past ↦ absurd (let c : false ≡ true = sym (get_or_past xs s false past) ∙ on in cc)
    ]

-- where all are marked none has to have a cause
pub all_marked : (n s : ℕ) (A : Type 0) → s < n → slice_index_or (replicate n true) s false ≡ false → A
all_marked n s A lt off = absurd (let c : true ≡ false = sym (get_or-replicate n s true false lt) ∙ off in cc)

-- ---- where statements stand

-- nowhere, at the beginning
abbrev nowhere : ℕ → List (Option Rest)
nowhere m = replicate m None

no_rest : (m s : ℕ) → slice_index_or (nowhere m) s None ≡ None
no_rest m s =
    elim (cases_lt s m) [
      | inl lt ↦ get_or-replicate m s None None lt
      | inr past ↦ let size : length (nowhere m) ≡ m = length-replicate m None in get_or_past (nowhere m) s None (subst (λ l. l ≤ s) (sym size) past)
    ]

-- ---- options

pub is_none : (o : Option Wanted) → is_some o ≡ false → o ≡ None
is_none None e = refl
is_none (Some w) e = absurd (cc)

pub is_there : (o : Option Wanted) → is_some o ≡ true → (w : Wanted) × (o ≡ Some w)
is_there None e = absurd (cc)
is_there (Some w) e = (w, refl)

withdrawn_own : (l : LockEvents) (s : ℕ) → wanted (WaitWithdrawn s ∷ l) s ≡ None
withdrawn_own l s = grind (arith, common_steps, nat_tests)

resumed_own : (l : LockEvents) (s : ℕ) → wanted (WaitResumed s ∷ l) s ≡ None
resumed_own l s = grind (arith, common_steps, nat_tests)

pub idle_on : (o : Option ℕ) (n : ℕ) (old new : LockEvents) → Shrinks old new → IfSome o (λ s. (s < n) × (wanted old s ≡ None)) → IfSome o (λ s. (s < n) × (wanted new s ≡ None))
idle_on None n old new f h = tt
idle_on (Some s) n old new f h = (h.0, idle_after old new s f h.1)

-- a cause of what was waited for
others_lie : (a : Wanted) (v : WaitOn) → a ≡ Others v → HasCause a → (y : ℕ) × (names v y ≡ true)
others_lie a v e h = subst HasCause e h

-- something was given up: all are marked
pub given_up_waits : (n : ℕ) (old new : LockEvents) (bound more : ℕ) (cancelled flags moved : List Bool) → bound ≤ more → Shrinks old new → ((s : ℕ) (w : Wanted) → wanted new s ≡ Some w → slice_index_or cancelled s false ≡ false → slice_index_or flags s false ≡ false)
    → ((s : ℕ) (w : Wanted) → wanted old s ≡ Some w → Stands n bound cancelled moved s w) → (s : ℕ) (w : Wanted) → wanted new s ≡ Some w → Stands n more flags (replicate n true) s w
given_up_waits n old new bound more cancelled flags moved le f off stand s w is =
    let r = f s w is in
    let h = stand s r.0 r.1 in
    record { known = h.known; standing = off s w is h.standing; bounded = bounded_below bound more w le (r.2 bound h.bounded); caused = all_marked n s (HasCause w) h.known }

marks_fall : (moved : List Bool) (s : ℕ) → s < length moved → slice_index_or moved s false ≡ true → sum_by of_mark (slice_set moved s false) + 1 ≡ sum_by of_mark moved
marks_fall moved s lt on = let a = mark_cleared moved s lt in let one : of_mark (slice_index_or moved s false) ≡ 1 = ap of_mark on in omega (arith, a, one)

marks_no_more : (moved : List Bool) (s : ℕ) → s < length moved → sum_by of_mark (slice_set moved s false) ≤ sum_by of_mark moved
marks_no_more moved s lt = let a = mark_cleared moved s lt in omega (arith, a)

module _ (tables : CatalogueEvents → ℕ) (n : ℕ) where
  pub ranked : (v : Database) (turn : Option ℕ) (os : List Bool) (bound : ℕ) (moved : List Bool) → IsKept tables n bound moved v turn → HasRank (IsRanked tables n) v turn os
  ranked v turn os bound moved h = record { rank = slack n bound moved v; ranked = record { bound = bound; moved = moved; kept = h; rank = refl } }

  pub lower : (v : Database) (turn : Option ℕ) (os : List Bool) (bound : ℕ) (moved : List Bool) (k : ℕ) → IsKept tables n bound moved v turn → slack n bound moved v < k → HasLower (IsRanked tables n) v turn os k
  lower v turn os bound moved k h less = record { rank = slack n bound moved v; ranked = record { bound = bound; moved = moved; kept = h; rank = refl }; below = less }

  -- ---- the beginning

  pub empty_kept : (o : Options) (m : ℕ) → m ≡ n → n ≤ 128 → IsKept tables n (tables []) (replicate n false) (empty o m) None
  empty_kept o m same few = record {
    few = few;
    sessions = same;
    cancelled = length-replicate m false ∙ same;
    rests = length-replicate m None ∙ same;
    marks = length-replicate n false;
    known = λ s. subst IsKnown (sym (no_rest m s)) tt;
    sound = tt;
    waits = λ s w is. absurd (cc);
    room = omega arith;
    goes_on = tt;
  }

  pub anew_kept : (v : Database) → v.sessions ≡ n → n ≤ 128 → IsKept tables n (tables []) (replicate n false) (anew v) None
  anew_kept v same few =
      let k = empty_kept v.options v.sessions same few in
      record { few = k.few; sessions = k.sessions; cancelled = k.cancelled; rests = k.rests; marks = k.marks; known = k.known; sound = k.sound; waits = k.waits; room = k.room; goes_on = tt }

  -- ---- the turn

  pub turned : (v : Database) (old new : Option ℕ) (bound : ℕ) (moved : List Bool) → IsKept tables n bound moved v old → IfSome new (λ s. (s < n) × (wanted (lock_events v.history) s ≡ None)) → IsKept tables n bound moved v new
  turned v old new bound moved h turn = record {
    few = h.few;
    sessions = h.sessions;
    cancelled = h.cancelled;
    rests = h.rests;
    marks = h.marks;
    known = h.known;
    sound = h.sound;
    waits = h.waits;
    room = h.room;
    goes_on = turn;
  }

  -- ---- transactions

  pub ended_kept : (v : Database) (old new : Option ℕ) (bound : ℕ) (moved : List Bool) (e : TxEvent) (s : ℕ) → IsKept tables n bound moved v old → IfSome new (λ r. (r < n) × (wanted (lock_events v.history) r ≡ None))
      → IsKept tables n bound (replicate n true) (happened v (ended e s)) new
  ended_kept v old new bound moved e s h turn = record {
    few = h.few;
    sessions = h.sessions;
    cancelled = h.cancelled;
    rests = h.rests;
    marks = length-replicate n true;
    known = h.known;
    sound = (tt, (tt, (tt, h.sound)));
    waits = given_up_waits n (lock_events v.history) (lock_events (ended e s ++ v.history)) bound bound v.cancelled v.cancelled moved (omega arith) (given_up_shrinks s (lock_events v.history)) (λ r w is off. off) h.waits;
    room = h.room;
    goes_on = idle_on new n (lock_events v.history) (lock_events (ended e s ++ v.history)) (given_up_shrinks s (lock_events v.history)) turn;
  }

  -- ---- a wait is withdrawn

  pub cancels_kept : (v : Database) (old new : Option ℕ) (bound : ℕ) (moved : List Bool) (s : ℕ) → IsKept tables n bound moved v old → IfSome new (λ r. (r < n) × (wanted (WaitWithdrawn s ∷ lock_events v.history) r ≡ None))
      → IsKept tables n bound moved (cancels v s) new
  cancels_kept v old new bound moved s h turn = record {
    few = h.few;
    sessions = h.sessions;
    cancelled = length-set v.cancelled s true ∙ h.cancelled;
    rests = h.rests;
    marks = h.marks;
    known = h.known;
    sound = (tt, h.sound);
    waits = λ r w is.
        let l = over_left s r (wanted (lock_events v.history) r) w is in
        let k = h.waits r w l.1 in
        record { known = k.known; standing = set_apart v.cancelled s r true l.0 k.standing; bounded = k.bounded; caused = k.caused };
    room = h.room;
    goes_on = turn;
  }

  flag_falls : (v : Database) (turn : Option ℕ) (bound : ℕ) (moved : List Bool) (s : ℕ) (w : Wanted) → IsKept tables n bound moved v turn → wanted (lock_events v.history) s ≡ Some w → sum_by of_flag (slice_set v.cancelled s true) < sum_by of_flag v.cancelled
  flag_falls v turn bound moved s w h is = let k = h.waits s w is in flag_set_less v.cancelled s (subst (λ m. s < m) (sym h.cancelled) k.known) k.standing

  pub cancels_less : (v : Database) (turn : Option ℕ) (bound : ℕ) (moved : List Bool) (s : ℕ) (w : Wanted) → IsKept tables n bound moved v turn → wanted (lock_events v.history) s ≡ Some w → slack n bound moved (cancels v s) < slack n bound moved v
  cancels_less v turn bound moved s w h is =
      flag_lower (unheld n bound (lock_events v.history)) (unheld n bound (lock_events v.history)) (sum_by of_flag v.cancelled) (sum_by of_flag (slice_set v.cancelled s true)) _ _ (omega arith) (flag_falls v turn bound moved s w h is)

  -- the session of the wait goes on, and its statement is to be refused
  pub own_cancelled : (v : Database) (old : Option ℕ) (os : List Bool) (bound : ℕ) (moved : List Bool) (s k : ℕ) (w : Wanted) → IsKept tables n bound moved v old → wanted (lock_events v.history) s ≡ Some w → slack n bound moved v ≤ k
      → HasLower (IsRanked tables n) (cancels v s) (Some s) os k
  own_cancelled v old os bound moved s k w h is le =
      let less = cancels_less v old bound moved s w h is in
      lower (cancels v s) (Some s) os bound moved k (cancels_kept v old (Some s) bound moved s h ((h.waits s w is).known, withdrawn_own (lock_events v.history) s)) (below le less)
    where
      below : {a b c : ℕ} → b ≤ c → a < b → a < c
      below le lt = omega (arith, le, lt)

  -- ---- waits that a statement of another session cancels

  abbrev Cut : (s bound : ℕ) → (moved : List Bool) → (v w : Database) → Type 0
  Cut s bound moved v w = IsKept tables n bound moved w (Some s) × (slack n bound moved w ≤ slack n bound moved v)

  one_cut : (v : Database) (s x bound : ℕ) (moved : List Bool) (b : Bool) → waits v x ≡ b → IsKept tables n bound moved v (Some s) → Cut s bound moved v (if b then record (cancels v x) { cut = v.cut ++ x ∷ [] } else v)
  one_cut v s x bound moved false is h = (h, omega arith)
  one_cut v s x bound moved true is h =
      let u = is_there (wanted (lock_events v.history) x) is in
      let k = cancels_kept v (Some s) (Some s) bound moved x h (h.goes_on.0, idle_after (lock_events v.history) (WaitWithdrawn x ∷ lock_events v.history) s (λ r w e. (w, (over_left x r (wanted (lock_events v.history) r) w e).1, λ m b. b)) h.goes_on.1) in (
        record { few = k.few; sessions = k.sessions; cancelled = k.cancelled; rests = k.rests; marks = k.marks; known = k.known; sound = k.sound; waits = k.waits; room = k.room; goes_on = k.goes_on },
        cut_no_higher (unheld n bound (lock_events v.history)) (unheld n bound (lock_events v.history)) (sum_by of_flag v.cancelled) (sum_by of_flag (slice_set v.cancelled x true)) _ _ _ (omega arith) (flag_falls v (Some s) bound moved x u.0 h u.1) (cut_added n x v.cut),
      )

  pub all_cut_kept : (ss : List ℕ) (v : Database) (s bound : ℕ) (moved : List Bool) → IsKept tables n bound moved v (Some s) → Cut s bound moved v (all_cut v ss)
  all_cut_kept [] v s bound moved h = (h, omega arith)
  all_cut_kept (x ∷ ss) v s bound moved h =
      let one = one_cut v s x bound moved (waits v x) refl h in
      let rest = all_cut_kept ss (cuts v x) s bound moved one.0 in
      (rest.0, twice rest.1 one.1)
    where
      twice : {a b c : ℕ} → a ≤ b → b ≤ c → a ≤ c
      twice p q = omega (arith, p, q)

  -- ---- a session goes on whose wait is over

  resumed_kept : (v : Database) (turn : Option ℕ) (bound : ℕ) (moved : List Bool) (s : ℕ) (w : Wanted) → IsKept tables n bound moved v turn → ready (lock_events v.history) ≡ Some s → wanted (lock_events v.history) s ≡ Some w
      → IsKept tables n bound (slice_set moved s false) (happened v (resumed s)) (Some s)
  resumed_kept v turn bound moved s w h is waits = record {
    few = h.few;
    sessions = h.sessions;
    cancelled = h.cancelled;
    rests = h.rests;
    marks = length-set moved s false ∙ h.marks;
    known = h.known;
    sound = (is, h.sound);
    waits = λ r u e.
        let l = over_left s r (wanted (lock_events v.history) r) u e in
        let k = h.waits r u l.1 in
        record { known = k.known; standing = k.standing; bounded = k.bounded; caused = λ off. k.caused (sym (get_or-set_other moved s r false false (λ same. l.0 (sym same))) ∙ off) };
    room = h.room;
    goes_on = ((h.waits s w waits).known, resumed_own (lock_events v.history) s);
  }

  resumed_less : (v : Database) (turn : Option ℕ) (bound : ℕ) (moved : List Bool) (s : ℕ) (w : Wanted) → IsKept tables n bound moved v turn → ready (lock_events v.history) ≡ Some s → wanted (lock_events v.history) s ≡ Some w
      → slack n bound (slice_set moved s false) (happened v (resumed s)) < slack n bound moved v
  resumed_less v turn bound moved s (Lock t m) h is waits =
      let k = h.waits s (Lock t m) waits in
      let l = lock_events v.history in
      lock_lower (unheld n bound l) (unheld n bound (WaitResumed s ∷ l)) _ _ _ _
      (unheld_less n bound l (WaitResumed s ∷ l) s t.number m (λ r x i e. still_holds l s r x i e) k.known k.bounded (lacks_wanted l s t m h.sound waits) (got_it l s t m waits))
      (marks_no_more moved s (subst (λ j. s < j) (sym h.marks) k.known))
  resumed_less v turn bound moved s (Others what) h is waits =
      let k = h.waits s (Others what) waits in
      let l = lock_events v.history in
      mark_lower (unheld n bound l) (unheld n bound (WaitResumed s ∷ l)) _ _ _ _
      (unheld_mono n bound l (WaitResumed s ∷ l) (λ r x i e. still_holds l s r x i e))
      (marks_fall moved s (subst (λ j. s < j) (sym h.marks) k.known) (marked (slice_index_or moved s false) refl k))
    where
      marked : (b : Bool) → slice_index_or moved s false ≡ b → Stands n bound v.cancelled moved s (Others what) → b ≡ true
      marked true e k = refl
      marked false e k =
          let cause : HasCause (Others what) = k.caused e in
          absurd (let c : true ≡ false = sym cause.1 ∙ ready_names (lock_events v.history) s cause.0 what is waits (k.bounded cause.0 cause.1) in cc)

  by_ready : (b : Bool) (v : Database) (os : List Bool) (k s : ℕ) → is_ready (interrupted v) s ≡ b → IsRanked tables n v None os k → (interrupted v ≡ Some s) ⊎ (ready (lock_events v.history) ≡ Some s)
      → HasLower (IsRanked tables n) (if b then record v { cut = without s v.cut } else happened v (resumed s)) (Some s) os k
  by_ready true v os k s is h on =
      let e = ready_some (interrupted v) s is in
      let flag = first_passes (is_cancelled v) v.cut s e in
      let lt : s < n = subst (λ m. s < m) h.kept.cancelled (there v.cancelled s flag) in
      let w = record v { cut = without s v.cut } in
      lower w (Some s) os h.bound h.moved k
      (record { few = h.kept.few; sessions = h.kept.sessions; cancelled = h.kept.cancelled; rests = h.kept.rests; marks = h.kept.marks; known = h.kept.known; sound = h.kept.sound; waits = h.kept.waits; room = h.kept.room; goes_on = (lt, idle (wanted (lock_events v.history) s) refl flag) })
      (subst (λ m. slack n h.bound h.moved w < m) h.rank (cut_lower (unheld n h.bound (lock_events v.history)) _ _ _ _ (cut_gone n s v.cut lt (first_in (is_cancelled v) v.cut s e))))
    where
      idle : (o : Option Wanted) → wanted (lock_events v.history) s ≡ o → is_cancelled v s ≡ true → wanted (lock_events v.history) s ≡ None
      idle None e on = e
      idle (Some u) e on = absurd (let c : false ≡ true = sym (h.kept.waits s u e).standing ∙ on in cc)
  by_ready false v os k s is h (inl e) = absurd (let c : false ≡ true = sym is ∙ (ap (λ o. is_ready o s) e ∙ is_itself s) in cc)
  by_ready false v os k s is h (inr e) =
      let w = is_there (wanted (lock_events v.history) s) (ready_waits (lock_events v.history) s e) in
      lower (happened v (resumed s)) (Some s) os h.bound (slice_set h.moved s false) k (resumed_kept v None h.bound h.moved s w.0 h.kept e w.1)
      (subst (λ m. slack n h.bound (slice_set h.moved s false) (happened v (resumed s)) < m) h.rank (resumed_less v None h.bound h.moved s w.0 h.kept e w.1))

  pub resumes_lower : (v : Database) (os : List Bool) (k s : ℕ) → IsRanked tables n v None os k → (interrupted v ≡ Some s) ⊎ (ready (lock_events v.history) ≡ Some s) → HasLower (IsRanked tables n) (resumes v s) (Some s) os k
  resumes_lower v os k s h on = by_ready (is_ready (interrupted v) s) v os k s refl h on

  -- ---- a wait that the run cancels

  cancelled_waits : (v : Database) (s : ℕ) → (waits v s ≡ true) ⊎ (head_of (queue (lock_events v.history)) ≡ Some s) → is_some (wanted (lock_events v.history) s) ≡ true
  cancelled_waits v s (inl e) = e
  cancelled_waits v s (inr e) = first_waits (lock_events v.history) s e

  pub cancelled_lower : (v : Database) (os : List Bool) (k s : ℕ) → IsRanked tables n v None os k → (waits v s ≡ true) ⊎ (head_of (queue (lock_events v.history)) ≡ Some s) → HasLower (IsRanked tables n) (cancels v s) (Some s) os k
  cancelled_lower v os k s h on = let w = is_there (wanted (lock_events v.history) s) (cancelled_waits v s on) in own_cancelled v None os h.bound h.moved s k w.0 h.kept w.1 (same h.rank)
    where
      same : {a b : ℕ} → a ≡ b → a ≤ b
      same e = omega (arith, e)
