-- A lock table after a wait began or was over.
use Rattle.std.proofs.Common.{◌≡◌, ◌≢◌, ℕ, zero, suc, ◌+◌, ◌*◌, ◌<◌, ◌≤◌, ◌==◌, ◌&&◌, ◌||◌, not, Bool, true, false, arith, refl, sym, ap, subst, ◌∙◌, List, [], ◌∷◌, ◌++◌, length, get_or, slice_index_or, slice_set, Some, None, Option, is_some, eqb, nat_eq, length-append, filter}
use Rattle.std.specs.List.{list_any, AllPairs}
use Rattle.std.proofs.lemmas.Grind.{common_steps, elements}
use Rattle.std.proofs.lemmas.Bool.Decides.{nat_tests, Decides-eqb}
use Rattle.std.proofs.lemmas.List.Folds.{list_any-append}
use Rattle.std.proofs.lemmas.List.Quantifiers.{all_pairs_push}
use Rattle.std.proofs.lemmas.List.Kept.{AllPairs-filter}
use Rattle.std.proofs.lemmas.Map.Made.{IsDistinct-from_AllPairs}
use Rattle.std.proofs.lemmas.Map.Steps.{length-le_from_distinct_below}
use Rattle.std.proofs.lemmas.Map.Views.{any-filter_same}
use Rattle.pg_values.specs.Sets.{has}
use Rattle.pg_values.specs.declared.ids.TableNo.{TableNo}
use Rattle.pg_values.specs.declared.lock_mode.LockMode.{LockMode}
use Rattle.pg_values.specs.declared.session_set.SessionSet.{SessionSet}
use Rattle.history.specs.declared.wait.WaitOn.TheVariants.{Ends, Snapshots}
use Rattle.history.specs.declared.wait.Wanted.{Wanted}
use Rattle.history.specs.declared.wait.Wanted.TheVariants.{Lock, Others}
use Rattle.history.specs.Locks.{LockEvents, WaitBegan, WaitResumed, WaitWithdrawn, removed, queue, is_lock, wanted, after_end, after_snapshot}
use Rattle.history.specs.Waits.{ready, is_cause, IsFree}
use Rattle.history.specs.LocksSound.{IsWaitSound}
use Rattle.history.specs.History.{History, lock_events}
use Rattle.lock_table.specs.Answers.{after}
use Rattle.lock_table.specs.declared.asked.Asked.TheVariants.{Granted}
use Rattle.lock_table.specs.Kept.{KeptLocks, held_at}
use Rattle.lock_table.specs.Stands.{IsKept, IsKnown, IsPlaced, Tells, StandsFor, TableStands, kept_of, waiting, over}

-- who is queued has a place
any_at : (q : List ℕ) (k d : ℕ) → k < length q → list_any (nat_eq (get_or q k d)) q ≡ true
any_at [] k d lt = absurd (omega arith)
any_at (x ∷ q) zero d lt = grind (arith, common_steps, nat_tests)
any_at (x ∷ q) (suc k) d lt = grind (arith, common_steps, nat_tests, any_at q k d (omega (arith, lt)))

pub apart : (q : List ℕ) (s : ℕ) → list_any (nat_eq s) q ≡ false → (k d : ℕ) → k < length q → get_or q k d ≢ s
apart q s none k d lt e = absurd (grind (arith, common_steps, any_at q k d lt))

-- one more wait
pub waited_kept : (k : KeptLocks) (s : ℕ) (w : Wanted) → IsKept k → s < length k.wants → slice_index_or k.wants s None ≡ None → IsKnown k.tables (Some w)
    → IsKept (waiting k s w)
waited_kept k s w kept lt free table = record {
  few = grind (arith, common_steps, kept.few);
  apart = all_pairs_push (λ x y. x ≢ y) k.queue s kept.apart (apart k.queue s (kept.each s ∙ ap is_some free));
  each = λ r. grind (arith, common_steps, elements, nat_tests, list_any-append (nat_eq r) k.queue (s ∷ []), kept.each r);
  known = λ r t m e. grind (arith, common_steps, elements, kept.known r t m, table t m);
}

-- there is a place for it
pub has_place : (k : KeptLocks) (s : ℕ) → IsKept k → s < length k.wants → slice_index_or k.wants s None ≡ None → length k.queue < length k.wants
has_place k s kept lt free =
    let pairs = all_pairs_push (λ x y. x ≢ y) k.queue s kept.apart (apart k.queue s (kept.each s ∙ ap is_some free)) in
    let most = length-le_from_distinct_below (k.queue ++ s ∷ []) (length k.wants) (IsDistinct-from_AllPairs Decides-eqb _ pairs)
    (λ r e. grind (arith, common_steps, elements, nat_tests, list_any-append (nat_eq r) k.queue (s ∷ []), kept.each r)) in
    omega (arith, most, length-append k.queue (s ∷ []))

pub over_kept : (k : KeptLocks) (s : ℕ) → IsKept k → s < length k.wants → IsKept (over k s)
over_kept k s kept lt = record {
  few = grind (arith, common_steps, kept.few);
  apart = AllPairs-filter (λ x y. x ≢ y) _ k.queue kept.apart;
  each = λ r. any-filter_same (nat_eq r) (λ x. not (s == x)) (not (s == r)) (λ i e. grind (arith, common_steps, nat_tests)) k.queue ∙ grind (arith, common_steps, elements, nat_tests, kept.each r);
  known = λ r t m e. grind (arith, common_steps, elements, kept.known r t m);
}

-- what a session waits for, and the locks that it gets with it, have their places
pub known_placed : (n places : ℕ) (w : Option Wanted) → 8 * n ≤ places → IsKnown n w → IsPlaced places w
known_placed n places w room known table m e = let lt = known table m e in omega arith

pub given_kept : (k : KeptLocks) (held : List SessionSet) → IsKept k → IsKept (kept_of k.tables held k.wants k.queue)
given_kept k held kept = record { few = kept.few; apart = kept.apart; each = kept.each; known = kept.known }

pub withdrew_stands : (k : KeptLocks) (h : LockEvents) (s : ℕ) → s < length k.wants → StandsFor k h → StandsFor (over k s) (WaitWithdrawn s ∷ h)
withdrew_stands k h s lt st = record {
  sound = (tt, st.sound);
  tells = record {
    held = st.tells.held;
    wants = λ r. grind (arith, common_steps, elements, nat_tests, st.tells.wants r);
    queue = ap (removed s) st.tells.queue;
  };
}

-- the session got what it waited for, and its wait was over
pub resumed_stands : (k : KeptLocks) (held : List SessionSet) (h : LockEvents) (s : ℕ) → s < length k.wants → ready h ≡ Some s
    → ((x t : ℕ) (m : LockMode) → has (held_at held t m) x ≡ (((s == x) && is_lock t m (slice_index_or k.wants s None)) || has (held_at k.held t m) x))
    → StandsFor k h → StandsFor (over (kept_of k.tables held k.wants k.queue) s) (WaitResumed s ∷ h)
resumed_stands k held h s lt first more st = record {
  sound = (first, st.sound);
  tells = record {
    held = λ x t m. more x t m ∙ rw (st.tells.wants s, st.tells.held x t m) refl;
    wants = λ r. grind (arith, common_steps, elements, nat_tests, st.tells.wants r);
    queue = ap (removed s) st.tells.queue;
  };
}

-- what is kept tells of a wait that began
pub waited_tells : (k : KeptLocks) (h : LockEvents) (s : ℕ) (w : Wanted) → s < length k.wants → Tells k.held k.wants k.queue h → Tells (waiting k s w).held (waiting k s w).wants (waiting k s w).queue (WaitBegan s w ∷ h)
waited_tells k h s w lt told = record {
  held = told.held;
  wants = λ r. grind (arith, common_steps, elements, nat_tests, told.wants r);
  queue = ap (λ q. q ++ s ∷ []) told.queue;
}

pub waited_stands : (k : KeptLocks) (h : LockEvents) (s : ℕ) (w : Wanted) → s < length k.wants → IsWaitSound s w h → StandsFor k h → StandsFor (waiting k s w) (WaitBegan s w ∷ h)
waited_stands k h s w lt sound st = record { sound = (sound, st.sound); tells = waited_tells k h s w lt st.tells }

-- what was asked for was granted
pub granted_stands : (k : KeptLocks) (held : List SessionSet) (h : History) (s : ℕ) (w : Wanted) → s < 65 → slice_index_or k.wants s None ≡ None → IsFree (lock_events h) s w
    → ((x t : ℕ) (m : LockMode) → has (held_at held t m) x ≡ (((s == x) && is_lock t m (Some w)) || has (held_at k.held t m) x))
    → TableStands k h → TableStands (kept_of k.tables held k.wants k.queue) (after s w Granted h)
granted_stands k held h s (Lock table mode) low idle free more st = record {
  sound = (record { session = omega arith; idle = sym (st.tells.wants s) ∙ idle; free = free }, st.sound);
  tells = record {
    held = λ x t m. more x t m ∙ rw (st.tells.held x t m) refl;
    wants = st.tells.wants;
    queue = st.tells.queue;
  };
}
granted_stands k held h s (Others what) low idle free more st = record {
  sound = st.sound;
  tells = record {
    held = λ x t m. more x t m ∙ unheld (s == x) (has (held_at k.held t m) x) ∙ st.tells.held x t m;
    wants = st.tells.wants;
    queue = st.tells.queue;
  };
}
  where
    unheld : (a b : Bool) → ((a && false) || b) ≡ b
    unheld true b = refl
    unheld false b = refl

back_in_place : (ws : List (Option Wanted)) (s : ℕ) (w : Option Wanted) → s < length ws → slice_index_or ws s None ≡ None → slice_set (slice_set ws s w) s None ≡ ws
back_in_place [] s w lt idle = absurd (omega arith)
back_in_place (x ∷ ws) zero w lt idle = ap (λ y. y ∷ ws) (sym idle)
back_in_place (x ∷ ws) (suc s) w lt idle = ap (λ ys. x ∷ ys) (back_in_place ws s w (omega (arith, lt)) idle)

back_in_queue : (q : List ℕ) (s : ℕ) → list_any (nat_eq s) q ≡ false → removed s (q ++ s ∷ []) ≡ q
back_in_queue [] s none = grind (arith, common_steps, nat_tests)
back_in_queue (x ∷ q) s none = grind (arith, common_steps, nat_tests, back_in_queue q s, none)

-- a wait that was taken back leaves what there was
pub taken_back : (k : KeptLocks) (s : ℕ) (w : Wanted) → s < length k.wants → slice_index_or k.wants s None ≡ None → list_any (nat_eq s) k.queue ≡ false → over (waiting k s w) s ≡ k
taken_back k s w lt idle none = rw (back_in_place k.wants s (Some w) lt idle, back_in_queue k.queue s none) refl
