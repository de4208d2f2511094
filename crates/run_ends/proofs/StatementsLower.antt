-- Each call of the course lowers the rank.
use Rattle.std.proofs.Common.{◌≡◌, ◌≤◌, ℕ, Bool, true, false, List, [], Option, Some, None, refl, sym, ◌∙◌, replicate, arith}
use Rattle.history.specs.Catalogue.{CatalogueEvents}
use Rattle.history.specs.Transactions.{TxCommitted, TxAborted}
use Rattle.history.specs.History.{lock_events}
use Rattle.history.specs.Locks.{wanted}
use Rattle.sessions.specs.declared.asker.Asker.{Asker}
use Rattle.sessions.specs.declared.outcome.Outcome.TheVariants as outcomes
use Rattle.sessions.specs.declared.settings.Settings.{Settings}
use Rattle.sql_ast.specs.Statements.{StatementTree}
use Rattle.stores.specs.Events.{tx_in}
use Rattle.statement_runs.specs.Attempted.{attempted}
use Rattle.statement_runs.specs.Roles.{cancelled_by}
use Rattle.statement_runs.specs.Database.{Database, course, cut_by, caller_of, command_of, refusal_of, rest_of, rest_told, outcome_told, prepared_of, anew, attempt_of, given_by, goes_on}
use Rattle.run_ends.specs.Executors.{HasRank, LowersIn}
use Rattle.run_ends.specs.Asking.{IsKnown, MayAsk, Asks, AllAsk}
use Rattle.run_ends.specs.StatementRank.{slack, IsKept, IsRanked}
use Rattle.run_ends.proofs.Kept.{ranked, anew_kept, turned, ended_kept, own_cancelled, all_cut_kept, resumes_lower, cancelled_lower, is_none}
use Rattle.run_ends.proofs.Ran.{Waited, run_waits, run_goes, never_goes}

module _ (tables : CatalogueEvents → ℕ) (asks : AllAsk tables) (n : ℕ) where
  abbrev Q : Database → Option ℕ → List Bool → ℕ → Type 0
  Q = IsRanked tables n

  may : (w : Database) (a : Asker) (bound : ℕ) (moved : List Bool) → IsKept tables n bound moved w (Some a.session) → MayAsk a.session w.history
  may w a bound moved h = record { known = (let few = h.few in let lt = h.goes_on.0 in omega (arith, few, lt)); sound = h.sound; idle = h.goes_on.1 }

  -- a statement of a session that has the turn, behind the waits that it cancels
  asked : (w : Database) (a : Asker) (g : Settings) (t : StatementTree) (bound : ℕ) (moved : List Bool) → IsKept tables n bound moved w (Some a.session)
      → Asks tables a.session w.history (attempted w.options (caller_of w.sessions (command_of w a.session) a) (rest_of w a.session) g (prepared_of w a.session) t w.history)
  asked w a g t bound moved h =
      asks.each w.options (caller_of w.sessions (command_of w a.session) a) (rest_of w a.session) w.history g (prepared_of w a.session) t (may w a bound moved h) (h.known a.session)

  stands : (w : Database) (a : Asker) (g : Settings) (t : StatementTree) (bound : ℕ) (moved : List Bool) → IsKept tables n bound moved w (Some a.session)
      → IsKnown (rest_told (attempted w.options (caller_of w.sessions (command_of w a.session) a) (rest_of w a.session) g (prepared_of w a.session) t w.history).told)
  stands w a g t bound moved h =
      asks.rests w.options (caller_of w.sessions (command_of w a.session) a) (rest_of w a.session) w.history g (prepared_of w a.session) t (may w a bound moved h) (h.known a.session)

  waited : (v : Database) (os : List Bool) (k : ℕ) (a : Asker) (g : Settings) (t : StatementTree) (h : Q v (Some a.session) os k) → outcome_told (attempt_of (cut_by v a t) a g t).told ≡ outcomes.Waits
      → Waited tables n h.bound h.moved a.session k (goes_on (cut_by v a t) a t (attempt_of (cut_by v a t) a g t) (given_by (cut_by v a t) a g t))
  waited v os k a g t h e =
      let w = cut_by v a t in
      let cut = all_cut_kept tables n (cancelled_by a.session v.sessions (prepared_of v a.session) t) v a.session h.bound h.moved h.kept in
      let r = run_waits tables n w a t (given_by w a g t) h.bound h.moved cut.0 (refusal_of w a.session) (attempted w.options (caller_of w.sessions (command_of w a.session) a) (rest_of w a.session) g (prepared_of w a.session) t w.history) refl (asked w a g t h.bound h.moved cut.0) (stands w a g t h.bound h.moved cut.0) e in
      record { kept = r.kept; what = r.what; waits = r.waits; no_higher = thrice r.no_higher cut.1 h.rank }
    where
      thrice : {x y z u : ℕ} → x ≤ y → y ≤ z → z ≡ u → x ≤ u
      thrice p q r = omega (arith, p, q, r)

  goes : (v : Database) (os : List Bool) (k : ℕ) (a : Asker) (g : Settings) (t : StatementTree) → Q v (Some a.session) os k → (outcome_told (attempt_of (cut_by v a t) a g t).told ≡ outcomes.Waits → ⊥)
      → HasRank Q (goes_on (cut_by v a t) a t (attempt_of (cut_by v a t) a g t) (given_by (cut_by v a t) a g t)) (Some a.session) os
  goes v os k a g t h e =
      let w = cut_by v a t in
      let cut = all_cut_kept tables n (cancelled_by a.session v.sessions (prepared_of v a.session) t) v a.session h.bound h.moved h.kept in
      let r = run_goes tables n w a t (given_by w a g t) h.bound h.moved cut.0 (refusal_of w a.session) (attempted w.options (caller_of w.sessions (command_of w a.session) a) (rest_of w a.session) g (prepared_of w a.session) t w.history) refl (asked w a g t h.bound h.moved cut.0) (stands w a g t h.bound h.moved cut.0) e in
      ranked tables n (goes_on w a t (attempt_of w a g t) (given_by w a g t)) (Some a.session) os r.0 (replicate n true) r.1

  pub course_lowers : LowersIn course n Q
  course_lowers = record {
    fresh = λ v os k h. ranked tables n (anew v) None _ (tables []) (replicate n false) (anew_kept tables n v h.kept.sessions h.kept.few);
    takes = λ v os k s h lt free. ranked tables n v (Some s) os h.bound h.moved (turned tables n v None (Some s) h.bound h.moved h.kept (lt, is_none (wanted (lock_events v.history) s) free));
    gives_up = λ v os k s h. record { bound = h.bound; moved = h.moved; kept = turned tables n v (Some s) None h.bound h.moved h.kept tt; rank = h.rank };
    began = λ v os k s h closed.
        ranked tables n (course.began v s) (Some s) _ h.bound h.moved
        (record { few = h.kept.few; sessions = h.kept.sessions; cancelled = h.kept.cancelled; rests = h.kept.rests; marks = h.kept.marks; known = h.kept.known; sound = h.kept.sound; waits = h.kept.waits; room = h.kept.room; goes_on = h.kept.goes_on });
    committed = λ v os k s h held. ranked tables n (course.committed v s) (Some s) _ h.bound (replicate n true) (ended_kept tables n v (Some s) (Some s) h.bound h.moved (TxCommitted s (tx_in v.history s)) s h.kept h.kept.goes_on);
    aborted = λ v os k s h held. ranked tables n (course.aborted v s) (Some s) _ h.bound (replicate n true) (ended_kept tables n v (Some s) (Some s) h.bound h.moved (TxAborted s (tx_in v.history s)) s h.kept h.kept.goes_on);
    rolled_back = λ v os k s h lt held. ranked tables n (course.aborted v s) None _ h.bound (replicate n true) (ended_kept tables n v None None h.bound h.moved (TxAborted s (tx_in v.history s)) s h.kept tt);
    goes = λ v os k a g t h held is. absurd (never_goes (attempt_of (cut_by v a t) a g t).told is);
    waits = λ v os k a g t h held is.
        let r = waited v os k a g t h is in
        record { rank = slack n h.bound h.moved (course.ran v a g t); ranked = record { bound = h.bound; moved = h.moved; kept = r.kept; rank = refl }; not_above = r.no_higher };
    paused = λ v os k a g t h held is.
        let r = waited v os k a g t h is in
        own_cancelled tables n (course.ran v a g t) None os h.bound h.moved a.session k r.what r.kept r.waits r.no_higher;
    commits = λ v os k a g t h held is. goes v os k a g t h (λ e. absurd (let c = sym is ∙ e in cc));
    done = λ v os k a g t h held is. goes v os k a g t h (λ e. absurd (let c = sym is ∙ e in cc));
    refused = λ v os k a g t f h held is. goes v os k a g t h (λ e. absurd (let c = sym is ∙ e in cc));
    resumed = λ v os k s h on. resumes_lower tables n v os k s h on;
    cancelled = λ v os k s h on. cancelled_lower tables n v os k s h on;
  }
