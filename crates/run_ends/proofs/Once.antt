-- A statement of the course commits what it did first once at most.
use Rattle.std.proofs.Common.{◌≡◌, ◌<◌, ℕ, Bool, true, false, List, [], ◌∷◌, ◌++◌, Option, Some, None, refl, ap, sym, subst, ◌∙◌, if◌then◌else◌, length, slice_index_or, slice_set, get_or-set_other, get_or-set_same}
use Rattle.pg_values.specs.declared.fault.Fault.{Fault}
use Rattle.history.specs.Catalogue.{CatalogueEvents}
use Rattle.schedule.specs.Lists.{without}
use Rattle.sessions.specs.Commits.{CommitsOnce}
use Rattle.sessions.specs.declared.asker.Asker.{Asker}
use Rattle.sessions.specs.declared.settings.Settings.{Settings}
use Rattle.sql_ast.specs.Statements.{StatementTree}
use Rattle.stores.specs.Events.{resumed}
use Rattle.statement_steps.specs.declared.rest.Rest.{Rest}
use Rattle.statement_runs.specs.Database.{Database, course, waits, cancels, cuts, all_cut, cut_by, interrupted, is_ready, happened, caller_of, command_of, refusal_of, rest_of, prepared_of, rest_told, outcome_told, attempt_of, refused_or}
use Rattle.statement_runs.specs.Attempted.{attempted}
use Rattle.statement_runs.specs.Roles as roles
use Rattle.statement_runs.specs.Roles.{cancelled_by}
use Rattle.statement_runs.proofs.StatementsOnce.{all_once}
use Rattle.run_ends.specs.Executors.{CommitOnceIn}
use Rattle.run_ends.specs.StatementRank.{IsRanked, has_committed}

module _ (tables : CatalogueEvents → ℕ) (n : ℕ) where
  one_cut : (v : Database) (x : ℕ) (b : Bool) → (if b then record (cancels v x) { cut = v.cut ++ x ∷ [] } else v).rests ≡ v.rests
  one_cut v x true = refl
  one_cut v x false = refl

  pub all_cut_rests : (ss : List ℕ) (v : Database) → (all_cut v ss).rests ≡ v.rests
  all_cut_rests [] v = refl
  all_cut_rests (x ∷ ss) v = all_cut_rests ss (cuts v x) ∙ one_cut v x (waits v x)

  resumed_rests : (v : Database) (s : ℕ) (b : Bool) → (if b then record v { cut = without s v.cut } else happened v (resumed s)).rests ≡ v.rests
  resumed_rests v s true = refl
  resumed_rests v s false = refl

  same_rest : (x : Option Rest) (rests : List (Option Rest)) (s : ℕ) (t : StatementTree) → slice_index_or rests s None ≡ x → roles.has_committed (slice_index_or rests s None) t ≡ roles.has_committed x t
  same_rest x rests s t e = ap (λ r. roles.has_committed r t) e

  attempt_once : (o : Option Fault) (v : Database) (a : Asker) (g : Settings) (t : StatementTree)
      → CommitsOnce (roles.has_committed (rest_of v a.session) t)
      (roles.has_committed (rest_told (refused_or o (attempted v.options (caller_of v.sessions (command_of v a.session) a) (rest_of v a.session) g (prepared_of v a.session) t v.history)).told) t)
      (outcome_told (refused_or o (attempted v.options (caller_of v.sessions (command_of v a.session) a) (rest_of v a.session) g (prepared_of v a.session) t v.history)).told)
  attempt_once (Some f) v a g t = tt
  attempt_once None v a g t = all_once v.options (caller_of v.sessions (command_of v a.session) a) (rest_of v a.session) v.history g (prepared_of v a.session) t

  pub course_once : CommitOnceIn course has_committed (IsRanked tables n)
  course_once = record {
    began = λ v s r t. refl;
    committed = λ v s r t. refl;
    aborted = λ v s r t. refl;
    resumed = λ v s r t. ap (λ rests. roles.has_committed (slice_index_or rests r None) t) (resumed_rests v s (is_ready (interrupted v) s));
    cancelled = λ v s r t. refl;
    once = λ v os k a g t h.
        let w = cut_by v a t in
        let rests = all_cut_rests (cancelled_by a.session v.sessions (prepared_of v a.session) t) v in
        let m = attempt_of w a g t in
        let lt : a.session < length w.rests = subst (λ l. a.session < l) (sym (ap length rests ∙ h.kept.rests)) h.kept.goes_on.0 in
        let after : slice_index_or (slice_set w.rests a.session (rest_told m.told)) a.session None ≡ rest_told m.told = get_or-set_same w.rests a.session (rest_told m.told) None lt in
        let before : rest_of w a.session ≡ rest_of v a.session = ap (λ l. slice_index_or l a.session None) rests in
        subst (λ r. CommitsOnce (roles.has_committed r t) (roles.has_committed (slice_index_or (slice_set w.rests a.session (rest_told m.told)) a.session None) t) (outcome_told m.told)) before
        (subst (λ r. CommitsOnce (roles.has_committed (rest_of w a.session) t) (roles.has_committed r t) (outcome_told m.told)) (sym after) (attempt_once (refusal_of w a.session) w a g t));
    others = λ v a g t r u other.
        let w = cut_by v a t in
        let rests = all_cut_rests (cancelled_by a.session v.sessions (prepared_of v a.session) t) v in
        let m = attempt_of w a g t in
        ap (λ x. roles.has_committed x u) (get_or-set_other w.rests a.session r (rest_told m.told) None other ∙ ap (λ l. slice_index_or l r None) rests);
  }
