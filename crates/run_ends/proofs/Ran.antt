-- What a statement leaves of a rank.
use Rattle.std.proofs.Common.{◌≡◌, ◌<◌, ◌≤◌, ℕ, ◌+◌, ◌⊎◌, Bool, true, false, List, [], ◌∷◌, ◌++◌, Option, Some, None, Result, Ok, Err, refl, ap, sym, subst, ◌∙◌, inl, inr, length, replicate, slice_index_or, slice_set, arith, length-set, get_or-set_other, get_or-set_same}
use Rattle.std.specs.List.{sum_by}
use Rattle.std.proofs.lemmas.Bool.{cases_eq}
use Rattle.std.proofs.lemmas.List.{length-replicate}
use Rattle.pg_values.specs.declared.fault.Fault.{Fault}
use Rattle.history.specs.declared.wait.Wanted.{Wanted}
use Rattle.history.specs.Catalogue.{CatalogueEvents}
use Rattle.history.specs.History.{History, lock_events, catalogue_events}
use Rattle.history.specs.Locks.{SnapshotGone, wanted}
use Rattle.history.specs.LocksSound.{AreLocksSound}
use Rattle.schedule.specs.declared.tally.Tally.{Tally}
use Rattle.sessions.specs.declared.asker.Asker.{Asker}
use Rattle.sessions.specs.declared.outcome.Outcome.TheVariants as outcomes
use Rattle.pg_values.specs.declared.isolation.Isolation.{Isolation}
use Rattle.pg_values.specs.declared.isolation.Isolation.TheVariants.{ReadCommitted, ReadUncommitted, RepeatableRead}
use Rattle.sql_ast.specs.Statements.{StatementTree}
use Rattle.stores.specs.Events.{let_go}
use Rattle.statement_steps.specs.Ended.{Ended, Done, Commits}
use Rattle.statement_steps.specs.Made.{Made, Halt, Waits, Refused, halted}
use Rattle.statement_steps.specs.declared.rest.Rest.{Rest}
use Rattle.statement_runs.specs.Database.{Database, is_cancelled, rest_of, command_of, goes_on, given_up, let_go_at, number_then, refusal_of, refused_first, refused_or, rest_told, prepared_of, prepared_then, outcome_told}
use Rattle.statement_runs.specs.Tallies.{added}
use Rattle.statement_runs.specs.Weight.{of_flag}
use Rattle.run_ends.specs.Asking.{IsWaiting, WaitsAsTold, IsKnown, Asks}
use Rattle.run_ends.specs.StatementRank.{unheld, slack, Stands, IsKept}
use Rattle.run_ends.proofs.Shrinking.{Shrinks, bounded_below, snapshot_shrinks, shrinks_twice, idle_after}
use Rattle.run_ends.proofs.Kept.{set_apart, cleared, given_up_waits}
use Rattle.run_ends.proofs.Sums.{unheld_mono, flags_same, lock_no_higher}

-- ---- what is given up behind a statement

let_go_is : (level : Isolation) (s : ℕ) → (let_go_at level s ≡ []) ⊎ (let_go_at level s ≡ let_go s)
let_go_is ReadCommitted s = inr refl
let_go_is ReadUncommitted s = inr refl
let_go_is RepeatableRead s = inl refl

given_is : (level : Isolation) (s : ℕ) (rest : Option Rest) (r : Result Ended Halt) → (given_up level s rest r ≡ []) ⊎ (given_up level s rest r ≡ let_go s)
given_is level s None r = inl refl
given_is level s (Some rest) (Ok (Done text)) = let_go_is level s
given_is level s (Some rest) (Ok (Commits d)) = inl refl
given_is level s (Some rest) (Err stop) = inl refl

given_waits : (level : Isolation) (s : ℕ) (rest : Option Rest) (r : Result Ended Halt) → outcome_told r ≡ outcomes.Waits → given_up level s rest r ≡ []
given_waits level s None r e = refl
given_waits level s (Some rest) (Ok (Done text)) e = absurd (cc)
given_waits level s (Some rest) (Ok (Commits d)) e = refl
given_waits level s (Some rest) (Err stop) e = refl

-- ---- whether it waits

waits_told : (s : ℕ) (tables : CatalogueEvents → ℕ) (earlier later : History) (r : Result Ended Halt) → outcome_told r ≡ outcomes.Waits → WaitsAsTold tables s earlier later r → IsWaiting tables s earlier later
waits_told s tables earlier later (Ok (Done text)) e h = absurd (cc)
waits_told s tables earlier later (Ok (Commits d)) e h = absurd (cc)
waits_told s tables earlier later (Err (Waits rest)) e h = h
waits_told s tables earlier later (Err (Refused f)) e h = absurd (cc)

idle_told : (s : ℕ) (tables : CatalogueEvents → ℕ) (earlier later : History) (r : Result Ended Halt) → (outcome_told r ≡ outcomes.Waits → ⊥) → WaitsAsTold tables s earlier later r → wanted (lock_events later) s ≡ None
idle_told s tables earlier later (Ok x) e h = h
idle_told s tables earlier later (Err (Waits rest)) e h = absurd (e refl)
idle_told s tables earlier later (Err (Refused f)) e h = h

pub never_goes : (r : Result Ended Halt) → outcome_told r ≡ outcomes.Goes → ⊥
never_goes (Ok (Done text)) e = absurd (cc)
never_goes (Ok (Commits d)) e = absurd (cc)
never_goes (Err (Waits rest)) e = absurd (cc)
never_goes (Err (Refused f)) e = absurd (cc)

some_is : (a b : Wanted) → Some a ≡ Some b → a ≡ b
some_is a b e = cc

-- its session waits, and no more is left than that
pub record Waited (tables : CatalogueEvents → ℕ) (n bound : ℕ) (moved : List Bool) (session rank : ℕ) (w : Database) : Type 0 where
  pub kept : IsKept tables n bound moved w None
  pub what : Wanted
  pub waits : wanted (lock_events w.history) session ≡ Some what
  pub no_higher : slack n bound moved w ≤ rank

-- a statement that is not refused first was not cancelled
not_cancelled : (b : Bool) (n : ℕ) → refused_first b n ≡ None → b ≡ false
not_cancelled true n none = absurd (let c = none in cc)
not_cancelled false n none = refl

module _ (tables : CatalogueEvents → ℕ) (n : ℕ) (v : Database) (a : Asker) (t : StatementTree) (more : Tally) (bound : ℕ) (moved : List Bool) (h : IsKept tables n bound moved v (Some a.session)) where
  abbrev s : ℕ
  s = a.session

  -- the database with that history
  abbrev left_at : History → Made Ended → Database
  left_at g m = record v {
    history = g;
    commands = slice_set v.commands a.session (number_then (refusal_of v a.session) m.told (command_of v a.session));
    cancelled = slice_set v.cancelled a.session false;
    rests = slice_set v.rests a.session (rest_told m.told);
    prepared = slice_set v.prepared a.session (prepared_then m.told (prepared_of v a.session) t);
    tally = added v.tally more;
  }

  own : s < length v.cancelled
  own = subst (λ m. s < m) (sym h.cancelled) h.goes_on.0

  own_rest : s < length v.rests
  own_rest = subst (λ m. s < m) (sym h.rests) h.goes_on.0

  -- what is known of where statements stand

  rests_known : (m : Made Ended) → IsKnown (rest_told m.told) → (r : ℕ) → IsKnown (slice_index_or (slice_set v.rests s (rest_told m.told)) r None)
  rests_known m known r =
      elim (cases_eq r s) [
        | inl same ↦ subst IsKnown (sym (ap (λ x. slice_index_or (slice_set v.rests s (rest_told m.told)) x None) same ∙ get_or-set_same v.rests s (rest_told m.told) None own_rest)) known
        | inr other ↦ subst IsKnown (sym (get_or-set_other v.rests s r (rest_told m.told) None other)) (h.known r)
      ]

  -- ---- it waits

  waits_stand : (m : Made Ended) → Asks tables s v.history m → IsWaiting tables s v.history (m.events ++ v.history)
      → (r : ℕ) (w : Wanted) → wanted (lock_events (m.events ++ v.history)) r ≡ Some w → Stands n bound (slice_set v.cancelled s false) moved r w
  waits_stand m asks waits r w is =
      elim (cases_eq r s) [
        | inl same ↦
            let at : wanted (lock_events (m.events ++ v.history)) s ≡ Some w = subst (λ x. wanted (lock_events (m.events ++ v.history)) x ≡ Some w) same is in
            let what : waits.what ≡ w = some_is waits.what w (sym waits.waits ∙ at) in
            let k : Stands n bound (slice_set v.cancelled s false) moved s waits.what = record { known = h.goes_on.0; standing = cleared v.cancelled s own; bounded = bounded_below (tables (catalogue_events v.history)) bound waits.what h.room waits.bounded; caused = λ off. waits.caused } in
            subst (λ x. Stands n bound (slice_set v.cancelled s false) moved x w) (sym same) (subst (λ u. Stands n bound (slice_set v.cancelled s false) moved s u) what k)
        | inr other ↦
            let k = h.waits r w (sym (asks.others r other) ∙ is) in
            record { known = k.known; standing = set_apart v.cancelled s r false (λ same. other (sym same)) k.standing; bounded = k.bounded; caused = k.caused }
      ]

  waiting_kept : (m : Made Ended) → Asks tables s v.history m → IsKnown (rest_told m.told) → IsWaiting tables s v.history (m.events ++ v.history) → IsKept tables n bound moved (left_at (m.events ++ v.history) m) None
  waiting_kept m asks known waits = record {
    few = h.few;
    sessions = h.sessions;
    cancelled = length-set v.cancelled s false ∙ h.cancelled;
    rests = length-set v.rests s (rest_told m.told) ∙ h.rests;
    marks = h.marks;
    known = rests_known m known;
    sound = asks.sound;
    waits = waits_stand m asks waits;
    room = (let le = waits.no_more in let room = h.room in omega (arith, le, room));
    goes_on = tt;
  }

  waiting_no_higher : (m : Made Ended) → Asks tables s v.history m → is_cancelled v s ≡ false → slack n bound moved (left_at (m.events ++ v.history) m) ≤ slack n bound moved v
  waiting_no_higher m asks off =
      lock_no_higher (unheld n bound (lock_events v.history)) (unheld n bound (lock_events (m.events ++ v.history))) (sum_by of_flag v.cancelled) (sum_by of_flag (slice_set v.cancelled s false)) _ _
      (unheld_mono n bound (lock_events v.history) (lock_events (m.events ++ v.history)) asks.stay) (flags_same v.cancelled s false off)

  pub run_waits : (o : Option Fault) (m : Made Ended) → refusal_of v s ≡ o → Asks tables s v.history m → IsKnown (rest_told m.told) → outcome_told (refused_or o m).told ≡ outcomes.Waits → Waited tables n bound moved s (slack n bound moved v) (goes_on v a t (refused_or o m) more)
  run_waits (Some f) m is asks known e = absurd (cc)
  run_waits None m is asks known e =
      let waits = waits_told s tables v.history (m.events ++ v.history) m.told e asks.told in
      let none = given_waits a.level s (rest_of v s) m.told e in
      subst (λ g. Waited tables n bound moved s (slack n bound moved v) (left_at (g ++ (m.events ++ v.history)) m)) (sym none)
      (record { kept = waiting_kept m asks known waits; what = waits.what; waits = waits.waits; no_higher = waiting_no_higher m asks (not_cancelled (is_cancelled v s) (command_of v s) is) })

  -- ---- it does not

  -- where its session waits for nothing, and the others for no more than before
  idle_kept : (g : History) (m : Made Ended) → IsKnown (rest_told m.told) → AreLocksSound (lock_events g) → Shrinks (lock_events v.history) (lock_events g)
      → IsKept tables n (bound + tables (catalogue_events g)) (replicate n true) (left_at g m) (Some s)
  idle_kept g m known sound shrinks =
      let idle = idle_after (lock_events v.history) (lock_events g) s shrinks h.goes_on.1 in
      record {
        few = h.few;
        sessions = h.sessions;
        cancelled = length-set v.cancelled s false ∙ h.cancelled;
        rests = length-set v.rests s (rest_told m.told) ∙ h.rests;
        marks = length-replicate n true;
        known = rests_known m known;
        sound = sound;
        waits = given_up_waits n (lock_events v.history) (lock_events g) bound (bound + tables (catalogue_events g)) v.cancelled (slice_set v.cancelled s false) moved (omega arith) shrinks
            (λ r w is off. elim (cases_eq r s) [
              | inl same ↦ absurd (let c : None ≡ Some w = sym idle ∙ subst (λ x. wanted (lock_events g) x ≡ Some w) same is in cc)
              | inr other ↦ set_apart v.cancelled s r false (λ same. other (sym same)) off
            ]) h.waits;
        room = omega arith;
        goes_on = (h.goes_on.0, idle);
      }

  given_kept : (given g : History) (m : Made Ended) → (given ≡ []) ⊎ (given ≡ let_go s) → IsKnown (rest_told m.told) → AreLocksSound (lock_events g) → Shrinks (lock_events v.history) (lock_events g)
      → (b : ℕ) × IsKept tables n b (replicate n true) (left_at (given ++ g) m) (Some s)
  given_kept given g m (inl e) known sound shrinks = (bound + tables (catalogue_events g), subst (λ x. IsKept tables n (bound + tables (catalogue_events g)) (replicate n true) (left_at (x ++ g) m) (Some s)) (sym e) (idle_kept g m known sound shrinks))
  given_kept given g m (inr e) known sound shrinks = (
    bound + tables (catalogue_events g),
    subst (λ x. IsKept tables n (bound + tables (catalogue_events g)) (replicate n true) (left_at (x ++ g) m) (Some s)) (sym e)
        (idle_kept (let_go s ++ g) m known (tt, sound) (shrinks_twice (lock_events v.history) (lock_events g) (SnapshotGone s ∷ lock_events g) shrinks (snapshot_shrinks s (lock_events g)))),
  )

  -- who waits behind the statement waited before
  stay_waits : (m : Made Ended) → Asks tables s v.history m → wanted (lock_events (m.events ++ v.history)) s ≡ None → Shrinks (lock_events v.history) (lock_events (m.events ++ v.history))
  stay_waits m asks idle r w is =
      elim (cases_eq r s) [
        | inl same ↦ absurd (let c : None ≡ Some w = sym idle ∙ subst (λ x. wanted (lock_events (m.events ++ v.history)) x ≡ Some w) same is in cc)
        | inr other ↦ (w, sym (asks.others r other) ∙ is, λ k b. b)
      ]

  pub run_goes : (o : Option Fault) (m : Made Ended) → refusal_of v s ≡ o → Asks tables s v.history m → IsKnown (rest_told m.told) → (outcome_told (refused_or o m).told ≡ outcomes.Waits → ⊥)
      → (k : ℕ) × IsKept tables n k (replicate n true) (goes_on v a t (refused_or o m) more) (Some s)
  run_goes (Some f) m is asks known e =
      let x : Made Ended = halted [] (Refused f) in
      given_kept (given_up a.level s (rest_of v s) x.told) v.history x (given_is a.level s (rest_of v s) x.told) tt h.sound (λ r w waits. (w, waits, λ k b. b))
  run_goes None m is asks known e =
      given_kept (given_up a.level s (rest_of v s) m.told) (m.events ++ v.history) m (given_is a.level s (rest_of v s) m.told) known asks.sound
      (stay_waits m asks (idle_told s tables v.history (m.events ++ v.history) m.told e asks.told))
