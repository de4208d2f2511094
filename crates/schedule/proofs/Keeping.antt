-- What each call keeps holds in every world.
use Rattle.std.proofs.Common.{◌≡◌, ◌<◌, ℕ, suc, Bool, true, false, List, [], ◌∷◌, Option, Some, None, refl, sym, subst, ◌∙◌, if◌then◌else◌, All, length, arith, slice_set}
use Rattle.std.proofs.lemmas.List.{length-replicate}
use Rattle.std.proofs.lemmas.Grind.{common_steps, elements}
use Rattle.schedule.specs.Rules.{Rules}
use Rattle.schedule.specs.Blocks.{Seated, no_seat, seat_at}
use Rattle.schedule.specs.Tasks.{session_of, AreKnown}
use Rattle.schedule.specs.Keeps.{Keeps}
use Rattle.schedule.specs.Comes.{Comes, CanLaunch}
use Rattle.schedule.specs.Run.{World, is_held_back, tells, holds, pauses, ends, proceeds, stepped, launches_next, others, opens, effect, start, Reaches, Here, Next}
use Rattle.schedule.proofs.Comes.{comes, idle_at_resume, why_resumed, why_cancelled, idle_at_rest}
use Rattle.schedule.proofs.Tasks.{first_known, others_known}
use Rattle.schedule.specs.declared.database.Progress.{Progress}
use Rattle.schedule.specs.declared.database.Progress.TheVariants.{Goes, Waits, Ended}
use Rattle.schedule.specs.declared.block.BlockKind.{BlockKind}
use Rattle.schedule.specs.declared.block.BlockKind.TheVariants.{Setup, Step, Teardown, ControlTeardown}
use Rattle.schedule.specs.declared.task.Task.{Task}
use Rattle.schedule.specs.declared.task.Task.TheVariants.{Launch, Settle, RollBack}
use Rattle.schedule.specs.declared.event.Event.{Event}
use Rattle.schedule.specs.declared.event.Event.TheVariants.{Acts, Tells, Resumes, Cancels, Launches, Settles, RollsBack, Opens}

module _ {S : Type 0} (R : Rules S) (n : ℕ) (Q : S → Option ℕ → Type 0) (k : Keeps R n Q) where
  pub record Kept (w : World S) : Type 0 where
    pub known : AreKnown n w.tasks
    pub later : All (AreKnown n) w.permutations
    pub seats : length w.seats ≡ n
    pub property : Q w.db w.turn

  set_length : (xs : List Seated) (i : ℕ) (x : Seated) → length xs ≡ n → length (slice_set xs i x) ≡ n
  set_length xs i x e = grind (arith, common_steps, elements)

  tells_kept : (w : World S) (s : ℕ) (seat : Seated) → Kept w → Kept (tells w s seat).world
  tells_kept w s seat h = record { known = h.known; later = h.later; seats = set_length w.seats s _ h.seats; property = h.property }

  pauses_kept : (w : World S) (s : ℕ) (seat : Seated) (kind : BlockKind) → Q (R.cancelled w.db s) (Some s) → Kept w → Kept (pauses R w s seat kind).world
  pauses_kept w s seat Setup q h = record { known = h.known; later = h.later; seats = h.seats; property = q }
  pauses_kept w s seat Step q h = record { known = h.known; later = h.later; seats = set_length w.seats s _ h.seats; property = h.property }
  pauses_kept w s seat Teardown q h = record { known = h.known; later = h.later; seats = h.seats; property = q }
  pauses_kept w s seat ControlTeardown q h = record { known = h.known; later = h.later; seats = h.seats; property = q }

  held_kept : (w : World S) (s : ℕ) (seat : Seated) (b : Bool) → Kept w → Kept (if b then holds w s seat else tells w s seat).world
  held_kept w s seat true h = record { known = h.known; later = h.later; seats = set_length w.seats s _ h.seats; property = h.property }
  held_kept w s seat false h = tells_kept w s seat h

  ends_kept : (w : World S) (s : ℕ) (seat : Seated) (kind : BlockKind) → Kept w → Kept (ends R w s seat kind).world
  ends_kept w s seat Setup h = record { known = h.known; later = h.later; seats = h.seats; property = h.property }
  ends_kept w s seat Step h = held_kept w s seat (is_held_back w.seats w.last s seat) h
  ends_kept w s seat Teardown h = record { known = h.known; later = h.later; seats = h.seats; property = h.property }
  ends_kept w s seat ControlTeardown h = record { known = h.known; later = h.later; seats = h.seats; property = h.property }

  proceeds_kept : (w : World S) (s : ℕ) (seat : Seated) (p : Progress) → R.progress w.db s ≡ p → Q w.db (Some s) → Kept w → Kept (proceeds R (stepped R w s) s seat p).world
  proceeds_kept w s seat Goes is q h = record { known = h.known; later = h.later; seats = h.seats; property = k.goes w.db s q is }
  proceeds_kept w s seat Waits is q h = pauses_kept (stepped R w s) s seat seat.kind (k.paused w.db s q is) (record { known = h.known; later = h.later; seats = h.seats; property = k.waits w.db s q is })
  proceeds_kept w s seat Ended is q h = ends_kept (stepped R w s) s seat seat.kind (record { known = h.known; later = h.later; seats = h.seats; property = k.ends w.db s q is })

  tail_known : (t : Task) (ts : List Task) → All (λ u. session_of u < n) (t ∷ ts) → All (λ u. session_of u < n) ts
  tail_known t ts all i d lt = all (suc i) d (omega arith)

  others_are_known : (ts : List Task) → All (λ u. session_of u < n) ts → All (λ u. session_of u < n) (others ts)
  others_are_known [] all = all
  others_are_known (t ∷ ts) all = tail_known t ts all

  launches_kept : (w : World S) (ts : List Task) → w.tasks ≡ ts → CanLaunch R w ts → Q w.db None → Kept w → Kept (launches_next R w ts).world
  launches_kept w [] is can q h = absurd can
  launches_kept w (Launch b ∷ ts) is can q h =
      let all = subst (λ l. All (λ u. session_of u < n) l) is h.known in
      record {
        known = tail_known (Launch b) ts all;
        later = h.later;
        seats = set_length w.seats b.session _ h.seats;
        property = k.begun w.db b.session b.kind b.text q (all 0 (Launch b) (omega arith)) can.0;
      }
  launches_kept w (Settle ∷ ts) is can q h = absurd can
  launches_kept w (RollBack s ∷ ts) is can q h = absurd can

  opens_kept : (w : World S) (ps : List (List Task)) → w.permutations ≡ ps → Q w.db None → Kept w → Kept (opens R w ps).world
  opens_kept w [] is q h = h
  opens_kept w (p ∷ ps) is q h = record {
    known = first_known n p ps w.permutations is h.later;
    later = others_known n p ps w.permutations is h.later;
    seats = length-replicate (length w.seats) no_seat ∙ h.seats;
    property = k.fresh w.db q;
  }

  event_kept : (w : World S) (e : Event) → Comes R w e → Kept w → Kept (effect R w e).world
  event_kept w (Acts s) c h = proceeds_kept w s (seat_at w.seats s) (R.progress w.db s) refl (subst (Q w.db) c.1 h.property) h
  event_kept w (Tells s) c h = tells_kept w s (seat_at w.seats s) h
  event_kept w (Resumes s) c h = record { known = h.known; later = h.later; seats = h.seats; property = k.resumed w.db s (subst (Q w.db) (idle_at_resume R w s c) h.property) (why_resumed R w s c) }
  event_kept w (Cancels s) c h = record { known = h.known; later = h.later; seats = h.seats; property = k.cancelled w.db s (subst (Q w.db) (idle_at_rest R w c.0) h.property) (why_cancelled R w s c) }
  event_kept w Launches c h = launches_kept w w.tasks refl c.1 (subst (Q w.db) (idle_at_rest R w c.0) h.property) h
  event_kept w Settles c h = record { known = others_are_known w.tasks h.known; later = h.later; seats = h.seats; property = h.property }
  event_kept w (RollsBack s) c h = record {
    known = others_are_known w.tasks h.known;
    later = h.later;
    seats = h.seats;
    property = subst (Q (R.rolled_back w.db s)) (sym (idle_at_rest R w c.0)) (k.rolled_back w.db s (subst (Q w.db) (idle_at_rest R w c.0) h.property));
  }
  event_kept w Opens c h = opens_kept w w.permutations refl (subst (Q w.db) (idle_at_rest R w c.0) h.property) h

  pub along : (w : World S) (a : List ℕ) (x : World S) → Reaches R w a x → Kept w → Kept x
  along w a x (Here w' lines last none same) h = rw same h
  along w a x (Next w' lines last e rest is front on) h = along (effect R w e).world rest x on (event_kept w e (comes R w e is) h)

  pub first_world : (v : S) (ps : List (List Task)) → Q v None → All (AreKnown n) ps → Kept (start R v n ps)
  first_world v ps q later = record {
    known = λ i d lt. absurd (omega arith);
    later = later;
    seats = length-replicate n no_seat;
    property = q;
  }
