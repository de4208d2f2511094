-- What is there where an event comes.
use Rattle.std.proofs.Common.{◌≡◌, ℕ, Bool, true, false, not, ◌&&◌, List, [], ◌∷◌, Option, Some, None, refl, subst, if◌then◌else◌, arith}
use Rattle.std.proofs.lemmas.Grind.{common_steps}
use Rattle.std.proofs.lemmas.Bool.Decides.{nat_tests}
use Rattle.schedule.specs.Rules.{Rules}
use Rattle.schedule.specs.Lists.{first, is_in}
use Rattle.schedule.specs.Run.{World, next, next_of, next_from, next_task, next_launch, next_settle, next_permutation, tellable}
use Rattle.schedule.specs.declared.run_end.RunEnd.{RunEnd}
use Rattle.schedule.specs.declared.run_end.RunEnd.TheVariants as ends
use Rattle.schedule.specs.Blocks.{seat_at}
use Rattle.schedule.specs.Run.{is_held_back, markers_hold}
use Rattle.schedule.specs.declared.task.Task.{Task}
use Rattle.schedule.specs.declared.task.Task.TheVariants.{Launch, Settle, RollBack}
use Rattle.schedule.specs.declared.event.Event.{Event}
use Rattle.schedule.specs.declared.event.Event.TheVariants.{Acts, Tells, Resumes, Cancels, Launches, Settles, RollsBack, Opens}

abbrev pub IsThere : {S : Type 0} → World S → Event → Type 0
IsThere w (Acts s) = Unit {0}
IsThere w (Tells s) = is_in s w.held ≡ true
IsThere w (Resumes s) = Unit {0}
IsThere w (Cancels s) = Unit {0}
IsThere w Launches = Unit {0}
IsThere w Settles = (t : Task) × (ts : List Task) × (w.tasks ≡ t ∷ ts)
IsThere w (RollsBack s) = (ts : List Task) × (w.tasks ≡ RollBack s ∷ ts)
IsThere w Opens = (p : List Task) × (ps : List (List Task)) × (w.permutations ≡ p ∷ ps)

first_from : (p : ℕ → Bool) (x : ℕ) (xs : List ℕ) (s : ℕ) (b : Bool) → (first p xs ≡ Some s → is_in s xs ≡ true) → (if b then Some x else first p xs) ≡ Some s → is_in s (x ∷ xs) ≡ true
first_from p x xs s true on e = let same : x ≡ s = cc in grind (arith, common_steps, nat_tests, same)
first_from p x xs s false on e = let h = on e in grind (arith, common_steps, nat_tests, h)

first_in : (p : ℕ → Bool) (xs : List ℕ) (s : ℕ) → first p xs ≡ Some s → is_in s xs ≡ true
first_in p [] s e = absurd (cc)
first_in p (x ∷ xs) s e = first_from p x xs s (p x) (first_in p xs s) e

event_is : (a b : Event) → Some a ≡ Some b → a ≡ b
event_is a b e = cc

module _ {S : Type 0} (R : Rules S) (w : World S) where
  launch_there : (s : ℕ) (u h : Bool) → is_in s w.held ≡ h → IsThere w (next_launch u h s)
  launch_there s true h j = tt
  launch_there s false true j = j
  launch_there s false false j = tt

  settle_there : (ts : List Task) → w.tasks ≡ Settle ∷ ts → (o : Option ℕ) → IsThere w (next_settle o)
  settle_there ts is (Some s) = tt
  settle_there ts is None = (Settle, ts, is)

  permutation_there : (ps : List (List Task)) → w.permutations ≡ ps → (e : Event) → next_permutation ps ≡ Some e → IsThere w e
  permutation_there [] is e i = absurd (cc)
  permutation_there (p ∷ ps) is e i = subst (IsThere w) (event_is Opens e i) (p, ps, is)

  task_there : (ts : List Task) → w.tasks ≡ ts → (e : Event) → next_task R w ts ≡ Some e → IsThere w e
  task_there [] is e i = permutation_there w.permutations refl e i
  task_there (Launch b ∷ ts) is e i =
      subst (IsThere w) (event_is (next_launch (R.waits w.db b.session) (is_in b.session w.held) b.session) e i) (launch_there b.session (R.waits w.db b.session) (is_in b.session w.held) refl)
  task_there (Settle ∷ ts) is e i =
      subst (IsThere w) (event_is (next_settle (R.oldest w.db)) e i) (settle_there ts is (R.oldest w.db))
  task_there (RollBack s ∷ ts) is e i = subst (IsThere w) (event_is (RollsBack s) e i) (ts, is)

  from_there : (t i l r : Option ℕ) → tellable w.tasks w.seats w.last w.held ≡ l → (e : Event) → next_from R w t i l r ≡ Some e → IsThere w e
  from_there (Some s) i l r c e is = subst (IsThere w) (event_is (Acts s) e is) tt
  from_there None (Some s) l r c e is = subst (IsThere w) (event_is (Resumes s) e is) tt
  from_there None None (Some s) r c e is = subst (IsThere w) (event_is (Tells s) e is) (first_in (λ s. not (markers_hold w.tasks && is_held_back w.seats w.last s (seat_at w.seats s))) w.held s c)
  from_there None None None (Some s) c e is = subst (IsThere w) (event_is (Resumes s) e is) tt
  from_there None None None None c e is = task_there w.tasks refl e is

  of_there : (end : RunEnd) (e : Event) → next_of R w end ≡ Some e → IsThere w e
  of_there ends.All e is = from_there w.turn (R.interrupted w.db) (tellable w.tasks w.seats w.last w.held) (R.ready w.db) refl e is
  of_there (ends.SetupFailed s f) e is = absurd (cc)
  of_there (ends.TeardownFailed f) e is = absurd (cc)

  pub there : (e : Event) → next R w ≡ Some e → IsThere w e
  there e is = of_there w.end e is
