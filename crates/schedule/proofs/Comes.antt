-- When each event comes.
use Rattle.std.proofs.Common.{◌≡◌, ℕ, Bool, true, false, List, [], ◌∷◌, ◌⊎◌, Option, Some, None, refl, subst, sym, ap, ◌∙◌, inl, inr}
use Rattle.schedule.specs.Rules.{Rules}
use Rattle.schedule.specs.Lists.{is_in}
use Rattle.schedule.specs.Run.{World, next, next_of, next_from, next_task, next_launch, next_settle, next_permutation, tellable}
use Rattle.schedule.specs.Comes.{Comes, IsIdle, IsUndisturbed, HasTold, Rests, CanLaunch, HasToTell, HasToStop, EndIsNext, RollBackIsNext, OthersFollow}
use Rattle.schedule.specs.declared.run_end.RunEnd.{RunEnd}
use Rattle.schedule.specs.declared.run_end.RunEnd.TheVariants as ends
use Rattle.schedule.specs.Blocks.{BlockView}
use Rattle.schedule.specs.declared.task.Task.{Task}
use Rattle.schedule.specs.declared.task.Task.TheVariants.{Launch, Settle, RollBack}
use Rattle.schedule.specs.declared.event.Event.{Event}
use Rattle.schedule.specs.declared.event.Event.TheVariants.{Acts, Tells, Resumes, Cancels, Launches, Settles, RollsBack, Opens}

event_is : (a b : Event) → Some a ≡ Some b → a ≡ b
event_is a b e = cc

module _ {S : Type 0} (R : Rules S) (w : World S) (rests : Rests R w) where
  launch_comes : (b : BlockView) (ts : List Task) → w.tasks ≡ Launch b ∷ ts → (u h : Bool) → R.waits w.db b.session ≡ u → is_in b.session w.held ≡ h → Comes R w (next_launch u h b.session)
  launch_comes b ts is true h i j = (rests, inl (rw is (refl, i)))
  launch_comes b ts is false true i j = inr (rests, rw is (refl, (i, j)))
  launch_comes b ts is false false i j = (rests, rw is (i, j))

  settle_comes : (ts : List Task) → w.tasks ≡ Settle ∷ ts → (o : Option ℕ) → R.oldest w.db ≡ o → Comes R w (next_settle o)
  settle_comes ts is (Some s) i = (rests, inr ((ts, is), i))
  settle_comes ts is None i = (rests, ((ts, is), i))

  permutation_comes : w.tasks ≡ [] → (ps : List (List Task)) → w.permutations ≡ ps → (e : Event) → next_permutation ps ≡ Some e → Comes R w e
  permutation_comes is [] j e i = absurd (cc)
  permutation_comes is (p ∷ ps) j e i = subst (Comes R w) (event_is Opens e i) (rests, (is, (p, ps, j)))

  task_comes : (ts : List Task) → w.tasks ≡ ts → (e : Event) → next_task R w ts ≡ Some e → Comes R w e
  task_comes [] is e i = permutation_comes is w.permutations refl e i
  task_comes (Launch b ∷ ts) is e i =
      subst (Comes R w) (event_is (next_launch (R.waits w.db b.session) (is_in b.session w.held) b.session) e i) (launch_comes b ts is (R.waits w.db b.session) (is_in b.session w.held) refl refl)
  task_comes (Settle ∷ ts) is e i =
      subst (Comes R w) (event_is (next_settle (R.oldest w.db)) e i) (settle_comes ts is (R.oldest w.db) refl)
  task_comes (RollBack s ∷ ts) is e i = subst (Comes R w) (event_is (RollsBack s) e i) (rests, (ts, is))

  -- ---- the other way

  pub task_is_next : next R w ≡ next_task R w w.tasks
  task_is_next =
      ap (next_of R w) rests.has_told.undisturbed.idle.going
      ∙ ap (λ t. next_from R w t (R.interrupted w.db) (tellable w.tasks w.seats w.last w.held) (R.ready w.db)) rests.has_told.undisturbed.idle.idle
      ∙ ap (λ i. next_from R w None i (tellable w.tasks w.seats w.last w.held) (R.ready w.db)) rests.has_told.undisturbed.interrupted
      ∙ ap (λ l. next_from R w None None l (R.ready w.db)) rests.has_told.told
      ∙ ap (λ r. next_from R w None None None r) rests.ready

  stops : (ts : List Task) (s : ℕ) → HasToStop R w ts s → next_task R w ts ≡ Some (Cancels s)
  stops [] s h = absurd h
  stops (Launch b ∷ ts) s h =
      subst (λ r. Some (next_launch (R.waits w.db b.session) (is_in b.session w.held) b.session) ≡ Some (Cancels r)) h.0
      (ap (λ u. Some (next_launch u (is_in b.session w.held) b.session)) (subst (λ r. R.waits w.db r ≡ true) (sym h.0) h.1))
  stops (Settle ∷ ts) s h = absurd h
  stops (RollBack r ∷ ts) s h = absurd h

  told_first : (ts : List Task) (s : ℕ) → HasToTell R w ts s → next_task R w ts ≡ Some (Tells s)
  told_first [] s h = absurd h
  told_first (Launch b ∷ ts) s h =
      subst (λ r. Some (next_launch (R.waits w.db b.session) (is_in b.session w.held) b.session) ≡ Some (Tells r)) h.0
      (ap (λ u. Some (next_launch u (is_in b.session w.held) b.session)) (subst (λ r. R.waits w.db r ≡ false) (sym h.0) h.1.0)
      ∙ ap (λ u. Some (next_launch false u b.session)) (subst (λ r. is_in r w.held ≡ true) (sym h.0) h.1.1))
  told_first (Settle ∷ ts) s h = absurd h
  told_first (RollBack r ∷ ts) s h = absurd h

  launched : (ts : List Task) → CanLaunch R w ts → next_task R w ts ≡ Some Launches
  launched [] h = absurd h
  launched (Launch b ∷ ts) h =
      ap (λ u. Some (next_launch u (is_in b.session w.held) b.session)) h.0 ∙ ap (λ u. Some (next_launch false u b.session)) h.1
  launched (Settle ∷ ts) h = absurd h
  launched (RollBack r ∷ ts) h = absurd h

  at_the_end : EndIsNext w.tasks → (o : Option ℕ) → R.oldest w.db ≡ o → next_task R w w.tasks ≡ Some (next_settle o)
  at_the_end h o i = ap (next_task R w) h.1 ∙ ap (λ p. Some (next_settle p)) i

  rolled_back : (s : ℕ) → RollBackIsNext w.tasks s → next_task R w w.tasks ≡ Some (RollsBack s)
  rolled_back s h = ap (next_task R w) h.1

  opened : w.tasks ≡ [] → OthersFollow w.permutations → next_task R w w.tasks ≡ Some Opens
  opened is h = ap (next_task R w) is ∙ ap next_permutation h.2

module _ {S : Type 0} (R : Rules S) (w : World S) where
  from_comes : w.end ≡ ends.All → (t i l r : Option ℕ) → w.turn ≡ t → R.interrupted w.db ≡ i → tellable w.tasks w.seats w.last w.held ≡ l → R.ready w.db ≡ r → (e : Event) → next_from R w t i l r ≡ Some e → Comes R w e
  from_comes g (Some s) i l r a b c d e is = subst (Comes R w) (event_is (Acts s) e is) (g, a)
  from_comes g None (Some s) l r a b c d e is = subst (Comes R w) (event_is (Resumes s) e is) (inl (record { going = g; idle = a }, b))
  from_comes g None None (Some s) r a b c d e is = subst (Comes R w) (event_is (Tells s) e is) (inl (record { idle = record { going = g; idle = a }; interrupted = b }, c))
  from_comes g None None None (Some s) a b c d e is =
      subst (Comes R w) (event_is (Resumes s) e is) (inr (record { undisturbed = record { idle = record { going = g; idle = a }; interrupted = b }; told = c }, d))
  from_comes g None None None None a b c d e is =
      task_comes R w (record { has_told = record { undisturbed = record { idle = record { going = g; idle = a }; interrupted = b }; told = c }; ready = d }) w.tasks refl e is

  of_comes : (end : RunEnd) → w.end ≡ end → (e : Event) → next_of R w end ≡ Some e → Comes R w e
  of_comes ends.All g e is = from_comes g w.turn (R.interrupted w.db) (tellable w.tasks w.seats w.last w.held) (R.ready w.db) refl refl refl refl e is
  of_comes (ends.SetupFailed s f) g e is = absurd (cc)
  of_comes (ends.TeardownFailed f) g e is = absurd (cc)

  pub comes : (e : Event) → next R w ≡ Some e → Comes R w e
  comes e is = of_comes w.end refl e is

  idle_next : (h : IsIdle w) → next R w ≡ next_from R w None (R.interrupted w.db) (tellable w.tasks w.seats w.last w.held) (R.ready w.db)
  idle_next h =
      ap (next_of R w) h.going ∙ ap (λ t. next_from R w t (R.interrupted w.db) (tellable w.tasks w.seats w.last w.held) (R.ready w.db)) h.idle

  undisturbed_next : (h : IsUndisturbed R w) → next R w ≡ next_from R w None None (tellable w.tasks w.seats w.last w.held) (R.ready w.db)
  undisturbed_next h = idle_next h.idle ∙ ap (λ i. next_from R w None i (tellable w.tasks w.seats w.last w.held) (R.ready w.db)) h.interrupted

  told_next : (h : HasTold R w) → next R w ≡ next_from R w None None None (R.ready w.db)
  told_next h = undisturbed_next h.undisturbed ∙ ap (λ l. next_from R w None None l (R.ready w.db)) h.told

  pub is_next : (e : Event) → Comes R w e → next R w ≡ Some e
  is_next (Acts s) c = ap (next_of R w) c.0 ∙ ap (λ t. next_from R w t (R.interrupted w.db) (tellable w.tasks w.seats w.last w.held) (R.ready w.db)) c.1
  is_next (Tells s) (inl c) = undisturbed_next c.0 ∙ ap (λ l. next_from R w None None l (R.ready w.db)) c.1
  is_next (Tells s) (inr c) = task_is_next R w c.0 ∙ told_first R w c.0 w.tasks s c.1
  is_next (Resumes s) (inl c) = idle_next c.0 ∙ ap (λ i. next_from R w None i (tellable w.tasks w.seats w.last w.held) (R.ready w.db)) c.1
  is_next (Resumes s) (inr c) = told_next c.0 ∙ ap (λ r. next_from R w None None None r) c.1
  is_next (Cancels s) (c, inl d) = task_is_next R w c ∙ stops R w c w.tasks s d
  is_next (Cancels s) (c, inr d) = task_is_next R w c ∙ at_the_end R w c d.0 (Some s) d.1
  is_next Launches c = task_is_next R w c.0 ∙ launched R w c.0 w.tasks c.1
  is_next Settles c = task_is_next R w c.0 ∙ at_the_end R w c.0 c.1.0 None c.1.1
  is_next (RollsBack s) c = task_is_next R w c.0 ∙ rolled_back R w c.0 s c.1
  is_next Opens c = task_is_next R w c.0 ∙ opened R w c.0 c.1.0 c.1.1

  -- ---- what callers of an event are asked for

  pub idle_at_resume : (s : ℕ) → Comes R w (Resumes s) → w.turn ≡ None
  idle_at_resume s (inl c) = c.0.idle
  idle_at_resume s (inr c) = c.0.undisturbed.idle.idle

  pub why_resumed : (s : ℕ) → Comes R w (Resumes s) → (R.interrupted w.db ≡ Some s) ⊎ (R.ready w.db ≡ Some s)
  why_resumed s (inl c) = inl c.1
  why_resumed s (inr c) = inr c.1

  waits_before : (ts : List Task) (s : ℕ) → HasToStop R w ts s → R.waits w.db s ≡ true
  waits_before [] s h = absurd h
  waits_before (Launch b ∷ ts) s h = h.1
  waits_before (Settle ∷ ts) s h = absurd h
  waits_before (RollBack r ∷ ts) s h = absurd h

  pub why_cancelled : (s : ℕ) → Comes R w (Cancels s) → (R.waits w.db s ≡ true) ⊎ (R.oldest w.db ≡ Some s)
  why_cancelled s (c, inl d) = inl (waits_before w.tasks s d)
  why_cancelled s (c, inr d) = inr d.1

  pub idle_at_rest : Rests R w → w.turn ≡ None
  idle_at_rest c = c.has_told.undisturbed.idle.idle

  none_of : (ps : List (List Task)) → next_permutation ps ≡ None → ps ≡ []
  none_of [] e = refl
  none_of (p ∷ ps) e = absurd (cc)

  task_none : (ts : List Task) → next_task R w ts ≡ None → (ts ≡ []) × (w.permutations ≡ [])
  task_none [] e = (refl, none_of w.permutations e)
  task_none (Launch b ∷ ts) e = absurd (cc)
  task_none (Settle ∷ ts) e = absurd (cc)
  task_none (RollBack s ∷ ts) e = absurd (cc)

  from_none : (t i l r : Option ℕ) → next_from R w t i l r ≡ None → (w.tasks ≡ []) × (w.permutations ≡ [])
  from_none (Some s) i l r e = absurd (cc)
  from_none None (Some s) l r e = absurd (cc)
  from_none None None (Some s) r e = absurd (cc)
  from_none None None None (Some s) e = absurd (cc)
  from_none None None None None e = task_none w.tasks e

  of_none : (end : RunEnd) → end ≡ ends.All → next_of R w end ≡ None → (w.tasks ≡ []) × (w.permutations ≡ [])
  of_none ends.All is e = from_none w.turn (R.interrupted w.db) (tellable w.tasks w.seats w.last w.held) (R.ready w.db) e
  of_none (ends.SetupFailed s f) is e = absurd (cc)
  of_none (ends.TeardownFailed f) is e = absurd (cc)

  pub all_done : w.end ≡ ends.All → next R w ≡ None → (w.tasks ≡ []) × (w.permutations ≡ [])
  all_done is e = of_none w.end is e
