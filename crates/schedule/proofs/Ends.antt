-- There is one run.
use Rattle.std.proofs.Common.{◌≡◌, ℕ, List, [], ◌++◌, Option, Some, None, refl, sym, ap, subst, ◌∙◌, append_assoc, append-nil}
use Rattle.schedule.specs.Counts.{counts_of, with_event}
use Rattle.schedule.specs.Rules.{Rules}
use Rattle.schedule.specs.declared.counts.Counts.{Counts}
use Rattle.schedule.specs.declared.event.Event.{Event}
use Rattle.schedule.specs.Run.{World, effect, next, printed, Reaches, Here, Next, Throughout, Runs}

some_is : (a b : Event) (o : Option Event) → o ≡ Some a → o ≡ Some b → b ≡ a
some_is a b o p q = cc

module _ {S : Type 0} (R : Rules S) where
  -- what reaches a world is the beginning of the run
  pub beginning : (w : World S) (a b : List ℕ) (x y : World S) → Reaches R w a x → Reaches R w b y → next R y ≡ None → (rest : List ℕ) × (a ++ rest ≡ b) × Reaches R x rest y
  beginning w a b x y (Here w' lines last none same) more ends = (b, rw none refl, rw same more)
  beginning w a b x y (Next w' lines last e rest comes front on) (Here w'' lines' last' none same) ends = absurd (let h : next R w ≡ None = ap (next R) (sym same) ∙ ends in cc)
  beginning w a b x y (Next w' lines last e rest comes front on) (Next w'' lines' last' f rest' comes' front' on') ends =
      let same : f ≡ e = some_is e f (next R w) comes comes' in
      let on'' : Reaches R (effect R w e).world rest' y = subst (λ g. Reaches R (effect R w g).world rest' y) same on' in
      let r = beginning (effect R w e).world rest rest' x y on on'' ends in
      let lines' : b ≡ printed R (effect R w e) ++ rest' = front' ∙ ap (λ g. printed R (effect R w g) ++ rest') same in
      (r.0, ap (λ l. l ++ r.0) front ∙ append_assoc (printed R (effect R w e)) rest r.0 ∙ ap (λ l. printed R (effect R w e) ++ l) r.1 ∙ sym lines', r.2)

  -- from the end nothing is reached
  at_end : (w : World S) (a : List ℕ) (x : World S) → Reaches R w a x → next R w ≡ None → (a ≡ []) × (x ≡ w)
  at_end w a x (Here w' lines last none same) ends = (none, same)
  at_end w a x (Next w' lines last e rest comes front on) ends = absurd (cc)

  pub one_end : (w : World S) (a b : List ℕ) (x y : World S) → Runs R w a x → Runs R w b y → (a ≡ b) × (x ≡ y)
  one_end w a b x y p q =
      let r = beginning w a b x y p.reaches q.reaches q.ends in
      let e = at_end x r.0 y r.2 p.ends in
      (sym (append-nil a) ∙ ap (λ l. a ++ l) (sym e.0) ∙ r.1, sym e.1)

  -- what is reached lies on the way
  pub good_at : (Good : S → Type 0) (w : World S) (a : List ℕ) (x : World S) (r : Reaches R w a x) → next R x ≡ None → Throughout Good r → (b : List ℕ) (y : World S) → Reaches R w b y → Good y.db
  good_at Good w a x (Here w' lines last none same) ends well b y reaches = subst (λ (v : World S). Good v.db) (sym (at_end w b y reaches (ap (next R) (sym same) ∙ ends)).1) well
  good_at Good w a x (Next w' lines last e rest comes front on) ends well b y (Here w'' lines' last' none same) = subst (λ (v : World S). Good v.db) (sym same) well.0
  good_at Good w a x (Next w' lines last e rest comes front on) ends well b y (Next w'' lines' last' f rest' comes' front' on') =
      let same : f ≡ e = some_is e f (next R w) comes comes' in
      good_at Good (effect R w e).world rest x on ends well.1 rest' y (subst (λ g. Reaches R (effect R w g).world rest' y) same on')

  -- whatever is counted of it
  pub same_counts : (n : Counts) (w : World S) (a b : List ℕ) (x y : World S) (r : Reaches R w a x) (q : Reaches R w b y) → next R x ≡ None → next R y ≡ None → counts_of n r ≡ counts_of n q
  same_counts n w a b x y (Here w' lines last none same) (Here w'' lines' last' none' same') end end' = refl
  same_counts n w a b x y (Here w' lines last none same) (Next w'' lines' last' f rest' comes' front' on') end end' = absurd (let h : next R w ≡ None = ap (next R) (sym same) ∙ end in cc)
  same_counts n w a b x y (Next w' lines last e rest comes front on) (Here w'' lines' last' none same) end end' = absurd (let h : next R w ≡ None = ap (next R) (sym same) ∙ end' in cc)
  same_counts n w a b x y (Next w' lines last e rest comes front on) (Next w'' lines' last' f rest' comes' front' on') end end' =
      let same : f ≡ e = some_is e f (next R w) comes comes' in
      subst (λ g. (q : Reaches R (effect R w g).world rest' y) → counts_of (with_event R w n e) on ≡ counts_of (with_event R w n g) q) (sym same)
      (λ q. same_counts (with_event R w n e) (effect R w e).world rest rest' x y on q end end') on'
