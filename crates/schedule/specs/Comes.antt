-- When each event comes: where this holds, and nowhere else.
use Rattle.std.specs.Prelude.{◌≡◌, ℕ, List, [], ◌∷◌, Some, None, false, true, ◌⊎◌}
use Rattle.schedule.specs.Blocks.{BlockView}
use Rattle.schedule.specs.Rules.{Rules}
use Rattle.schedule.specs.Lists.{is_in}
use Rattle.schedule.specs.Run.{World, tellable}
use Rattle.schedule.specs.declared.event.Event.{Event}
use Rattle.schedule.specs.declared.event.Event.TheVariants.{Acts, Tells, Resumes, Cancels, Launches, Settles, RollsBack, Opens}
use Rattle.schedule.specs.declared.run_end.RunEnd.TheVariants as ends
use Rattle.schedule.specs.declared.task.Task.{Task}
use Rattle.schedule.specs.declared.task.Task.TheVariants.{Launch, Settle, RollBack}

-- no failure has ended the run, and nobody has the turn
pub record IsIdle {S : Type 0} (w : World S) : Type 0 where
  pub going : w.end ≡ ends.All
  pub idle : w.turn ≡ None

-- nor has a statement cancelled a wait
pub record IsUndisturbed {S : Type 0} (R : Rules S) (w : World S) : Type 0 where
  pub idle : IsIdle w
  pub interrupted : R.interrupted w.db ≡ None

-- nor can a report be told
pub record HasTold {S : Type 0} (R : Rules S) (w : World S) : Type 0 where
  pub undisturbed : IsUndisturbed R w
  pub told : tellable w.tasks w.seats w.last w.held ≡ None

-- nor is a wait over: what comes next says the script
pub record Rests {S : Type 0} (R : Rules S) (w : World S) : Type 0 where
  pub has_told : HasTold R w
  pub ready : R.ready w.db ≡ None

-- what the script says next is to launch a session of which this holds
abbrev pub LaunchIsNext : List Task → (BlockView → Type 0) → Type 0
LaunchIsNext [] P = ⊥
LaunchIsNext (Launch b ∷ ts) P = P b
LaunchIsNext (Settle ∷ ts) P = ⊥
LaunchIsNext (RollBack s ∷ ts) P = ⊥

-- a session is launched that neither waits nor has a report that is held back
abbrev pub CanLaunch : {S : Type 0} → Rules S → World S → List Task → Type 0
CanLaunch R w ts = LaunchIsNext ts (λ b. (R.waits w.db b.session ≡ false) × (is_in b.session w.held ≡ false))

-- the session is to launch again, and its report is held back
abbrev pub HasToTell : {S : Type 0} → Rules S → World S → List Task → ℕ → Type 0
HasToTell R w ts s = LaunchIsNext ts (λ b. (b.session ≡ s) × ((R.waits w.db s ≡ false) × (is_in s w.held ≡ true)))

-- the session is to launch again, and waits
abbrev pub HasToStop : {S : Type 0} → Rules S → World S → List Task → ℕ → Type 0
HasToStop R w ts s = LaunchIsNext ts (λ b. (b.session ≡ s) × (R.waits w.db s ≡ true))

-- what the script says next is the end of the steps
abbrev pub EndIsNext : List Task → Type 0
EndIsNext ts = (us : List Task) × (ts ≡ Settle ∷ us)

abbrev pub RollBackIsNext : List Task → ℕ → Type 0
RollBackIsNext ts s = (us : List Task) × (ts ≡ RollBack s ∷ us)

abbrev pub OthersFollow : List (List Task) → Type 0
OthersFollow ps = (p : List Task) × (qs : List (List Task)) × (ps ≡ p ∷ qs)

-- who has the turn goes on, and nobody else does anything meanwhile; then one whose wait a statement has cancelled; then the
-- first report that no marker holds back; then the oldest wait whose causes have gone; and then what the script says: a
-- launch behind the end of the session's step before and behind its report, the end of the steps once none waits
abbrev pub Comes : {S : Type 0} → Rules S → World S → Event → Type 0
Comes R w (Acts s) = (w.end ≡ ends.All) × (w.turn ≡ Some s)
Comes R w (Tells s) = (IsUndisturbed R w × (tellable w.tasks w.seats w.last w.held ≡ Some s)) ⊎ (Rests R w × HasToTell R w w.tasks s)
Comes R w (Resumes s) = (IsIdle w × (R.interrupted w.db ≡ Some s)) ⊎ (HasTold R w × (R.ready w.db ≡ Some s))
Comes R w (Cancels s) = Rests R w × (HasToStop R w w.tasks s ⊎ (EndIsNext w.tasks × (R.oldest w.db ≡ Some s)))
Comes R w Launches = Rests R w × CanLaunch R w w.tasks
Comes R w Settles = Rests R w × (EndIsNext w.tasks × (R.oldest w.db ≡ None))
Comes R w (RollsBack s) = Rests R w × RollBackIsNext w.tasks s
Comes R w Opens = Rests R w × ((w.tasks ≡ []) × OthersFollow w.permutations)
