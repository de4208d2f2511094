-- The engine stands for a world.
use Rattle.std.specs.Prelude.{◌≡◌, ◌<◌, ℕ, List, [], ◌∷◌, Some, None, false, true, length, ⊤}
use Rattle.schedule.specs.Lists.{is_in}
use Rattle.schedule.specs.Run.{World, Effect}
use Rattle.schedule.specs.declared.database.Database.{Ghosts}
use Rattle.schedule.specs.declared.engine.Engine.{Engine}
use Rattle.schedule.specs.declared.event.Event.{Event}
use Rattle.schedule.specs.declared.event.Event.TheVariants.{Acts, Tells, Resumes, Cancels, Launches, Settles, RollsBack, Opens}
use Rattle.schedule.specs.declared.event.Report.{Report}
use Rattle.schedule.specs.declared.event.Report.TheVariants.{Nothing, Opening, Waiting, Ending, Output, TornDown}
use Rattle.schedule.specs.declared.task.Task.{Task}
use Rattle.schedule.specs.declared.task.Task.TheVariants.{Launch, Settle, RollBack}

pub record Stands {D : Type 0} (g : Ghosts D) (e : Engine D g) (w : World g.State) : Type 0 where
  pub db : g.stands e.db w.db
  pub permutations : e.permutations.now ≡ w.permutations
  pub tasks : e.tasks.now ≡ w.tasks
  pub seats : e.seats.items ≡ w.seats
  pub held : e.held.items ≡ w.held
  pub last : e.last ≡ w.last
  pub turn : e.turn ≡ w.turn
  pub end : e.end ≡ w.end

-- the engine goes on as the effect makes the world go on
abbrev pub Leaves : {D : Type 0} (g : Ghosts D) → (World g.State → Effect g.State) → Engine D g → Engine D g → Type 0
Leaves {D} g f old new = (w : World g.State) → Stands g old w → Stands g new (f w).world

-- the report is that of the effect
abbrev pub Reports : {D : Type 0} (g : Ghosts D) → (World g.State → Effect g.State) → Engine D g → Report → Type 0
Reports {D} g f old report = (w : World g.State) → Stands g old w → report ≡ (f w).report

abbrev pub IsLaunch : List Task → (ℕ → Type 0) → Type 0
IsLaunch [] P = ⊥
IsLaunch (Launch b ∷ ts) P = P b.session
IsLaunch (Settle ∷ ts) P = ⊥
IsLaunch (RollBack s ∷ ts) P = ⊥

-- what the code of an event needs
abbrev pub MayCome : {D : Type 0} (g : Ghosts D) → Engine D g → Event → Type 0
MayCome {D} g e (Acts s) = e.turn ≡ Some s
MayCome {D} g e (Tells s) = (s < e.sessions) × (e.turn ≡ None) × (is_in s e.held.items ≡ true)
MayCome {D} g e (Resumes s) = (s < e.sessions) × (e.turn ≡ None) × (g.due e.db s ≡ true)
MayCome {D} g e (Cancels s) = (s < e.sessions) × (e.turn ≡ None) × (g.waiting e.db s ≡ true)
MayCome {D} g e Launches = (e.turn ≡ None) × IsLaunch e.tasks.now (λ s. g.waiting e.db s ≡ false)
MayCome {D} g e Settles = (e.turn ≡ None) × (0 < length e.tasks.now)
MayCome {D} g e (RollsBack s) = (s < e.sessions) × (e.turn ≡ None) × (0 < length e.tasks.now)
MayCome {D} g e Opens = (e.turn ≡ None) × (e.tasks.now ≡ []) × (0 < length e.permutations.now)

-- what is reported is of a session that is there
abbrev pub IsOf : ℕ → Report → Type 0
IsOf n Nothing = ⊤
IsOf n Opening = ⊤
IsOf n (Waiting s) = s < n
IsOf n (Ending s) = s < n
IsOf n (Output s) = s < n
IsOf n (TornDown s) = s < n
