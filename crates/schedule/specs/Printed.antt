-- What was written of a run.
use Rattle.std.specs.Prelude.{◌≡◌, ◌⊎◌, List, [], ℕ, ◌++◌, Option, take}
use Rattle.std.specs.Io.KnownBytes.{Appends}
use Rattle.schedule.specs.Rules.{Rules}
use Rattle.schedule.specs.Run.{World, Effect, Runs, Reaches, Throughout, printed, printed_in}
use Rattle.schedule.specs.Stands.{Stands, Leaves}
use Rattle.schedule.specs.declared.database.Database.{Ghosts}
use Rattle.schedule.specs.declared.engine.Engine.{Engine}
use Rattle.schedule.specs.declared.event.Report.{Report}
use Rattle.schedule.specs.declared.run_end.RunEnd.{RunEnd}

-- some first bytes of these were written
pub record AppendsPrefix (before now : Option (List ℕ)) (bytes : List ℕ) : Type 0 where
  pub count : ℕ
  pub taken : Appends before now (take count bytes)

-- the first lines and all lines of the run were written, each of its worlds is good, and it ended so
pub record IsPrinted {S : Type 0} (R : Rules S) (Good : S → Type 0) (w : World S) (head : List ℕ) (end : RunEnd) (before now : Option (List ℕ)) : Type 0 where
  pub lines : List ℕ
  pub last : World S
  pub runs : Runs R w lines last
  pub good : Throughout Good runs.reaches
  pub written : Appends before now (head ++ lines)
  pub ends : end ≡ last.end

-- some first bytes were written of the first lines and the lines up to some world of the run; each world up to that is good
pub record IsPartlyPrinted {S : Type 0} (R : Rules S) (Good : S → Type 0) (w : World S) (head : List ℕ) (before now : Option (List ℕ)) : Type 0 where
  pub lines : List ℕ
  pub last : World S
  pub reaches : Reaches R w lines last
  pub good : Throughout Good reaches
  pub begun : AppendsPrefix before now (head ++ lines)

-- the lines of the whole run, to whose end the engine has come
pub record ArePrinted {D : Type 0} (g : Ghosts D) (w : World g.State) (e : Engine D g) (before now : Option (List ℕ)) : Type 0 where
  pub lines : List ℕ
  pub last : World g.State
  pub runs : Runs g.rules w lines last
  pub good : Throughout g.good runs.reaches
  pub written : Appends before now lines
  pub stands : Stands g e last

-- the beginning of the lines of a run that has come so far
pub record ArePartlyPrinted {S : Type 0} (R : Rules S) (Good : S → Type 0) (w : World S) (before now : Option (List ℕ)) : Type 0 where
  pub lines : List ℕ
  pub last : World S
  pub reaches : Reaches R w lines last
  pub good : Throughout Good reaches
  pub begun : AppendsPrefix before now lines

-- what the report prints was written, or some first bytes of it
abbrev pub Writes : {D : Type 0} (g : Ghosts D) → Engine D g → Report → Option (List ℕ) → Option (List ℕ) → Type 0
Writes {D} g e report before now = (w : World g.State) → Stands g e w → Appends before now (printed_in g.rules w report)

abbrev pub Begins : {D : Type 0} (g : Ghosts D) → Engine D g → Report → Option (List ℕ) → Option (List ℕ) → Type 0
Begins {D} g e report before now = (w : World g.State) → Stands g e w → AppendsPrefix before now (printed_in g.rules w report)

-- what the effect prints was written
abbrev pub WritesOf : {D : Type 0} (g : Ghosts D) → (World g.State → Effect g.State) → Engine D g → Option (List ℕ) → Option (List ℕ) → Type 0
WritesOf {D} g f old before now = (w : World g.State) → Stands g old w → Appends before now (printed g.rules (f w))

-- the effect came, and some first bytes of what it prints were written
pub record CameCut {D : Type 0} (g : Ghosts D) (f : World g.State → Effect g.State) (old new : Engine D g) (before now : Option (List ℕ)) : Type 0 where
  pub leaves : Leaves g f old new
  pub begins : (w : World g.State) → Stands g old w → AppendsPrefix before now (printed g.rules (f w))

-- .. or nothing was written
abbrev pub BeginsOf : {D : Type 0} (g : Ghosts D) → (World g.State → Effect g.State) → Engine D g → Engine D g → Option (List ℕ) → Option (List ℕ) → Type 0
BeginsOf {D} g f old new before now = Appends before now [] ⊎ CameCut g f old new before now
