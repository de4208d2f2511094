-- What comes of a call of the program.
use Rattle.std.specs.Prelude.{◌≡◌, ℕ, Bool, true, false, List, [], Option, Some, None}
use Rattle.pg_values.specs.declared.fault.Fault.{Fault}
use Rattle.pg_values.specs.declared.outside.Sink.{Ghosts as SinkGhosts}
use Rattle.pg_values.specs.declared.outside.Source.{Ghosts as SourceGhosts}
use Rattle.schedule.specs.Rules.{Rules}
use Rattle.spec_reader.specs.declared.spec.Spec.{Spec}
use Rattle.script_program.specs.declared.ended.Ended.{Ended}
use Rattle.script_program.specs.declared.ended.Ended.TheVariants.{Usage, TooLarge, ReadFault}
use Rattle.script_program.specs.declared.work.Work.{Work}
use Rattle.script_program.specs.declared.work.Work.TheVariants.{Run, Check, Load}
use Rattle.script_program.specs.Checks.{CheckBegins, CheckEnds}
use Rattle.script_program.specs.Lines.{usage_line, too_large_line, read_line}
use Rattle.script_program.specs.Outcomes.{Outcome, refusal, AtOnce, Ends}
use Rattle.script_program.specs.Reading.{Reading, Unread, Partly, Whole, TooLong, Broken, Gives}
use Rattle.script_program.specs.Seeded.{SeedEnds}
use Rattle.script_program.specs.Texts.{TextBegins, TextEnds}
use Rattle.script_program.specs.Work.{reads_input, work_by}

-- what comes of a text by what is done with it: it is run, with trails or without, or its blocks are read, of which `refused`
-- says why one is none; or the script of a seed is run, whatever the text
abbrev pub WorkEnds : {S : Type 0} (R : Rules S) (Good : S → Type 0) (opened : Bool → Spec → S) (refused : List ℕ → Option Fault) → Work → List ℕ → Outcome → Type 0
WorkEnds R Good opened refused (Run trail) text o = TextEnds R Good (opened trail) text o
WorkEnds R Good opened refused Check text o = CheckEnds R refused text o
WorkEnds R Good opened refused (Load seed) text o = SeedEnds R Good (opened false) seed o

abbrev pub WorkBegins : {S : Type 0} (R : Rules S) (Good : S → Type 0) (opened : Bool → Spec → S) (refused : List ℕ → Option Fault) → Work → List ℕ → List ℕ → Type 0
WorkBegins R Good opened refused (Run trail) text out = TextBegins R Good (opened trail) text out
WorkBegins R Good opened refused Check text out = CheckBegins R refused text out
WorkBegins R Good opened refused (Load seed) text out = AtOnce (SeedEnds R Good (opened false) seed) out

-- The outcome of a call whose writes do not fail, and that finds memory: by what its words ask to do, by what it read of
-- its input, and by what comes of an input that was read whole, or of no input.
pub data Answers (ends : Work → List ℕ → Outcome → Type 0) (words : List (List ℕ)) (reading : Reading) (o : Outcome) : Type 0 where
  Misused : work_by words ≡ None → reading ≡ Unread → o ≡ refusal Usage usage_line → Answers ends words reading o
  Swamped : (work : Work) → work_by words ≡ Some work → reads_input work ≡ true → reading ≡ TooLong → o ≡ refusal TooLarge too_large_line → Answers ends words reading o
  Unreadable : (work : Work) → work_by words ≡ Some work → reads_input work ≡ true → reading ≡ Broken → o ≡ refusal ReadFault read_line → Answers ends words reading o
  Read : (work : Work) (text : List ℕ) → work_by words ≡ Some work → reads_input work ≡ true → reading ≡ Whole text → ends work text o → Answers ends words reading o
  Made : (work : Work) → work_by words ≡ Some work → reads_input work ≡ false → reading ≡ Unread → ends work [] o → Answers ends words reading o

-- What `out` has come to at some point of the call: nothing before the words were judged and the input was read whole, if it
-- is read, and then what comes of it.
pub data Begins (begins : Work → List ℕ → List ℕ → Type 0) (words : List (List ℕ)) (reading : Reading) (out : List ℕ) : Type 0 where
  InWords : reading ≡ Unread → out ≡ [] → Begins begins words reading out
  InReading : (work : Work) → work_by words ≡ Some work → reads_input work ≡ true → reading ≡ Partly → out ≡ [] → Begins begins words reading out
  Behind : (work : Work) (text : List ℕ) → work_by words ≡ Some work → reads_input work ≡ true → reading ≡ Whole text → begins work text out → Begins begins words reading out
  Making : (work : Work) → work_by words ≡ Some work → reads_input work ≡ false → reading ≡ Unread → begins work [] out → Begins begins words reading out

-- A call with these words read this of its input, and ended so.
pub record Calls {S K E : Type 0} (s : SourceGhosts S) (k : SinkGhosts K) (e : SinkGhosts E) (ends : Work → List ℕ → Outcome → Type 0) (begins : Work → List ℕ → List ℕ → Type 0)
    (words : List (List ℕ)) (input input' : S) (out out' : K) (err err' : E) (ended : Ended) : Type 0 where
  pub reading : Reading
  pub read : Gives s input input' reading
  pub is : Ends k e (Answers ends words reading) (Begins begins words reading) out out' err err' ended
