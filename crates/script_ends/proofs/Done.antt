-- A call that nothing hinders is done.
use Rattle.std.proofs.Common.{◌≡◌, ℕ, ◌+◌, ◌≤◌, Bool, true, false, List, [], ◌++◌, length, refl, sym, ap, subst, ◌∙◌, arith}
use Rattle.std.specs.Prelude.{Option, Some, None}
use Rattle.std.proofs.lemmas.List.{append-nil, length-append}
use Rattle.pg_values.specs.declared.outside.Sink.{Ghosts as SinkGhosts}
use Rattle.pg_values.specs.declared.outside.Source.{Ghosts as SourceGhosts}
use Rattle.spec_reader.specs.Specs.{IsScript}
use Rattle.spec_reader.specs.declared.spec.Spec.{Spec}
use Rattle.script_program.specs.Checks.{CheckEnds, checked}
use Rattle.script_program.specs.Outcomes.{Outcome, Takes, Ends, Written, CutOnOut, CutOnErr, Stopped}
use Rattle.script_program.specs.Program.{Answers, Misused, Swamped, Unreadable, Read, Made, Begins, Calls, WorkEnds}
use Rattle.script_program.specs.Reading.{Reading, Gives, GivesAll, GivesPast}
use Rattle.script_program.specs.Texts.{RunEnds, outcome_of, printed}
use Rattle.script_program.specs.Work.{reads_input, work_by}
use Rattle.script_program.specs.declared.ended.Ended.{Ended}
use Rattle.script_program.specs.declared.ended.Ended.TheVariants.{Done}
use Rattle.script_program.specs.declared.input.TheConstants.{INPUT_LIMIT}
use Rattle.script_program.specs.declared.work.Work.{Work}
use Rattle.script_program.specs.declared.work.Work.TheVariants as works
use Rattle.script_program.proofs.Checks as checks
use Rattle.script_program.proofs.Texts as texts
use Rattle.step_engine.specs.Run.{rules, opened, refused, HoldsThroughout}
use Rattle.script_ends.specs.Complete.{IsUnhindered, NoneFails, IsWholeRun, IsDone, InFull, OutOfMemory}

-- ---- what is read

past_it : (text : List ℕ) (old new : Option (List ℕ)) → length text ≤ INPUT_LIMIT → old ≡ Some text → GivesPast INPUT_LIMIT old new → ⊥
past_it text None new within is g = absurd (cc)
past_it text (Some xs) None within is g = absurd g.given
past_it text (Some xs) (Some ys) within is g =
    let same : xs ≡ text = cc in
    let long : length xs ≡ length (g.bytes ++ ys) = ap (length {A = ℕ}) g.given in
    let apart = length-append g.bytes ys in
    let past = g.past in
    absurd (let few = subst (λ zs. length zs ≤ INPUT_LIMIT) (sym same) within in omega (arith, long, apart, past, few))

all_of_it : (text other : List ℕ) (old new : Option (List ℕ)) → old ≡ Some text → GivesAll INPUT_LIMIT old new other → other ≡ text
all_of_it text other None new is g = absurd (cc)
all_of_it text other (Some xs) None is g = absurd g.given
all_of_it text other (Some xs) (Some ys) is g =
    let same : xs ≡ text = cc in
    sym (append-nil other) ∙ ap (λ zs. other ++ zs) (sym g.ended) ∙ sym g.given ∙ same

-- ---- what is asked for

some_is : (v w : Work) → Some v ≡ Some w → w ≡ v
some_is v w h = cc

same_work : (words : List (List ℕ)) (v w : Work) → work_by words ≡ Some v → work_by words ≡ Some w → w ≡ v
same_work words v w h k = some_is v w (sym h ∙ k)

-- it reads its input, or it does not
reads_or_not : (words : List (List ℕ)) (v w : Work) → work_by words ≡ Some v → work_by words ≡ Some w → reads_input v ≡ true → reads_input w ≡ false → ⊥
reads_or_not words v w h k reads not = let same : reads_input w ≡ reads_input v = ap reads_input (same_work words v w h k) in absurd (cc)

-- ---- what comes of it

module _ {S K E : Type 0} (s : SourceGhosts S) (k : SinkGhosts K) (e : SinkGhosts E) (text : List ℕ) (input input' : S) (out out' : K) (err err' : E) (free : IsUnhindered s k e text input input' out out' err err')
    (ends : Work → List ℕ → Outcome → Type 0) (begins : Work → List ℕ → List ℕ → Type 0) (words : List (List ℕ)) (work : Work) (asked : work_by words ≡ Some work) (reads : reads_input work ≡ true)
    (whole : List ℕ → Type 0) (does : (o : Outcome) → ends work text o → (o.ended ≡ Done) × whole o.out × (o.err ≡ [])) (ended : Ended) where
  by_answer : (r : Reading) → Gives s input input' r → (o : Outcome) → ended ≡ o.ended → Takes k out out' o.out → Takes e err err' o.err → Answers ends words r o → IsDone k e whole out out' err err' ended
  by_answer r given o same takes tells (Misused none unread is) = absurd (cc)
  by_answer r given o same takes tells (Swamped other call reading past is) = absurd (past_it text (s.left input) (s.left input') free.within free.given (subst (Gives s input input') past given).0)
  by_answer r given o same takes tells (Unreadable other call reading broken is) = absurd (free.read (subst (Gives s input input') broken given).1)
  by_answer r given o same takes tells (Read other t call reading all found) =
      let text_is : t ≡ text = all_of_it text t (s.left input) (s.left input') free.given (subst (Gives s input input') all given).0 in
      let d = does o (subst (λ v. ends v text o) (same_work words work other asked call) (subst (λ z. ends other z o) text_is found)) in
      InFull o.out d.1 (same ∙ d.0) takes (subst (Takes e err err') d.2 tells)
  by_answer r given o same takes tells (Made other call off unread found) = absurd (reads_or_not words work other asked call reads off)

  pub is_done : Calls s k e ends begins words input input' out out' err err' ended → IsDone k e whole out out' err err' ended
  is_done call = by call.reading call.read call.is
    where
      by : (r : Reading) → Gives s input input' r → Ends k e (Answers ends words r) (Begins begins words r) out out' err err' ended → IsDone k e whole out out' err err' ended
      by r given (Written o answer same takes tells) = by_answer r given o same takes tells answer
      by r given (CutOnOut bytes so is fails takes) = absurd (free.written fails.1)
      by r given (CutOnErr o answer is takes fails) = absurd (free.told fails.1)
      by r given (Stopped bytes so is takes tells) = OutOfMemory is

-- ---- a run, and a check

pub run_is_whole : (trail : Bool) (text : List ℕ) (script : Spec) (o : Outcome) → IsScript text script → NoneFails trail script → WorkEnds rules HoldsThroughout opened refused (works.Run trail) text o → (o.ended ≡ Done) × IsWholeRun trail script o.out × (o.err ≡ [])
run_is_whole trail text script o is none found =
    let run : RunEnds rules HoldsThroughout (opened trail script) script o = texts.script_ends text rules HoldsThroughout (opened trail) script o is found in
    let same : o ≡ record { ended = Done; out = printed script run.lines; err = [] } = run.is ∙ ap (outcome_of rules script (printed script run.lines)) (none run.lines run.last run.runs) in
    (ap (λ (x : Outcome). x.ended) same, record { lines = run.lines; last = run.last; runs = run.runs; is = ap (λ (x : Outcome). x.out) same }, ap (λ (x : Outcome). x.err) same)

pub check_is_whole : (text : List ℕ) (script : Spec) (o : Outcome) → IsScript text script → WorkEnds rules HoldsThroughout opened refused works.Check text o → (o.ended ≡ Done) × (o.out ≡ checked rules refused script) × (o.err ≡ [])
check_is_whole text script o is found =
    let same = checks.check_is text rules refused script o is found in
    (ap (λ (x : Outcome). x.ended) same, ap (λ (x : Outcome). x.out) same, ap (λ (x : Outcome). x.err) same)
