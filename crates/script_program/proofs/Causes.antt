-- No outcome of a call is a failed write or want of memory.
use Rattle.std.proofs.Common.{◌≡◌, ◌≢◌, ℕ, Bool, false, List, [], Option, ap}
use Rattle.pg_values.specs.declared.fault.Fault.{Fault}
use Rattle.schedule.specs.Rules.{Rules}
use Rattle.schedule.specs.declared.run_end.RunEnd.{RunEnd}
use Rattle.schedule.specs.declared.run_end.RunEnd.TheVariants.{All, SetupFailed, TeardownFailed}
use Rattle.spec_reader.specs.declared.spec.Spec.{Spec}
use Rattle.script_program.specs.declared.ended.Ended.{Ended}
use Rattle.script_program.specs.declared.ended.Ended.TheVariants.{Done, ScriptRefused, Usage, TooLarge, ReadFault, WriteFault, NoMemory}
use Rattle.script_program.specs.declared.work.Work.{Work}
use Rattle.script_program.specs.declared.work.Work.TheVariants.{Run, Check, Load}
use Rattle.script_program.specs.Checks.{Checked, NoScript}
use Rattle.script_program.specs.Outcomes.{Outcome}
use Rattle.script_program.specs.Program.{Answers, Misused, Swamped, Unreadable, Read, Made, WorkEnds}
use Rattle.script_program.specs.Reading.{Reading}
use Rattle.schedule.specs.declared.counts.Counts.{Counts}
use Rattle.schedule.specs.declared.tally.Tally.{Tally}
use Rattle.script_program.specs.Seeded as seeded
use Rattle.script_program.specs.Texts.{outcome_of, TextEnds, Accepted, Refused}

abbrev pub IsNoFault : Outcome → Type 0
IsNoFault o = (o.ended ≢ WriteFault) × (o.ended ≢ NoMemory)

done : (o : Outcome) → o.ended ≡ Done → IsNoFault o
done o is = (λ h. cc, λ h. cc)

refused : (o : Outcome) → o.ended ≡ ScriptRefused → IsNoFault o
refused o is = (λ h. cc, λ h. cc)

usage : (o : Outcome) → o.ended ≡ Usage → IsNoFault o
usage o is = (λ h. cc, λ h. cc)

too_large : (o : Outcome) → o.ended ≡ TooLarge → IsNoFault o
too_large o is = (λ h. cc, λ h. cc)

read_fault : (o : Outcome) → o.ended ≡ ReadFault → IsNoFault o
read_fault o is = (λ h. cc, λ h. cc)

abbrev answer_of : Outcome → Ended
answer_of o = o.ended

module _ {S : Type 0} (R : Rules S) (Good : S → Type 0) where
  run_is : (spec : Spec) (out : List ℕ) (end : RunEnd) (o : Outcome) → o ≡ outcome_of R spec out end → IsNoFault o
  run_is spec out All o is = done o (ap answer_of is)
  run_is spec out (SetupFailed s fault) o is = refused o (ap answer_of is)
  run_is spec out (TeardownFailed fault) o is = refused o (ap answer_of is)

  text_is : (opened : Spec → S) (text : List ℕ) (o : Outcome) → TextEnds R Good opened text o → IsNoFault o
  text_is opened text o (Accepted spec is ends) = run_is spec _ _ o ends.is
  text_is opened text o (Refused fault none line) = refused o (ap answer_of line)

  told_is : (spec : Spec) (seed : ℕ) (n : Counts) (m : Tally) (end : RunEnd) (o : Outcome) → o ≡ seeded.told_of R spec seed n m end → IsNoFault o
  told_is spec seed n m All o is = done o (ap answer_of is)
  told_is spec seed n m (SetupFailed s fault) o is = refused o (ap answer_of is)
  told_is spec seed n m (TeardownFailed fault) o is = refused o (ap answer_of is)

  seed_is : (opened : Spec → S) (seed : ℕ) (o : Outcome) → seeded.SeedEnds R Good opened seed o → IsNoFault o
  seed_is opened seed o (seeded.Accepted spec is p) = told_is spec seed p.counts (R.tally p.last.db) p.end o p.is
  seed_is opened seed o (seeded.Refused fault none line) = refused o (ap answer_of line)

  work_is : (opened : Bool → Spec → S) (refused_as : List ℕ → Option Fault) (work : Work) (text : List ℕ) (o : Outcome) → WorkEnds R Good opened refused_as work text o → IsNoFault o
  work_is opened refused_as (Run trail) text o ends = text_is (opened trail) text o ends
  work_is opened refused_as Check text o (Checked spec is same) = done o (ap answer_of same)
  work_is opened refused_as Check text o (NoScript fault none line) = refused o (ap answer_of line)
  work_is opened refused_as (Load seed) text o ends = seed_is (opened false) seed o ends

  pub no_fault : (opened : Bool → Spec → S) (refused_as : List ℕ → Option Fault) (words : List (List ℕ)) (r : Reading) (o : Outcome) → Answers (WorkEnds R Good opened refused_as) words r o → IsNoFault o
  no_fault opened refused_as words r o (Misused none read is) = usage o (ap answer_of is)
  no_fault opened refused_as words r o (Swamped work call reads read is) = too_large o (ap answer_of is)
  no_fault opened refused_as words r o (Unreadable work call reads read is) = read_fault o (ap answer_of is)
  no_fault opened refused_as words r o (Read work text call reads read ends) = work_is opened refused_as work text o ends
  no_fault opened refused_as words r o (Made work call not read ends) = work_is opened refused_as work [] o ends
