-- A call ends as the run of its script does.
use Rattle.std.proofs.Common.{◌≡◌, ℕ, ◌+◌, Result, IfOk, MatchResult, List, [], length, refl}
use Rattle.pg_values.specs.Faults.{Rose}
use Rattle.pg_values.specs.declared.fault.Fault.{Fault}
use Rattle.pg_values.specs.declared.outside.Sink.{Ghosts}
use Rattle.schedule.specs.Lines.{heading}
use Rattle.schedule.specs.Printed.{IsPrinted, IsPartlyPrinted}
use Rattle.schedule.specs.Rules.{Rules}
use Rattle.schedule.specs.Run.{World, start}
use Rattle.schedule.specs.declared.run_end.RunEnd.TheVariants.{All, SetupFailed, TeardownFailed}
use Rattle.script_program.specs.Tasks.{permutations_of}
use Rattle.spec_reader.specs.declared.spec.Spec.{Spec}
use Rattle.script_program.specs.Lines.{setup_line, teardown_line}
use Rattle.script_program.specs.Outcomes.{IsTold, Takes, Ends, Written, CutOnOut, Stopped, refusal}
use Rattle.script_program.specs.Texts.{outcome_of, RunBegins, RunEnds}
use Rattle.script_program.specs.declared.ended.Ended.{Ended}
use Rattle.script_program.specs.declared.ended.Ended.TheVariants.{Done, ScriptRefused, WriteFault, NoMemory}
use Rattle.script_program.proofs.Endings.{always, nothing, refused}
use Rattle.script_program.proofs.Runs.{ran, ran_partly}

module _ {S K E : Type 0} (R : Rules S) (Good : S → Type 0) (v : S) (spec : Spec) (n : ℕ) (same : n ≡ length spec.sessions + 1) (k : Ghosts K) (e : Ghosts E) (out out' : K) (err : E) where
  -- as the run is stated over a database of n sessions
  abbrev first : World S
  first = start R v n (permutations_of spec)

  pub all_written : IsPrinted R Good first (heading n) All (k.taken out) (k.taken out') → k.faults out' ≡ k.faults out → Ends k e (RunEnds R Good v spec) (RunBegins R Good v spec) out out' err err Done
  all_written wrote kept = let p = ran R Good v spec n All (k.taken out) (k.taken out') same wrote in Written (outcome_of R spec p.out All) p.ends refl (p.written, kept) (nothing e err)

  pub cut_on_out : IsPartlyPrinted R Good first (heading n) (k.taken out) (k.taken out') → Rose (k.faults out) (k.faults out') → Ends k e (RunEnds R Good v spec) (RunBegins R Good v spec) out out' err err WriteFault
  cut_on_out wrote rose = let p = ran_partly R Good v spec n (k.taken out) (k.taken out') same wrote in CutOnOut p.out p.begins refl (p.begun, rose) (nothing e err)

  pub stopped : IsPartlyPrinted R Good first (heading n) (k.taken out) (k.taken out') → k.faults out' ≡ k.faults out → Ends k e (RunEnds R Good v spec) (RunBegins R Good v spec) out out' err err NoMemory
  stopped wrote kept = let p = ran_partly R Good v spec n (k.taken out) (k.taken out') same wrote in Stopped p.out p.begins refl (p.begun, kept) (nothing e err)

  module _ (err' : E) (r : Ended) {T F : Type 0} (line : Result T F) (bytes : T → List ℕ) where
    abbrev IsRefused : Type 0
    IsRefused = MatchResult line (λ l. IsTold e err err' (refusal ScriptRefused (bytes l)) r) (λ _. (r ≡ NoMemory) × Takes e err err' [])

    pub setup_told : (s : ℕ) (fault : Fault) → IsPrinted R Good first (heading n) (SetupFailed s fault) (k.taken out) (k.taken out') → k.faults out' ≡ k.faults out
        → IfOk line (λ l. bytes l ≡ setup_line R spec.sessions s fault) → IsRefused → Ends k e (RunEnds R Good v spec) (RunBegins R Good v spec) out out' err err' r
    setup_told s fault wrote kept is told =
        let p = ran R Good v spec n (SetupFailed s fault) (k.taken out) (k.taken out') same wrote in
        refused k e (RunEnds R Good v spec) (RunBegins R Good v spec) out out' err err' r line bytes (outcome_of R spec p.out (SetupFailed s fault)) (always line _ p.ends) p.begins refl (p.written, kept) is told

    pub teardown_told : (fault : Fault) → IsPrinted R Good first (heading n) (TeardownFailed fault) (k.taken out) (k.taken out') → k.faults out' ≡ k.faults out
        → IfOk line (λ l. bytes l ≡ teardown_line R fault) → IsRefused → Ends k e (RunEnds R Good v spec) (RunBegins R Good v spec) out out' err err' r
    teardown_told fault wrote kept is told =
        let p = ran R Good v spec n (TeardownFailed fault) (k.taken out) (k.taken out') same wrote in
        refused k e (RunEnds R Good v spec) (RunBegins R Good v spec) out out' err err' r line bytes (outcome_of R spec p.out (TeardownFailed fault)) (always line _ p.ends) p.begins refl (p.written, kept) is told
