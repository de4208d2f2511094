-- What was written of a script's run.
use Rattle.std.proofs.Common.{◌≡◌, ℕ, ◌+◌, List, ◌++◌, Option, refl, sym, ap, subst, ◌∙◌, length, append_assoc}
use Rattle.std.specs.Io.KnownBytes.{Appends}
use Rattle.schedule.specs.Lines.{heading}
use Rattle.schedule.specs.Printed.{AppendsPrefix, IsPrinted, IsPartlyPrinted}
use Rattle.schedule.specs.Rules.{Rules}
use Rattle.schedule.specs.Run.{World, start}
use Rattle.schedule.specs.declared.run_end.RunEnd.{RunEnd}
use Rattle.schedule.specs.declared.run_end.RunEnd.TheVariants.{All, SetupFailed, TeardownFailed}
use Rattle.schedule.proofs.Ends as runs
use Rattle.script_program.specs.Tasks.{permutations_of}
use Rattle.spec_reader.specs.declared.spec.Spec.{Spec}
use Rattle.script_program.specs.Outcomes.{Outcome}
use Rattle.script_program.specs.Texts.{beginning, printed, outcome_of, RunEnds, RunBegins}

module _ {S : Type 0} (R : Rules S) (Good : S → Type 0) (v : S) (spec : Spec) where
  -- a run that was written whole, with the bytes on `out`
  pub record Ran (end : RunEnd) (before now : Option (List ℕ)) : Type 0 where
    pub out : List ℕ
    pub ends : RunEnds R Good v spec (outcome_of R spec out end)
    pub begins : RunBegins R Good v spec out
    pub written : Appends before now out

  -- .. and one that was not
  pub record RanPartly (before now : Option (List ℕ)) : Type 0 where
    pub out : List ℕ
    pub begins : RunBegins R Good v spec out
    pub begun : AppendsPrefix before now out

  pub ran : (n : ℕ) (end : RunEnd) (before now : Option (List ℕ)) → n ≡ length spec.sessions + 1 → IsPrinted R Good (start R v n (permutations_of spec)) (heading n) end before now → Ran end before now
  ran n end before now same wrote =
      let p = subst (λ m. IsPrinted R Good (start R v m (permutations_of spec)) (heading m) end before now) same wrote in
      record {
        out = printed spec p.lines;
        ends = record { lines = p.lines; last = p.last; runs = p.runs; good = p.good; is = ap (outcome_of R spec (printed spec p.lines)) p.ends };
        begins = record { lines = p.lines; last = p.last; reaches = p.runs.reaches; good = p.good; is = refl };
        written = p.written;
      }

  pub ran_partly : (n : ℕ) (before now : Option (List ℕ)) → n ≡ length spec.sessions + 1 → IsPartlyPrinted R Good (start R v n (permutations_of spec)) (heading n) before now → RanPartly before now
  ran_partly n before now same wrote =
      let p = subst (λ m. IsPartlyPrinted R Good (start R v m (permutations_of spec)) (heading m) before now) same wrote in
      record { out = printed spec p.lines; begins = record { lines = p.lines; last = p.last; reaches = p.reaches; good = p.good; is = refl }; begun = p.begun }

  pub one_run : (a b : Outcome) → RunEnds R Good v spec a → RunEnds R Good v spec b → a ≡ b
  one_run a b p q =
      let same = runs.one_end R (beginning R v spec) p.lines q.lines p.last q.last p.runs q.runs in
      p.is ∙ (ap (λ lines. outcome_of R spec (printed spec lines) p.last.end) same.0 ∙ (ap (λ (x : World S). outcome_of R spec (printed spec q.lines) x.end) same.1 ∙ sym q.is))

  out_is : (out : List ℕ) (end : RunEnd) → (outcome_of R spec out end).out ≡ out
  out_is out All = refl
  out_is out (SetupFailed s fault) = refl
  out_is out (TeardownFailed fault) = refl

  pub run_begins : (out : List ℕ) (o : Outcome) → RunBegins R Good v spec out → RunEnds R Good v spec o → (rest : List ℕ) × (out ++ rest ≡ o.out)
  run_begins out o p q =
      let more = runs.beginning R (beginning R v spec) p.lines q.lines p.last q.last p.reaches q.runs.reaches q.runs.ends in
      let all : o.out ≡ printed spec q.lines = ap (λ (x : Outcome). x.out) q.is ∙ out_is (printed spec q.lines) q.last.end in
      (more.0, ap (λ xs. xs ++ more.0) p.is ∙ (append_assoc (heading (length spec.sessions + 1)) p.lines more.0 ∙ (ap (printed spec) more.1 ∙ sym all)))
