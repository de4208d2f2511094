-- What is done with a text comes to one outcome.
use Rattle.std.proofs.Common.{◌≡◌, ℕ, Bool, false, List, ◌++◌, Option}
use Rattle.pg_values.specs.declared.fault.Fault.{Fault}
use Rattle.schedule.specs.Rules.{Rules}
use Rattle.schedule.specs.Run.{Anything}
use Rattle.spec_reader.specs.declared.spec.Spec.{Spec}
use Rattle.script_program.specs.Outcomes.{Outcome}
use Rattle.script_program.specs.Program.{WorkBegins, WorkEnds}
use Rattle.script_program.specs.declared.work.Work.{Work}
use Rattle.script_program.specs.declared.work.Work.TheVariants.{Run, Check, Load}
use Rattle.script_program.proofs.Checks.{check_begins, one_check}
use Rattle.script_program.specs.Seeded.{SeedEnds}
use Rattle.script_program.proofs.SeedLaws.{at_once_begins, at_once_more, one_seed, seed_anyhow}
use Rattle.script_program.proofs.Texts.{begins_anyhow, ends_anyhow, one_text, text_begins}

module _ {S : Type 0} (R : Rules S) (Good : S → Type 0) (opened : Bool → Spec → S) (refused : List ℕ → Option Fault) where
  pub one_work : (work : Work) (text : List ℕ) (a b : Outcome) → WorkEnds R Good opened refused work text a → WorkEnds R Good opened refused work text b → a ≡ b
  one_work (Run trail) text a b p q = one_text text R Good (opened trail) a b p q
  one_work Check text a b p q = one_check text R refused a b p q
  one_work (Load seed) text a b p q = one_seed R Good (opened false) seed a b p q

  pub work_begins : (work : Work) (text out : List ℕ) (o : Outcome) → WorkBegins R Good opened refused work text out → WorkEnds R Good opened refused work text o → (rest : List ℕ) × (out ++ rest ≡ o.out)
  work_begins (Run trail) text out o p q = text_begins text R Good (opened trail) out o p q
  work_begins Check text out o p q = check_begins text R refused out o p q
  work_begins (Load seed) text out o p q = at_once_begins (SeedEnds R Good (opened false) seed) (one_seed R Good (opened false) seed) out o p q

  -- over any worlds
  pub work_ends_anyhow : (work : Work) (text : List ℕ) (o : Outcome) → WorkEnds R Good opened refused work text o → WorkEnds R Anything opened refused work text o
  work_ends_anyhow (Run trail) text o p = ends_anyhow text R Good (opened trail) o p
  work_ends_anyhow Check text o p = p
  work_ends_anyhow (Load seed) text o p = seed_anyhow R Good (opened false) seed o p

  pub work_begins_anyhow : (work : Work) (text out : List ℕ) → WorkBegins R Good opened refused work text out → WorkBegins R Anything opened refused work text out
  work_begins_anyhow (Run trail) text out p = begins_anyhow text R Good (opened trail) out p
  work_begins_anyhow Check text out p = p
  work_begins_anyhow (Load seed) text out p = at_once_more (SeedEnds R Good (opened false) seed) (SeedEnds R Anything (opened false) seed) (seed_anyhow R Good (opened false) seed) out p
