-- A text comes to one outcome.
use Rattle.std.proofs.Common.{◌≡◌, ◌⊎◌, inl, inr, ℕ, List, ◌++◌, sym, ap, subst, ◌∙◌}
use Rattle.schedule.specs.Rules.{Rules}
use Rattle.schedule.specs.Run.{Anything}
use Rattle.schedule.proofs.Runs.{over_anything}
use Rattle.spec_reader.specs.Specs.{IsScript}
use Rattle.spec_reader.specs.declared.fault.SpecFault.{SpecFault}
use Rattle.spec_reader.specs.declared.fault.SpecFault.TheVariants as faults
use Rattle.spec_reader.specs.declared.spec.Spec.{Spec}
use Rattle.spec_reader.proofs.SpecLaws.{only_script, no_script, one_reason}
use Rattle.script_program.specs.Lines.{fault_line}
use Rattle.script_program.specs.Outcomes.{Outcome, refusal}
use Rattle.script_program.specs.Texts.{IsNoScript, RunEnds, TextEnds, Accepted, Refused, TextBegins, Nothing, Running}
use Rattle.script_program.specs.declared.ended.Ended.TheVariants.{ScriptRefused}
use Rattle.script_program.proofs.Runs.{one_run, run_begins}

module _ (text : List ℕ) where
  pub not_both : (spec : Spec) (fault : SpecFault) → IsScript text spec → IsNoScript text fault → ⊥
  not_both spec fault is none = elim (no_script text fault none.refused) [ inl memory ↦ none.known memory | inr never ↦ never spec is ]

  pub same_reason : (f g : SpecFault) → IsNoScript text f → IsNoScript text g → f ≡ g
  same_reason f g p q = go (one_reason text f g p.refused q.refused)
    where
      go : (f ≡ faults.NoMemory) ⊎ ((g ≡ faults.NoMemory) ⊎ (f ≡ g)) → f ≡ g
      go (inl memory) = absurd (p.known memory)
      go (inr (inl memory)) = absurd (q.known memory)
      go (inr (inr same)) = same

  module _ {S : Type 0} (R : Rules S) (Good : S → Type 0) (opened : Spec → S) where
    pub script_ends : (spec : Spec) (o : Outcome) → IsScript text spec → TextEnds R Good opened text o → RunEnds R Good (opened spec) spec o
    script_ends spec o is (Accepted other also ends) = subst (λ s. RunEnds R Good (opened s) s o) (only_script text spec other is also) ends
    script_ends spec o is (Refused fault none line) = absurd (not_both spec fault is none)

    pub one_text : (a b : Outcome) → TextEnds R Good opened text a → TextEnds R Good opened text b → a ≡ b
    one_text a b (Accepted spec is ends) q = one_run R Good (opened spec) spec a b ends (script_ends spec b is q)
    one_text a b (Refused fault none line) (Accepted spec is ends) = absurd (not_both spec fault is none)
    one_text a b (Refused f none line) (Refused g none' line') = line ∙ (ap (λ x. refusal ScriptRefused (fault_line x)) (same_reason f g none none') ∙ sym line')

    pub text_begins : (out : List ℕ) (o : Outcome) → TextBegins R Good opened text out → TextEnds R Good opened text o → (rest : List ℕ) × (out ++ rest ≡ o.out)
    text_begins out o (Nothing empty) q = (o.out, ap (λ xs. xs ++ o.out) empty)
    text_begins out o (Running spec is begins) q = run_begins R Good (opened spec) spec out o begins (script_ends spec o is q)

    -- over any worlds
    pub ends_anyhow : (o : Outcome) → TextEnds R Good opened text o → TextEnds R Anything opened text o
    ends_anyhow o (Accepted spec is ends) = Accepted spec is (record { lines = ends.lines; last = ends.last; runs = ends.runs; good = over_anything _ _ _ _ ends.runs.reaches; is = ends.is })
    ends_anyhow o (Refused fault none line) = Refused fault none line

    pub begins_anyhow : (out : List ℕ) → TextBegins R Good opened text out → TextBegins R Anything opened text out
    begins_anyhow out (Nothing empty) = Nothing empty
    begins_anyhow out (Running spec is begins) = Running spec is (record { lines = begins.lines; last = begins.last; reaches = begins.reaches; good = over_anything _ _ _ _ begins.reaches; is = begins.is })
