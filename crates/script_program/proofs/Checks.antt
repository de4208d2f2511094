-- What is told of blocks comes to one outcome, and is told part by part.
use Rattle.std.proofs.Common.{◌≡◌, ◌∙◌, ℕ, List, [], ◌∷◌, ◌++◌, map, refl, sym, ap, ap₂, append_assoc, append-nil, Option}
use Rattle.std.proofs.lemmas.Grind.{flat_map-append}
use Rattle.std.specs.List.{flat_map}
use Rattle.pg_values.specs.declared.fault.Fault.{Fault}
use Rattle.schedule.specs.Rules.{Rules}
use Rattle.spec_reader.specs.Specs.{IsScript}
use Rattle.spec_reader.specs.declared.spec.SessionSpec.{SessionSpec}
use Rattle.spec_reader.specs.declared.spec.Spec.{Spec}
use Rattle.spec_reader.proofs.SpecLaws.{only_script}
use Rattle.script_program.specs.Checks.{block_line, block_lines, blocks_of, checked, if_there, session_blocks, setup_block, step_block, teardown_block, CheckEnds, Checked, NoScript, CheckBegins, NothingTold, Told}
use Rattle.script_program.specs.Lines.{fault_line}
use Rattle.script_program.specs.Outcomes.{Outcome, refusal}
use Rattle.script_program.specs.declared.ended.Ended.TheVariants.{Done, ScriptRefused}
use Rattle.script_program.proofs.Texts.{not_both, same_reason}

-- ---- one outcome

module _ (text : List ℕ) {S : Type 0} (R : Rules S) (refused : List ℕ → Option Fault) where
  abbrev told_of : Spec → Outcome
  told_of spec = record { ended = Done; out = checked R refused spec; err = [] }

  pub check_is : (spec : Spec) (o : Outcome) → IsScript text spec → CheckEnds R refused text o → o ≡ told_of spec
  check_is spec o is (Checked other also same) = same ∙ ap told_of (only_script text spec other is also)
  check_is spec o is (NoScript fault none line) = absurd (not_both text spec fault is none)

  pub one_check : (a b : Outcome) → CheckEnds R refused text a → CheckEnds R refused text b → a ≡ b
  one_check a b (Checked spec is same) q = same ∙ sym (check_is spec b is q)
  one_check a b (NoScript fault none line) (Checked spec is same) = absurd (not_both text spec fault is none)
  one_check a b (NoScript f none line) (NoScript g none' line') = line ∙ (ap (λ x. refusal ScriptRefused (fault_line x)) (same_reason text f g none none') ∙ sym line')

  pub check_begins : (out : List ℕ) (o : Outcome) → CheckBegins R refused text out → CheckEnds R refused text o → (rest : List ℕ) × (out ++ rest ≡ o.out)
  check_begins out o (NothingTold empty) q = (o.out, ap (λ xs. xs ++ o.out) empty)
  check_begins out o (Told spec is same) q = ([], append-nil out ∙ (same ∙ sym (ap (λ (x : Outcome). x.out) (check_is spec o is q))))

-- ---- lines of blocks

flat_map-map : {X Y A : Type 0} (f : Y → List A) (g : X → Y) (xs : List X) → flat_map f (map g xs) ≡ flat_map (λ x. f (g x)) xs
flat_map-map f g [] = refl
flat_map-map f g (x ∷ xs) = ap (λ rest. f (g x) ++ rest) (flat_map-map f g xs)

flat_map-flat_map : {X Y A : Type 0} (f : Y → List A) (g : X → List Y) (xs : List X) → flat_map f (flat_map g xs) ≡ flat_map (λ x. flat_map f (g x)) xs
flat_map-flat_map f g [] = refl
flat_map-flat_map f g (x ∷ xs) = flat_map-append f (g x) (flat_map g xs) ∙ ap (λ rest. flat_map f (g x) ++ rest) (flat_map-flat_map f g xs)

-- three texts are appended, one after another
appended : (o p q r a b c : List ℕ) → p ≡ o ++ a → q ≡ p ++ b → r ≡ q ++ c → r ≡ o ++ (a ++ b ++ c)
appended o p q r a b c one two three =
    three ∙ (ap (λ l. l ++ c) (two ∙ (ap (λ l. l ++ b) one ∙ append_assoc o a b)) ∙ append_assoc o (a ++ b) c)

module _ {S : Type 0} (R : Rules S) (refused : List ℕ → Option Fault) where
  -- those of a session: its setup, its steps, its teardown
  pub session_lines : (s : SessionSpec) (o p q r : List ℕ) → p ≡ o ++ block_lines R refused (map setup_block (if_there s.setup))
      → q ≡ p ++ flat_map (λ step. block_line R refused (step_block step)) s.steps → r ≡ q ++ block_lines R refused (map teardown_block (if_there s.teardown))
      → r ≡ o ++ block_lines R refused (session_blocks s)
  session_lines s o p q r one two three =
      let line = block_line R refused in
      let setup = map setup_block (if_there s.setup) in
      let steps = map step_block s.steps in
      let teardown = map teardown_block (if_there s.teardown) in
      appended o p q r (flat_map line setup) (flat_map (λ step. line (step_block step)) s.steps) (flat_map line teardown) one two three
      ∙ ap (λ l. o ++ l) (sym (flat_map-append line (setup ++ steps) teardown
      ∙ ap (λ l. l ++ flat_map line teardown) (flat_map-append line setup steps ∙ ap (λ l. flat_map line setup ++ l) (flat_map-map line step_block s.steps))))

  -- those of a script: its setups, its teardown, its sessions
  pub script_lines : (script : Spec) (o p q r : List ℕ) → p ≡ o ++ flat_map (λ text. block_line R refused (setup_block text)) script.setups
      → q ≡ p ++ block_lines R refused (map teardown_block (if_there script.teardown)) → r ≡ q ++ flat_map (λ session. block_lines R refused (session_blocks session)) script.sessions
      → r ≡ o ++ block_lines R refused (blocks_of script)
  script_lines script o p q r one two three =
      let line = block_line R refused in
      let setups = map setup_block script.setups in
      let teardown = map teardown_block (if_there script.teardown) in
      let sessions = flat_map session_blocks script.sessions in
      appended o p q r (flat_map (λ text. line (setup_block text)) script.setups) (flat_map line teardown) (flat_map (λ session. flat_map line (session_blocks session)) script.sessions) one two three
      ∙ ap (λ l. o ++ l) (sym (flat_map-append line (setups ++ teardown) sessions
      ∙ ap₂ (λ a b. a ++ b) (flat_map-append line setups teardown ∙ ap (λ l. l ++ flat_map line teardown) (flat_map-map line setup_block script.setups)) (flat_map-flat_map line session_blocks script.sessions)))
