-- What is counted of the script of a seed comes to one outcome.
use Rattle.std.proofs.Common.{◌≡◌, inl, inr, ℕ, List, [], ◌++◌, sym, ap, subst, ◌∙◌, append-nil}
use Rattle.script_program.specs.LoadScript.{load}
use Rattle.schedule.specs.Counts.{none}
use Rattle.schedule.specs.Rules.{Rules}
use Rattle.schedule.specs.Run.{World, Anything}
use Rattle.schedule.specs.declared.counts.Counts.{Counts}
use Rattle.schedule.specs.declared.run_end.RunEnd.{RunEnd}
use Rattle.schedule.proofs.Ends as runs
use Rattle.schedule.proofs.Runs.{over_anything}
use Rattle.spec_reader.specs.Specs.{IsScript}
use Rattle.spec_reader.specs.declared.spec.Spec.{Spec}
use Rattle.spec_reader.proofs.SpecLaws.{only_script}
use Rattle.script_program.specs.Lines.{fault_line}
use Rattle.script_program.specs.Outcomes.{Outcome, AtOnce, refusal}
use Rattle.script_program.specs.Seeded.{RunCounts, SeedEnds, Accepted, Refused, told_of}
use Rattle.script_program.specs.Texts.{beginning}
use Rattle.script_program.specs.declared.ended.Ended.TheVariants.{ScriptRefused}
use Rattle.script_program.proofs.Texts.{not_both, same_reason}

-- all at once, of more outcomes
pub at_once_more : (A B : Outcome → Type 0) → ((o : Outcome) → A o → B o) → (out : List ℕ) → AtOnce A out → AtOnce B out
at_once_more A B f out (inl empty) = inl empty
at_once_more A B f out (inr told) = inr (told.0, f told.0 told.1, told.2)

-- the beginning of the one outcome
pub at_once_begins : (A : Outcome → Type 0) → ((a b : Outcome) → A a → A b → a ≡ b) → (out : List ℕ) (o : Outcome) → AtOnce A out → A o → (rest : List ℕ) × (out ++ rest ≡ o.out)
at_once_begins A one out o (inl empty) q = (o.out, ap (λ xs. xs ++ o.out) empty)
at_once_begins A one out o (inr told) q = ([], append-nil out ∙ (told.2 ∙ ap (λ (x : Outcome). x.out) (one told.0 o told.1 q)))

module _ {S : Type 0} (R : Rules S) (Good : S → Type 0) where
  -- a run is counted so once
  pub one_count : (v : S) (spec : Spec) (seed : ℕ) (a b : Outcome) → RunCounts R Good v spec seed a → RunCounts R Good v spec seed b → a ≡ b
  one_count v spec seed a b p q =
      let w = beginning R v spec in
      let r = p.counted.runs in
      let k = q.counted.runs in
      let last : p.last ≡ q.last = (runs.one_end R w p.counted.lines q.counted.lines p.last q.last r k).1 in
      let counts : p.counts ≡ q.counts = p.counted.counts ∙ (runs.same_counts R none w p.counted.lines q.counted.lines p.last q.last r.reaches k.reaches r.ends k.ends ∙ sym q.counted.counts) in
      let end : p.end ≡ q.end = p.counted.ends ∙ (ap (λ (x : World S). x.end) last ∙ sym q.counted.ends) in
      p.is ∙ (ap (λ (n : Counts). told_of R spec seed n (R.tally p.last.db) p.end) counts
      ∙ (ap (λ (x : World S). told_of R spec seed q.counts (R.tally x.db) p.end) last
      ∙ (ap (λ (e : RunEnd). told_of R spec seed q.counts (R.tally q.last.db) e) end ∙ sym q.is)))

  module _ (opened : Spec → S) (seed : ℕ) where
    pub seed_counts : (spec : Spec) (o : Outcome) → IsScript (load seed) spec → SeedEnds R Good opened seed o → RunCounts R Good (opened spec) spec seed o
    seed_counts spec o is (Accepted other also counts) = subst (λ s. RunCounts R Good (opened s) s seed o) (only_script (load seed) spec other is also) counts
    seed_counts spec o is (Refused fault none line) = absurd (not_both (load seed) spec fault is none)

    pub one_seed : (a b : Outcome) → SeedEnds R Good opened seed a → SeedEnds R Good opened seed b → a ≡ b
    one_seed a b (Accepted spec is counts) q = one_count (opened spec) spec seed a b counts (seed_counts spec b is q)
    one_seed a b (Refused fault none line) (Accepted spec is counts) = absurd (not_both (load seed) spec fault is none)
    one_seed a b (Refused f none line) (Refused g none' line') = line ∙ (ap (λ x. refusal ScriptRefused (fault_line x)) (same_reason (load seed) f g none none') ∙ sym line')

    -- over any worlds
    pub seed_anyhow : (o : Outcome) → SeedEnds R Good opened seed o → SeedEnds R Anything opened seed o
    seed_anyhow o (Accepted spec is p) = Accepted spec is (record {
      end = p.end;
      counts = p.counts;
      last = p.last;
      counted = record { lines = p.counted.lines; runs = p.counted.runs; good = over_anything _ _ _ _ p.counted.runs.reaches; counts = p.counted.counts; ends = p.counted.ends };
      is = p.is;
    })
    seed_anyhow o (Refused fault none line) = Refused fault none line
