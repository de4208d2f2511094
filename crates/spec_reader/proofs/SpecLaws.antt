-- What a text is read as, or why it is refused.
use Rattle.std.proofs.Common.{Result, IfOk, ◌≡◌, ℕ, inl, inr, List, [], ◌∷◌, ◌++◌, Option, Some, None, Ok, Err, refl, sym, ◌∙◌, ap, subst}
use Rattle.std.specs.Prelude.{◌⊎◌}
use Rattle.grammar.specs.Gives.{Refuses}
use Rattle.grammar.specs.Parses.{FailsAt, SameNext}
use Rattle.grammar.specs.Reading.{read_whole}
use Rattle.grammar.specs.declared.refused.Refused.{Refused}
use Rattle.grammar.specs.declared.refused.Refused.TheVariants as refused
use Rattle.grammar.proofs.WholeLaws.{parses, one_value}
use Rattle.grammar.specs.Places.{token_at, StopsWith}
use Rattle.grammar.proofs.PlaceLaws.{stops, no_text, one_place}
use Rattle.spec_reader.specs.Faults.{fault}
use Rattle.spec_reader.specs.Finds.{Found, Finds}
use Rattle.spec_reader.specs.Scripts.{Says, script}
use Rattle.spec_reader.specs.Specs.{spec_of, IsScript, IsRefused, Breaks, StopsInLine, ReadsSpec, line_of, misfit}
use Rattle.spec_reader.specs.Tokens.{tokens_of}
use Rattle.spec_reader.specs.declared.fault.SpecFault.{SpecFault}
use Rattle.spec_reader.specs.declared.fault.SpecFault.TheVariants as faults
use Rattle.spec_reader.specs.declared.spec.Spec.{Spec}
use Rattle.spec_reader.specs.declared.token.Token.{Token}
use Rattle.spec_reader.specs.declared.written.WrittenSpec.{WrittenSpec}
use Rattle.spec_reader.proofs.ScriptLaws.{script_law}

abbrev itself : WrittenSpec → WrittenSpec
itself w = w

module _ (text : List ℕ) where
  pub only_says : (v w : WrittenSpec) → Says text v → Says text w → w ≡ v
  only_says v w h k = one_value (script_law text) (tokens_of text) v w h ((script_law text).shape.within (tokens_of text) w k)

  pub only_script : (one other : Spec) → IsScript text one → IsScript text other → other ≡ one
  only_script one other h k = k.3 ∙ (ap spec_of (only_says h.0 k.0 h.1 k.1) ∙ sym h.3)

  said : (tokens : List Token) (w : WrittenSpec) → tokens ≡ tokens_of text → read_whole (script text) tokens ≡ Ok w → Says text w
  said tokens w e r = (parses itself (tokens_of text) (Ok w) (script_law text) (subst (λ z. read_whole (script text) z ≡ Ok w) e r)).text

  pub is_script : (tokens : List Token) (w : WrittenSpec) (spec : Spec) → tokens ≡ tokens_of text → read_whole (script text) tokens ≡ Ok w → fault w ≡ None → spec ≡ spec_of w → ReadsSpec text (Ok spec)
  is_script tokens w spec e r g s =
      let k : IsScript text spec = (w, said tokens w e r, g, s) in
      (k, λ other h. only_script spec other k h)

  pub breaks : (tokens : List Token) (w : WrittenSpec) (f : SpecFault) → tokens ≡ tokens_of text → read_whole (script text) tokens ≡ Ok w → Found f (fault w) → IsRefused text f
  breaks tokens w (faults.BadToken line) e r g = absurd g
  breaks tokens w (faults.Limit x) e r g = (w, said tokens w e r, g)
  breaks tokens w (faults.DoubleName x) e r g = (w, said tokens w e r, g)
  breaks tokens w faults.NoPermutation e r g = (w, said tokens w e r, g)
  breaks tokens w (faults.UnknownStep x) e r g = (w, said tokens w e r, g)
  breaks tokens w (faults.UnknownMarker x) e r g = (w, said tokens w e r, g)
  breaks tokens w faults.NoMemory e r g = tt

  refused_there : (e : Refused) → StopsWith (script text) (tokens_of text) e → IsRefused text (misfit text (tokens_of text) e)
  refused_there refused.NoMemory h = tt
  refused_there (refused.Syntax left) h = (token_at (tokens_of text) left, h, refl)
  refused_there (refused.Limit left) h = (token_at (tokens_of text) left, h, refl)

  pub refused_as : (tokens : List Token) (e : Refused) (f : SpecFault) → tokens ≡ tokens_of text → Refuses e (read_whole (script text) tokens) → f ≡ misfit text tokens e → IsRefused text f
  refused_as tokens e f i h k =
      subst (λ z. IsRefused text z) (sym k)
      (subst (λ z. IsRefused text (misfit text z e)) (sym i) (refused_there e (stops (script_law text) (tokens_of text) e (subst (λ z. Refuses e (read_whole (script text) z)) i h))))

some_none : (f : SpecFault) (o : Option SpecFault) → o ≡ Some f → o ≡ None → ⊥
some_none f None h k = cc
some_none f (Some x) h k = cc

-- What is refused is no script.
module _ (text : List ℕ) where
  broken : (f : SpecFault) (w : WrittenSpec) → Says text w → fault w ≡ Some f → (spec : Spec) → IsScript text spec → ⊥
  broken f w h e spec k = some_none f (fault w) e (ap fault (only_says text k.0 w k.1 h) ∙ k.2)

  pub no_script : (f : SpecFault) → IsRefused text f → (f ≡ faults.NoMemory) ⊎ ((spec : Spec) → IsScript text spec → ⊥)
  no_script (faults.BadToken line) h = inr (λ spec k. no_text (script text) (tokens_of text) h.0 h.1 k.0 k.1)
  no_script (faults.Limit x) h = inr (broken (faults.Limit x) h.0 h.1 h.2)
  no_script (faults.DoubleName x) h = inr (broken (faults.DoubleName x) h.0 h.1 h.2)
  no_script faults.NoPermutation h = inr (broken faults.NoPermutation h.0 h.1 h.2)
  no_script (faults.UnknownStep x) h = inr (broken (faults.UnknownStep x) h.0 h.1 h.2)
  no_script (faults.UnknownMarker x) h = inr (broken (faults.UnknownMarker x) h.0 h.1 h.2)
  no_script faults.NoMemory h = inl refl

-- what the judges found of what was read
pub judged : (text : List ℕ) (r : Result Spec SpecFault) (tokens : List Token) (w : WrittenSpec) → tokens ≡ tokens_of text → read_whole (script text) tokens ≡ Ok w → Finds r (fault w) → IfOk r (λ spec. spec ≡ spec_of w) → ReadsSpec text r
judged text (Ok spec) tokens w e h f s = is_script text tokens w spec e h f s
judged text (Err x) tokens w e h f s = breaks text tokens w x e h f

-- A text is refused for one reason.
module _ (text : List ℕ) where
  one_line : (line other : ℕ) → StopsInLine text line → StopsInLine text other → line ≡ other
  one_line line other h k =
      let e : h.1.0 ≡ k.1.0 = one_place (script text).texts (tokens_of text) h.1.0 k.1.0 h.1.1 k.1.1 in
      h.2 ∙ (ap (line_of text) (h.1.2 ∙ (ap (token_at (tokens_of text)) e ∙ sym k.1.2)) ∙ sym k.2)

  not_both : {A : Type 0} (line : ℕ) (f : SpecFault) → StopsInLine text line → Breaks text f → A
  not_both line f h k = absurd (no_text (script text) (tokens_of text) h.0 h.1 k.0 k.1)

  some_eq : (f g : SpecFault) (o : Option SpecFault) → o ≡ Some f → o ≡ Some g → f ≡ g
  some_eq f g None h k = cc
  some_eq f g (Some x) h k = cc

  one_fault : (f g : SpecFault) → Breaks text f → Breaks text g → f ≡ g
  one_fault f g h k = some_eq f g (fault h.0) h.2 (ap fault (only_says text k.0 h.0 k.1 h.1) ∙ k.2)

  -- what is refused, told apart
  abbrev Told : SpecFault → Type 0
  Told f = (f ≡ faults.NoMemory) ⊎ (((line : ℕ) × (f ≡ faults.BadToken line) × StopsInLine text line) ⊎ Breaks text f)

  told_apart : (f : SpecFault) → IsRefused text f → Told f
  told_apart (faults.BadToken line) h = inr (inl (line, refl, h))
  told_apart (faults.Limit x) h = inr (inr h)
  told_apart (faults.DoubleName x) h = inr (inr h)
  told_apart faults.NoPermutation h = inr (inr h)
  told_apart (faults.UnknownStep x) h = inr (inr h)
  told_apart (faults.UnknownMarker x) h = inr (inr h)
  told_apart faults.NoMemory h = inl refl

  same_of : (f g : SpecFault) → Told f → Told g → (f ≡ faults.NoMemory) ⊎ ((g ≡ faults.NoMemory) ⊎ (f ≡ g))
  same_of f g (inl e) k = inl e
  same_of f g h (inl e) = inr (inl e)
  same_of f g (inr (inl h)) (inr (inl k)) = inr (inr (h.1 ∙ (ap (λ (n : ℕ). faults.BadToken n) (one_line h.0 k.0 h.2 k.2) ∙ sym k.1)))
  same_of f g (inr (inl h)) (inr (inr k)) = not_both h.0 g h.2 k
  same_of f g (inr (inr h)) (inr (inl k)) = not_both k.0 f k.2 h
  same_of f g (inr (inr h)) (inr (inr k)) = inr (inr (one_fault f g h k))

  pub one_reason : (f g : SpecFault) → IsRefused text f → IsRefused text g → (f ≡ faults.NoMemory) ⊎ ((g ≡ faults.NoMemory) ⊎ (f ≡ g))
  one_reason f g h k = same_of f g (told_apart f h) (told_apart g k)
