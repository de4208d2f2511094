use Rattle.std.proofs.Common.{◌≡◌, Bool, true, false, List, [], ◌∷◌, refl, ◌∙◌}
use Rattle.std.specs.List.{list_any}
use Rattle.sql_syntax.proofs.prepared.has_true.Goals as goal

same_test : (f : Bool → Bool) → f true ≡ true → f false ≡ false → (xs : List Bool) → list_any f xs ≡ list_any (λ b. b) xs
same_test f h k [] = refl
same_test f h k (true ∷ xs) = rw h refl
same_test f h k (false ∷ xs) = rw k (same_test f h k xs)

pub returns : goal.returns
returns c = c.contains.ensures.value ∙ same_test _ refl refl c.args.options.now
