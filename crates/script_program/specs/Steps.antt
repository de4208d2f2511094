-- The steps of a script, over all sessions in order. The control session has the number 0, the others 1, 2, ..
use Rattle.std.specs.Prelude.{◌≡◌, ℕ, suc, if◌then◌else◌, List, [], ◌∷◌, ◌++◌, Option, Some, None, map, slice_index_or}
use Rattle.std.specs.Borrow.{Bor}
use Rattle.std.specs.Map.{lookup}
use Rattle.std.specs.Str.{bytes_eq}
use Rattle.spec_reader.specs.declared.spec.SessionSpec.{SessionSpec}
use Rattle.spec_reader.specs.declared.spec.StepSpec.{StepSpec}

pub record StepView : Type 0 where
  pub session : ℕ
  pub name : List ℕ
  pub text : List ℕ

-- the parts that the items of a list give, each with its number, from n on
abbrev pub numbered : {A B : Type 0} → (ℕ → A → List B) → ℕ → List A → List B
numbered f n [] = []
numbered f n (x ∷ xs) = f n x ++ numbered f (suc n) xs

abbrev pub step_view : ℕ → StepSpec → StepView
step_view session t = record { session = session; name = t.name; text = t.block }

abbrev pub steps_in : ℕ → SessionSpec → List StepView
steps_in session s = map (step_view session) s.steps

abbrev pub steps_of : List SessionSpec → List StepView
steps_of sessions = numbered steps_in 1 sessions

-- the number of the first step that is called so, from n on
abbrev pub number_from : ℕ → List ℕ → List StepView → Option ℕ
number_from n name [] = None
number_from n name (x ∷ xs) = if bytes_eq x.name name then Some n else number_from (suc n) name xs

abbrev pub number_of : List ℕ → List StepView → Option ℕ
number_of name steps = number_from 0 name steps

-- each name with the number of the first step that is called so
abbrev pub AreNumbers : List (Bor (List ℕ) × ℕ) → List StepView → Type 0
AreNumbers numbers steps = (name : Bor (List ℕ)) → lookup (λ k. bytes_eq name.now k.now) numbers ≡ number_of name.now steps

abbrev pub no_step : StepView
no_step = record { session = 0; name = []; text = [] }

abbrev pub step_at : List StepView → ℕ → StepView
step_at steps k = slice_index_or steps k no_step
