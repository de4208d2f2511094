-- How the code reads any number of texts: one at a time, behind those that were read before.
use Rattle.std.specs.Prelude.{Bool, true, false, List, [], ◌∷◌, ◌++◌, if◌then◌else◌}
use Rattle.grammar.specs.Reading.{Class, Reading, given, ◌>>=◌, begins_in}

-- one more text behind those that were read, where one begins; or false, and nothing read
unfoldable pub many_step : {T A : Type 0} → Class T → (List T → Reading T A) → List A → List T → Reading T (Bool × List A)
many_step c p done ts = if begins_in c ts then (p ts >>= λ x. given (true, done ++ x.0 ∷ []) x.1) else given (false, done) ts

-- what was read, behind what was read before
abbrev pub with_earlier : {T A : Type 0} → List A → Reading T (List A) → Reading T (List A)
with_earlier done r = r >>= λ x. given (done ++ x.0) x.1
