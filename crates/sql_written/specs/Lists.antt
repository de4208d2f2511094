-- Lists with commas between, and what stands in parentheses.
use Rattle.std.specs.Prelude.{ℕ, List, [], ◌∷◌, ◌++◌, Option, Some, None}
use Rattle.sql_ast.specs.Expressions.{Tree, Trees, no_more, and_more}
use Rattle.sql_written.specs.Marks.{Mark, blank}
use Rattle.sql_written.specs.Spelling as spelled
use Rattle.sql_written.specs.Written.{marks}

-- behind a part
abbrev pub more_parts : {A : Type 0} → (A → List Mark) → List A → List Mark
more_parts f [] = []
more_parts f (x ∷ xs) = spelled.comma ∷ blank ∷ (f x ++ more_parts f xs)

abbrev pub parts : {A : Type 0} → (A → List Mark) → List A → List Mark
parts f [] = []
parts f (x ∷ xs) = f x ++ more_parts f xs

abbrev pub enclosed : List Mark → List Mark
enclosed ms = spelled.opening ∷ (ms ++ spelled.closing ∷ [])

-- names, and expressions
abbrev pub name_marks : List ℕ → List Mark
name_marks z = spelled.name z ∷ []

abbrev pub names : List (List ℕ) → List Mark
names zs = parts name_marks zs

abbrev pub list_of : Trees → List Tree
list_of no_more = []
list_of (and_more t ts) = t ∷ list_of ts

abbrev pub values : Trees → List Mark
values ts = parts marks (list_of ts)

-- R holds of each
abbrev pub Each : {A : Type 0} → (A → Type 0) → List A → Type 0
Each R [] = Unit {0}
Each R (x ∷ xs) = R x × Each R xs

-- R holds of each of one or more
abbrev pub SomeAre : {A : Type 0} → (A → Type 0) → List A → Type 0
SomeAre R [] = ⊥
SomeAre R (x ∷ xs) = R x × Each R xs

-- R holds of what is there
abbrev pub Maybe : {A : Type 0} → (A → Type 0) → Option A → Type 0
Maybe R None = Unit {0}
Maybe R (Some x) = R x
