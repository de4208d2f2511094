-- Whether a table has the columns of another one (the manual, ALTER TABLE, ATTACH PARTITION).
use Rattle.std.specs.Prelude.{ℕ, Bool, ◌&&◌, ◌||◌, not, if◌then◌else◌, List, [], ◌∷◌, bytes_eq}
use Rattle.pg_values.specs.declared.fault.Fault.{Fault}
use Rattle.refusals.specs.Refusals.{column_does_not_match}
use Rattle.history.specs.declared.catalogue.Column.{Column}
use Rattle.ddl_steps.specs.Checks.{same_kind}

-- a column for the parent's: of its name and its kind, and NOT NULL where it is
abbrev pub matches : (parent own : Column) → Bool
matches p c = bytes_eq p.name c.name && (same_kind p.kind c.kind && (not p.not_null || c.not_null))

-- the first of the parent's columns for which another one, or none, stands in its place, or else the first that the
-- parent has not
abbrev pub column_faults : (table : List ℕ) → (parent own : List Column) → List Fault
column_faults t [] [] = []
column_faults t [] (c ∷ cs) = column_does_not_match c.name t ∷ []
column_faults t (p ∷ ps) [] = column_does_not_match p.name t ∷ []
column_faults t (p ∷ ps) (c ∷ cs) = if matches p c then column_faults t ps cs else column_does_not_match p.name t ∷ []
