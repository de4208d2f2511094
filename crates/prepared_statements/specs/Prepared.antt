-- The prepared statements of a session, in the order in which they were prepared (VI. SQL Commands: PREPARE, EXECUTE,
-- DEALLOCATE, EXPLAIN).
use Rattle.std.specs.Prelude.{ℕ, ◌-◌, max, Bool, not, if◌then◌else◌, List, [], ◌∷◌, ◌++◌, Option, Some, None, map, length, replicate, codes, Result, ok_or}
use Rattle.std.specs.List.{find, list_any}
use Rattle.std.specs.Str.{bytes_eq}
use Rattle.pg_values.specs.declared.fault.Fault.{Fault}
use Rattle.pg_values.specs.declared.value.Kind.{Kind}
use Rattle.refusals.specs.Refusals.{left_out, no_prepared_statement, prepared_statement_is_there}
use Rattle.sql_ast.specs.Expressions.{Trees}
use Rattle.sql_ast.specs.Queries.{RowTree, selects, inserts, updates, deletes}
use Rattle.expression_binder.specs.declared.scope.Param.{Param}
use Rattle.expression_binder.specs.Firsts.{or_first, unless}
use Rattle.expression_binder.specs.Kinds.{count_faults}
use Rattle.expression_binder.specs.Scopes.{Item}
use Rattle.sql_binder.specs.Inserts.{count_of}
use Rattle.prepared_statements.specs.Parameters.{bound_parameters}
use Rattle.table_binder.specs.Columns.{type_fault, kind_or_text}
use Rattle.prepared_statements.specs.Numbers.{greatest}

-- its name, the kinds that are declared of its first parameters, and what it executes
pub record Prepared : Type 0 where
  pub name : List ℕ
  pub kinds : List Kind
  pub statement : RowTree

abbrev pub is_called : List ℕ → Prepared → Bool
is_called n p = bytes_eq n p.name

-- ---- PREPARE

-- no other one has the name
abbrev pub name_faults : List Prepared → List ℕ → List Fault
name_faults ps n = unless (not (list_any (is_called n) ps)) (prepared_statement_is_there n)

-- each declared type is one
abbrev pub types_faults : (types : List (List ℕ)) → List Fault
types_faults [] = []
types_faults (t ∷ ts) = type_fault t ++ types_faults ts

-- one more
abbrev pub prepared : List Prepared → (name : List ℕ) → (types : List (List ℕ)) → RowTree → Result (List Prepared) Fault
prepared ps n ts s = or_first (name_faults ps n ++ types_faults ts) (ps ++ record { name = n; kinds = map kind_or_text ts; statement = s } ∷ [])

-- ---- EXECUTE

-- the one of that name
abbrev pub found : List Prepared → List ℕ → Result Prepared Fault
found ps n = ok_or (find (is_called n) ps) (no_prepared_statement n)

-- how many parameters it has: as many as are declared, and up to the greatest that it names
abbrev pub parameters : Prepared → ℕ
parameters p = max (length p.kinds) (greatest p.statement)

-- as many arguments as parameters
abbrev pub counted : Prepared → Trees → List Fault
counted p ts = count_faults (count_of ts) (parameters p)

-- what is declared of that many parameters: of the first their kinds, of the others nothing
abbrev pub declared_of : List Kind → ℕ → List (Option Kind)
declared_of ks n = map (λ k. Some k) ks ++ replicate (n - length ks) None

-- the parameters with the kinds and values that these arguments give them, or the first fault of the arguments
abbrev pub arguments_of : List Item → Prepared → Trees → Result (List Param) Fault
arguments_of tables p ts = bound_parameters tables (declared_of p.kinds (count_of ts)) p.statement ts

-- ---- EXPLAIN of an EXECUTE

abbrev pub first_word : RowTree → List ℕ
first_word (selects s) = codes "SELECT"
first_word (inserts t names rows) = codes "INSERT"
first_word (updates t ws cond) = codes "UPDATE"
first_word (deletes t cond) = codes "DELETE"

-- only a SELECT is explained
abbrev pub not_explained : RowTree → List Fault
not_explained (selects s) = []
not_explained s = left_out (first_word s) ∷ []

-- ---- DEALLOCATE

abbrev pub without : List ℕ → List Prepared → List Prepared
without n [] = []
without n (p ∷ ps) = if is_called n p then ps else p ∷ without n ps

-- all but the one of that name
abbrev pub deallocated : List Prepared → List ℕ → Result (List Prepared) Fault
deallocated ps n = or_first (unless (list_any (is_called n) ps) (no_prepared_statement n)) (without n ps)
