-- The partition key of a table, or its first fault (CREATE TABLE, PARTITION BY; 5.11.2 Declarative Partitioning).
use Rattle.std.specs.Prelude.{ℕ, ◌==◌, nat_le, List, [], ◌∷◌, ◌++◌, Option, is_some, unwrap_or, codes, map, length, position, slice_index_or, Result}
use Rattle.std.specs.Str.{bytes_eq}
use Rattle.pg_values.specs.declared.which.Which.TheVariants.{KeyColumns as WhichKeyColumns}
use Rattle.pg_values.specs.declared.fault.Fault.{Fault}
use Rattle.pg_values.specs.declared.value.Kind.TheVariants.{Text as KText}
use Rattle.refusals.specs.Refusals.{no_column, too_many, takes_one_column, twice_in_key}
use Rattle.sql_ast.specs.declared.table_definition.Partitioning.{Partitioning}
use Rattle.pg_values.specs.declared.strategy.Strategy.{Strategy}
use Rattle.pg_values.specs.declared.strategy.Strategy.TheVariants.{Range as ByRange, List as ByList, Hash as ByHash}
use Rattle.bound_forms.specs.declared.level.KeyColumn.{KeyColumn}
use Rattle.bound_forms.specs.declared.level.Level.{Level}
use Rattle.history.specs.declared.catalogue.Column.{Column}
use Rattle.expression_binder.specs.Firsts.{or_first, unless}
use Rattle.table_binder.specs.Names.{twice_faults}

-- LIST has one key column
abbrev pub count_faults : Strategy → ℕ → List Fault
count_faults ByRange n = []
count_faults ByList n = unless (n == 1) (takes_one_column (codes "LIST"))
count_faults ByHash n = []

-- none stands twice, and there are at most 8
abbrev pub form_faults : Strategy → (names : List (List ℕ)) → List Fault
form_faults strategy names =
    count_faults strategy (length names)
    ++ (twice_faults twice_in_key [] names
    ++ unless (nat_le (length names) 8) (too_many WhichKeyColumns))

abbrev pub place_of : List Column → List ℕ → Option ℕ
place_of columns name = position (λ c. bytes_eq c.name name) columns

-- each is a column of the table
abbrev pub missing_fault : List Column → List ℕ → List Fault
missing_fault columns name = unless (is_some (place_of columns name)) (no_column name)

abbrev pub missing_faults : List Column → (names : List (List ℕ)) → List Fault
missing_faults columns [] = []
missing_faults columns (n ∷ ns) = missing_fault columns n ++ missing_faults columns ns

abbrev pub key_faults : List Column → Strategy → (names : List (List ℕ)) → List Fault
key_faults columns strategy names = form_faults strategy names ++ missing_faults columns names

abbrev pub key_at : List Column → ℕ → KeyColumn
key_at columns place = record { position = place; kind = slice_index_or (map (λ c. c.kind) columns) place KText }

abbrev pub key_column : List Column → List ℕ → KeyColumn
key_column columns name = key_at columns (unwrap_or (place_of columns name) 0)

-- a strategy and key columns
pub record Key : Type 0 where
  pub strategy : Strategy
  pub columns : List KeyColumn

abbrev pub key_of : Level → Key
key_of level = record { strategy = level.strategy; columns = level.columns }

abbrev pub bound_key : List Column → Partitioning → Result Key Fault
bound_key columns by =
    or_first (key_faults columns by.strategy by.columns)
    (record { strategy = by.strategy; columns = map (key_column columns) by.columns })
