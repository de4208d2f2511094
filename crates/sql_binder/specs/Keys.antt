-- ORDER BY: an output name, an output position or a column (7.5 Sorting Rows).
use Rattle.std.specs.Prelude.{ℕ, ◌+◌, ◌-◌, ◌&&◌, ◌||◌, not, nat_le, Bool, true, false, if◌then◌else◌, List, [], ◌∷◌, ◌++◌, Option, Some, None, length, codes}
use Rattle.std.specs.Str.{bytes_eq}
use Rattle.pg_values.specs.declared.fault.Fault.{Fault}
use Rattle.refusals.specs.Refusals.{out_of_range, left_out, ambiguous, no_output}
use Rattle.sql_ast.specs.declared.leaf.Leaf.TheVariants.{Number, Column, ColumnOf, TableName, TableNameOf}
use Rattle.sql_ast.specs.Expressions.{Tree, leaf, binary, in_list, between, is_null, inverted, all_of, any_of}
use Rattle.sql_ast.specs.Queries.{Key}
use Rattle.expression_binder.specs.declared.naming.Lookup.{Lookup}
use Rattle.expression_binder.specs.declared.naming.Lookup.TheVariants.{Missing, One, Several}
use Rattle.expression_binder.specs.Conditions.{cond_faults}
use Rattle.expression_binder.specs.Firsts.{unless}
use Rattle.expression_binder.specs.Kinds.{is_arithmetic}
use Rattle.expression_binder.specs.Operands.{operand_faults, look_up_faults}
use Rattle.expression_binder.specs.Scopes.{Item, Scope, look_up, look_up_in, item_called}
use Rattle.cond_logic.specs.declared.select.SortBy.{SortBy}
use Rattle.cond_logic.specs.declared.select.SortBy.TheVariants as by
use Rattle.cond_logic.specs.declared.select.SortKey.{SortKey}
use Rattle.sql_binder.specs.declared.keys.Named.{Named}
use Rattle.sql_binder.specs.declared.keys.Named.TheVariants as named
use Rattle.sql_binder.specs.Items.{HeadingView}
use Rattle.sql_binder.specs.Same.{same}

-- the output columns of that name give that expression
abbrev pub give_all : List Item → (name : List ℕ) → Tree → List HeadingView → Bool
give_all items name t [] = true
give_all items name t (h ∷ hs) = if bytes_eq h.name name && not (same items h.value t) then false else give_all items name t hs

-- the first of that name, where all give the same expression
abbrev pub one_of : (place : ℕ) → Bool → Named
one_of place true = named.One place
one_of place false = named.Several

-- the output columns of that name, from a place on: several that give the same expression count as one
abbrev pub output_named : List Item → (name : List ℕ) → (place : ℕ) → List HeadingView → Named
output_named items name place [] = named.Missing
output_named items name place (h ∷ hs) = if bytes_eq h.name name then one_of place (give_all items name h.value hs) else output_named items name (place + 1) hs

-- where no output column has the name it is a column's
abbrev pub name_faults : Scope → List ℕ → Named → List Fault
name_faults s name named.Missing = look_up_faults name (look_up s.items name)
name_faults s name (named.One place) = []
name_faults s name named.Several = ambiguous name ∷ []

-- a number past every bigint is none, and no position
abbrev pub position_faults : ℕ → (count : ℕ) → List Fault
position_faults n count = unless (not (nat_le n 9223372036854775807) || (nat_le 1 n && nat_le n count)) (no_output n)

-- a key that is computed is judged as what it is, a condition or an operand
abbrev pub computed_faults : Scope → Tree → List Fault
computed_faults s (binary o x y) = if is_arithmetic o then operand_faults s (binary o x y) else cond_faults s (binary o x y)
computed_faults s (in_list b x ts) = cond_faults s (in_list b x ts)
computed_faults s (between b x y z) = cond_faults s (between b x y z)
computed_faults s (is_null b x) = cond_faults s (is_null b x)
computed_faults s (inverted e) = cond_faults s (inverted e)
computed_faults s (all_of ts) = cond_faults s (all_of ts)
computed_faults s (any_of ts) = cond_faults s (any_of ts)
computed_faults s t = operand_faults s t

abbrev pub key_faults : Scope → List HeadingView → Tree → List Fault
key_faults s os (leaf (Number n)) = position_faults n (length os)
key_faults s os (leaf (Column c)) = name_faults s c (output_named s.items c 0 os)
key_faults s os (leaf (ColumnOf t c)) = operand_faults s (leaf (ColumnOf t c))
key_faults s os (leaf TableName) = operand_faults s (leaf TableName)
key_faults s os (leaf (TableNameOf t)) = operand_faults s (leaf (TableNameOf t))
key_faults s os t = computed_faults s t ++ left_out (codes "ORDER") ∷ []

abbrev pub keys_faults : Scope → List HeadingView → List Key → List Fault
keys_faults s os [] = []
keys_faults s os (k ∷ ks) = key_faults s os k.0 ++ keys_faults s os ks

abbrev pub key_constants : Tree → List Fault
key_constants (leaf (Number n)) = unless (nat_le n 9223372036854775807) out_of_range
key_constants t = []

abbrev pub keys_constants : List Key → List Fault
keys_constants [] = []
keys_constants (k ∷ ks) = key_constants k.0 ++ keys_constants ks

-- ---- what rows are sorted by

abbrev pub by_column : Lookup → SortBy
by_column Missing = by.Output 0
by_column (One h) = by.Column h.column
by_column Several = by.Output 0

abbrev pub by_name : Scope → List ℕ → Named → SortBy
by_name s name named.Missing = by_column (look_up s.items name)
by_name s name (named.One place) = by.Output place
by_name s name named.Several = by.Output 0

abbrev pub by_row_table : List Item → SortBy
by_row_table [] = by.Output 0
by_row_table (i ∷ is) = by.TableName i.number

abbrev pub by_item_table : Option Item → SortBy
by_item_table None = by.Output 0
by_item_table (Some i) = by.TableName i.number

abbrev pub key_by : Scope → List HeadingView → Tree → SortBy
key_by s os (leaf (Number n)) = by.Output (n - 1)
key_by s os (leaf (Column c)) = by_name s c (output_named s.items c 0 os)
key_by s os (leaf (ColumnOf t c)) = by_column (look_up_in (item_called s.items t) c)
key_by s os (leaf TableName) = by_row_table s.items
key_by s os (leaf (TableNameOf t)) = by_item_table (item_called s.items t)
key_by s os t = by.Output 0

abbrev pub sort_key : Scope → List HeadingView → Key → SortKey
sort_key s os k = record { by = key_by s os k.0; descending = k.1.0; nulls_first = k.1.1 }

abbrev pub sort_keys : Scope → List HeadingView → List Key → List SortKey
sort_keys s os [] = []
sort_keys s os (k ∷ ks) = sort_key s os k ∷ sort_keys s os ks
