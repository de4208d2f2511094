-- The row that an UPDATE makes (the manual, UPDATE; 10.4 Value Storage).
use Rattle.std.specs.Prelude.{ℕ, List, [], ◌∷◌, map, slice_index_or, slice_set, Result, Ok, Err}
use Rattle.pg_values.specs.declared.fault.Fault.{Fault}
use Rattle.pg_values.specs.declared.value.Kind.{Kind}
use Rattle.pg_values.specs.declared.value.Kind.TheVariants.{Text as KText}
use Rattle.pg_values.specs.declared.value.Value.{Value}
use Rattle.value_rules.specs.Assignment.{assigned}
use Rattle.pg_values.specs.Kinds.{kind_of}
use Rattle.refusals.specs.Refusals.{out_of_range, wrong_kind}
use Rattle.value_rules.specs.declared.assignment.CoerceFault.{CoerceFault}
use Rattle.value_rules.specs.declared.assignment.CoerceFault.TheVariants.{Kinds, Range}
use Rattle.history.specs.declared.catalogue.Column.{Column}
use Rattle.cond_logic.specs.Tuples.{no_rows, put}
use Rattle.cond_logic.specs.Tables.{no_tables}
use Rattle.cond_logic.specs.Values.{value_for}
use Rattle.cond_logic.specs.Asked.{SettingMeant}

abbrev pub kind_at : List Column → ℕ → Kind
kind_at columns place = slice_index_or (map (λ c. c.kind) columns) place KText

-- the value that a column of the kind gets: an integer becomes a bigint, and a bigint that fits an integer
abbrev pub or_refused : Value → Kind → Result Value CoerceFault → Result Value Fault
or_refused v kind (Ok w) = Ok w
or_refused v kind (Err Range) = Err out_of_range
or_refused v kind (Err Kinds) = Err (wrong_kind (kind_of v) kind)

abbrev pub assigned_to : Kind → Result Value Fault → Result Value Fault
assigned_to kind (Ok v) = or_refused v kind (assigned v kind)
assigned_to kind (Err f) = Err f

-- the value of a setting, computed from the row as it was; tables have no names in SET, and no session is cancelled there
abbrev pub set_value : List Column → (was : List Value) → SettingMeant → Result Value Fault
set_value columns was s = assigned_to (kind_at columns s.column) (value_for 0 (put no_rows 0 was) no_tables s.value)

abbrev pub with_value : (Value → Result (List Value) Fault) → Result Value Fault → Result (List Value) Fault
with_value next (Ok v) = next v
with_value next (Err f) = Err f

-- setting after setting; the first fault refuses
abbrev pub set_in : List Column → (was now : List Value) → List SettingMeant → Result (List Value) Fault
set_in columns was now [] = Ok now
set_in columns was now (s ∷ ss) = with_value (λ v. set_in columns was (slice_set now s.column v) ss) (set_value columns was s)

-- the row with the settings' values in their columns
abbrev pub new_row : List Column → List SettingMeant → List Value → Result (List Value) Fault
new_row columns settings row = set_in columns row row settings
