-- Whose waits a SELECT cancels (the manual, 9.27.2 Server Signaling Functions).
use Rattle.std.specs.Prelude.{ℕ, ℤ, pos, negsuc, ◌==◌, ◌&&◌, not, Bool, false, if◌then◌else◌, List, [], ◌∷◌, Option, Some, None, Result, Ok, Err}
use Rattle.std.specs.List.{list_any}
use Rattle.pg_values.specs.declared.fault.Fault.{Fault}
use Rattle.pg_values.specs.declared.value.Value.{Value}
use Rattle.pg_values.specs.declared.value.Value.TheVariants.{Null, Int4, Int8, Text, Day, Truth}
use Rattle.history.specs.Waits.{before}
use Rattle.cond_logic.specs.Scalars.{ScalarTree, column, literal, table_name, computes, cancels}
use Rattle.cond_logic.specs.Tuples.{no_rows}
use Rattle.cond_logic.specs.Tables.{no_tables}
use Rattle.cond_logic.specs.Values.{is_session, value_for}
use Rattle.expression_binder.specs.declared.scope.Param.{Param}
use Rattle.sql_ast.specs.Queries.{Joined, SelectTree}
use Rattle.sql_binder.specs.Selects.{from_of}
use Rattle.sql_binder.specs.Values.{custom_select}
use Rattle.select_answer.specs.Tuples.{no_tuple, passes}
use Rattle.cond_logic.specs.Asked.{OutputTree, SelectMeant}

-- ---- a call of pg_cancel_backend

-- the session of that number, where there is one
abbrev pub session_of : (sessions : ℕ) → ℤ → Option ℕ
session_of sessions (pos n) = if is_session sessions (pos n) then Some n else None
session_of sessions (negsuc n) = None

-- null is nobody's number
abbrev pub named : (sessions : ℕ) → Value → Option ℕ
named sessions Null = None
named sessions (Int4 n) = session_of sessions n
named sessions (Int8 n) = None
named sessions (Text s) = None
named sessions (Day d) = None
named sessions (Truth b) = None

abbrev pub named_by : (sessions : ℕ) → Result Value Fault → Option ℕ
named_by sessions (Ok v) = named sessions v
named_by sessions (Err f) = None

abbrev pub called : (sessions : ℕ) → ScalarTree → Option ℕ
called sessions (column c) = None
called sessions (literal v) = None
called sessions (table_name item) = None
called sessions (computes op x y) = None
called sessions (cancels x) = named_by sessions (value_for sessions no_rows no_tables x)

-- ---- a select list

abbrev pub with_first : Option ℕ → List ℕ → List ℕ
with_first None ss = ss
with_first (Some s) ss = s ∷ ss

-- in text order
abbrev pub all_called : (sessions : ℕ) → List OutputTree → List ℕ
all_called sessions [] = []
all_called sessions (o ∷ os) = with_first (called sessions o.value) (all_called sessions os)

-- LIMIT 0 asks for no row
abbrev pub is_zero : Option ℕ → Bool
is_zero None = false
is_zero (Some n) = n == 0

-- without FROM a select list is evaluated once, where the conditions hold and a row is asked for
abbrev pub is_evaluated : SelectMeant → Bool
is_evaluated m = passes [] m.conditions no_tuple && not (is_zero m.limit)

abbrev pub asked : (sessions : ℕ) → SelectMeant → List ℕ
asked sessions m = if is_evaluated m then all_called sessions m.outputs else []

-- ---- a SELECT: a call with its own number cancels the SELECT itself, and those behind it are not made

abbrev pub cancels_itself : (session sessions : ℕ) → SelectMeant → Bool
cancels_itself s sessions m = list_any (λ x. x == s) (asked sessions m)

abbrev pub cancelled_by : (session sessions : ℕ) → Result SelectMeant Fault → List ℕ
cancelled_by s sessions (Ok m) = before s (asked sessions m)
cancelled_by s sessions (Err f) = []

abbrev pub cancelled_over : List Param → (session sessions : ℕ) → SelectTree → List Joined → List ℕ
cancelled_over params s sessions t [] = cancelled_by s sessions (custom_select [] params s t)
cancelled_over params s sessions t (j ∷ js) = []

-- of so many sessions beside the control session, which no number names
abbrev pub cancelled : List Param → (session sessions : ℕ) → SelectTree → List ℕ
cancelled params s sessions t = cancelled_over params s sessions t (from_of t)
