-- Why statements are refused: each SQLSTATE with its texts (Appendix A. PostgreSQL Error Codes), in the order of the
-- states. The line above a refusal is its text; the words that stand for the holes in angle brackets are its arguments,
-- in their order. Where a state has several texts, the text itself comes first among what a fault tells.
use Rattle.std.specs.Prelude.{ℕ, List, [], ◌∷◌, codes}
use Rattle.std.specs.Fmt.{decimal}
use Rattle.pg_values.specs.Words.{which_word}
use Rattle.pg_values.specs.declared.fault.Fault.{Fault}
use Rattle.pg_values.specs.declared.value.Kind.{Kind}
use Rattle.pg_values.specs.declared.value.Value.{Value}
use Rattle.pg_values.specs.declared.which.Which.{Which}
use Rattle.refusals.specs.Kinds.{kind_word}
use Rattle.refusals.specs.RowTexts.{row_text}

-- a fault of this state that tells these texts
abbrev pub fault_of : List ℕ → List (List ℕ) → Fault
fault_of state texts = record { code = record { bytes = state }; args = texts }

-- ---- Class 0A: feature not supported

-- `<word> is not in this profile`
abbrev pub left_out : List ℕ → Fault
left_out word = fault_of (codes "0A000") (word ∷ [])

-- ---- Class 22: data exception

-- `number out of range`
abbrev pub out_of_range : Fault
out_of_range = fault_of (codes "22003") []

-- `<text> is no date`
abbrev pub no_date : List ℕ → Fault
no_date text = fault_of (codes "22007") (text ∷ [])

-- `date out of range`
abbrev pub date_out_of_range : Fault
date_out_of_range = fault_of (codes "22008") []

-- `division by zero`
abbrev pub division_by_zero : Fault
division_by_zero = fault_of (codes "22012") []

-- `negative LIMIT`
abbrev pub negative_limit : Fault
negative_limit = fault_of (codes "2201W") []

-- `negative OFFSET`
abbrev pub negative_offset : Fault
negative_offset = fault_of (codes "2201X") []

-- `no value <v> for <setting>`
abbrev pub no_value : List ℕ → List ℕ → Fault
no_value v setting = fault_of (codes "22023") (v ∷ setting ∷ [])

-- `<text> is no <kind>`
abbrev pub no_such_value : List ℕ → Kind → Fault
no_such_value text kind = fault_of (codes "22P02") (text ∷ kind_word kind ∷ [])

-- ---- Class 23: integrity constraint violation

-- `column <c> of <leaf> is null`
abbrev pub null_column : List ℕ → List ℕ → Fault
null_column c leaf = fault_of (codes "23502") (c ∷ leaf ∷ [])

-- `no partition of <t> accepts <key>`
abbrev pub no_partition : List ℕ → List Value → Fault
no_partition t key = fault_of (codes "23514") (codes "no partition of <t> accepts <key>" ∷ t ∷ row_text key ∷ [])

-- `<t> does not accept <key>`
abbrev pub does_not_accept : List ℕ → List Value → Fault
does_not_accept t key = fault_of (codes "23514") (codes "<t> does not accept <key>" ∷ t ∷ row_text key ∷ [])

-- `<t> has the row <row> outside its new bounds`
abbrev pub outside_new_bounds : List ℕ → List Value → Fault
outside_new_bounds t row = fault_of (codes "23514") (codes "<t> has the row <row> outside its new bounds" ∷ t ∷ row_text row ∷ [])

-- `default <d> has the row <row> for <p>`
abbrev pub default_has_row : List ℕ → List Value → List ℕ → Fault
default_has_row d row p = fault_of (codes "23514") (codes "default <d> has the row <row> for <p>" ∷ d ∷ row_text row ∷ p ∷ [])

-- `<t> has a kept CHECK that refuses <row>`
abbrev pub kept_check : List ℕ → List Value → Fault
kept_check t row = fault_of (codes "23514") (codes "<t> has a kept CHECK that refuses <row>" ∷ t ∷ row_text row ∷ [])

-- ---- Class 25: invalid transaction state

-- `concurrent detach inside a transaction`
abbrev pub detach_inside_a_transaction : Fault
detach_inside_a_transaction = fault_of (codes "25001") (codes "concurrent detach inside a transaction" ∷ [])

-- `isolation level after a snapshot`
abbrev pub isolation_level_after_a_snapshot : Fault
isolation_level_after_a_snapshot = fault_of (codes "25001") (codes "isolation level after a snapshot" ∷ [])

-- `LOCK TABLE outside a transaction`
abbrev pub lock_outside_a_transaction : Fault
lock_outside_a_transaction = fault_of (codes "25P01") []

-- `the transaction has failed`
abbrev pub the_transaction_has_failed : Fault
the_transaction_has_failed = fault_of (codes "25P02") []

-- ---- Class 26: invalid SQL statement name

-- `no prepared statement <n>`
abbrev pub no_prepared_statement : List ℕ → Fault
no_prepared_statement n = fault_of (codes "26000") (n ∷ [])

-- ---- Class 40: transaction rollback

-- `row of <leaf> was changed by session <s>`
abbrev pub row_was_changed : List ℕ → List ℕ → Fault
row_was_changed leaf s = fault_of (codes "40001") (codes "row of <leaf> was changed by session <s>" ∷ leaf ∷ s ∷ [])

-- `row of <leaf> was moved by session <s>`
abbrev pub row_was_moved : List ℕ → List ℕ → Fault
row_was_moved leaf s = fault_of (codes "40001") (codes "row of <leaf> was moved by session <s>" ∷ leaf ∷ s ∷ [])

-- `deadlock of <s>, <s>, ..`
abbrev pub deadlock : List (List ℕ) → Fault
deadlock sessions = fault_of (codes "40P01") sessions

-- ---- Class 42: syntax error or access rule violation

-- `syntax error at byte <n>`
abbrev pub syntax_error : ℕ → Fault
syntax_error n = fault_of (codes "42601") (codes "syntax error at byte <n>" ∷ decimal n ∷ [])

-- `<n> values for <m>`
abbrev pub wrong_count : ℕ → ℕ → Fault
wrong_count n m = fault_of (codes "42601") (codes "<n> values for <m>" ∷ decimal n ∷ decimal m ∷ [])

-- `column <c> is set twice`
abbrev pub set_twice : List ℕ → Fault
set_twice c = fault_of (codes "42601") (codes "column <c> is set twice" ∷ c ∷ [])

-- `column <c> is there twice`
abbrev pub column_twice : List ℕ → Fault
column_twice c = fault_of (codes "42701") (c ∷ [])

-- `column <c> is ambiguous`
abbrev pub ambiguous : List ℕ → Fault
ambiguous c = fault_of (codes "42702") (c ∷ [])

-- `no column <c>`
abbrev pub no_column : List ℕ → Fault
no_column c = fault_of (codes "42703") (c ∷ [])

-- `no type <x>`
abbrev pub no_type : List ℕ → Fault
no_type x = fault_of (codes "42704") (codes "no type <x>" ∷ x ∷ [])

-- `no setting <x>`
abbrev pub no_setting : List ℕ → Fault
no_setting x = fault_of (codes "42704") (codes "no setting <x>" ∷ x ∷ [])

-- `table name <a> is used twice`
abbrev pub name_twice : List ℕ → Fault
name_twice a = fault_of (codes "42712") (a ∷ [])

-- `<kind> where <kind> is wanted`
abbrev pub wrong_kind : Kind → Kind → Fault
wrong_kind given wanted = fault_of (codes "42804") (codes "<kind> where <kind> is wanted" ∷ kind_word given ∷ kind_word wanted ∷ [])

-- `column <c> of <t> does not match`
abbrev pub column_does_not_match : List ℕ → List ℕ → Fault
column_does_not_match c t = fault_of (codes "42804") (codes "column <c> of <t> does not match" ∷ c ∷ t ∷ [])

-- `<t> is not partitioned`
abbrev pub not_partitioned : List ℕ → Fault
not_partitioned t = fault_of (codes "42809") (codes "<t> is not partitioned" ∷ t ∷ [])

-- `<t> is already a partition`
abbrev pub already_a_partition : List ℕ → Fault
already_a_partition t = fault_of (codes "42809") (codes "<t> is already a partition" ∷ t ∷ [])

-- `no operator <kind> <op> <kind>`
abbrev pub no_operator : Kind → List ℕ → Kind → Fault
no_operator left op right = fault_of (codes "42883") (codes "no operator <kind> <op> <kind>" ∷ kind_word left ∷ op ∷ kind_word right ∷ [])

-- `no function <f>`
abbrev pub no_function : List ℕ → Fault
no_function f = fault_of (codes "42883") (codes "no function <f>" ∷ f ∷ [])

-- `no table <t>`
abbrev pub no_table : List ℕ → Fault
no_table t = fault_of (codes "42P01") (codes "no table <t>" ∷ t ∷ [])

-- `<p> is not a partition of <t>`
abbrev pub not_a_partition : List ℕ → List ℕ → Fault
not_a_partition p t = fault_of (codes "42P01") (codes "<p> is not a partition of <t>" ∷ p ∷ t ∷ [])

-- `no parameter <n>`
abbrev pub no_parameter : ℕ → Fault
no_parameter n = fault_of (codes "42P02") (decimal n ∷ [])

-- `prepared statement <n> is there`
abbrev pub prepared_statement_is_there : List ℕ → Fault
prepared_statement_is_there n = fault_of (codes "42P05") (n ∷ [])

-- `table <t> is there`
abbrev pub table_is_there : List ℕ → Fault
table_is_there t = fault_of (codes "42P07") (t ∷ [])

-- `no output column <n>`
abbrev pub no_output : ℕ → Fault
no_output n = fault_of (codes "42P10") (decimal n ∷ [])

-- `<strategy> takes one column`
abbrev pub takes_one_column : List ℕ → Fault
takes_one_column strategy = fault_of (codes "42P16") (codes "<strategy> takes one column" ∷ strategy ∷ [])

-- `column <c> is twice in the key`
abbrev pub twice_in_key : List ℕ → Fault
twice_in_key c = fault_of (codes "42P16") (codes "column <c> is twice in the key" ∷ c ∷ [])

-- `the bound does not suit <strategy>`
abbrev pub bound_does_not_suit : List ℕ → Fault
bound_does_not_suit strategy = fault_of (codes "42P16") (codes "the bound does not suit <strategy>" ∷ strategy ∷ [])

-- `the bound has <n> values for <m>`
abbrev pub wrong_bound_count : ℕ → ℕ → Fault
wrong_bound_count n m = fault_of (codes "42P16") (codes "the bound has <n> values for <m>" ∷ decimal n ∷ decimal m ∷ [])

-- `null in a range bound`
abbrev pub null_in_range : Fault
null_in_range = fault_of (codes "42P16") (codes "null in a range bound" ∷ [])

-- `<word> must be repeated`
abbrev pub not_repeated : List ℕ → Fault
not_repeated word = fault_of (codes "42P16") (codes "<word> must be repeated" ∷ word ∷ [])

-- `bad modulus or remainder`
abbrev pub bad_remainder : Fault
bad_remainder = fault_of (codes "42P16") (codes "bad modulus or remainder" ∷ [])

-- `a hash table has no default`
abbrev pub no_hash_default : Fault
no_hash_default = fault_of (codes "42P16") (codes "a hash table has no default" ∷ [])

-- `empty range`
abbrev pub empty_range : Fault
empty_range = fault_of (codes "42P17") (codes "empty range" ∷ [])

-- `<t> has the default <d>`
abbrev pub second_default : List ℕ → List ℕ → Fault
second_default t d = fault_of (codes "42P17") (codes "<t> has the default <d>" ∷ t ∷ d ∷ [])

-- `modulus <m> does not suit <n>`
abbrev pub modulus_does_not_suit : ℕ → ℕ → Fault
modulus_does_not_suit m n = fault_of (codes "42P17") (codes "modulus <m> does not suit <n>" ∷ decimal m ∷ decimal n ∷ [])

-- `the bound overlaps <p>`
abbrev pub bound_overlaps : List ℕ → Fault
bound_overlaps p = fault_of (codes "42P17") (codes "the bound overlaps <p>" ∷ p ∷ [])

-- `<t> is above <p>`
abbrev pub is_above : List ℕ → List ℕ → Fault
is_above t p = fault_of (codes "42P17") (codes "<t> is above <p>" ∷ t ∷ p ∷ [])

-- ---- Class 54: program limit exceeded

-- `too many <which>`
abbrev pub too_many : Which → Fault
too_many which = fault_of (codes "54000") (which_word which ∷ [])

-- ---- Class 55: object not in prerequisite state

-- `<t> has the default partition <d>`
abbrev pub has_default_partition : List ℕ → List ℕ → Fault
has_default_partition t d = fault_of (codes "55000") (codes "<t> has the default partition <d>" ∷ t ∷ d ∷ [])

-- `partition <p> of <t> is pending`
abbrev pub partition_is_pending : List ℕ → List ℕ → Fault
partition_is_pending p t = fault_of (codes "55000") (codes "partition <p> of <t> is pending" ∷ p ∷ t ∷ [])

-- `<p> is not the pending partition of <t>`
abbrev pub not_the_pending_partition : List ℕ → List ℕ → Fault
not_the_pending_partition p t = fault_of (codes "55000") (codes "<p> is not the pending partition of <t>" ∷ p ∷ t ∷ [])

-- ---- Class 57: operator intervention

-- `statement cancelled`
abbrev pub statement_cancelled : Fault
statement_cancelled = fault_of (codes "57014") []
