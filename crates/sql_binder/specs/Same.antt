-- Whether two expressions of a select list are the same one (7.5 Sorting Rows): the same columns, tables and constants, computed in
-- the same way, whichever names they are written by. What acts, as pg_cancel_backend does, is another call each time.
use Rattle.std.specs.Prelude.{ℕ, ◌==◌, ◌&&◌, Bool, true, false, List, [], ◌∷◌, Option, Some, None}
use Rattle.std.specs.Str.{bytes_eq}
use Rattle.cond_logic.specs.declared.cond.ColumnId.{ColumnId}
use Rattle.sql_ast.specs.declared.leaf.Leaf.{Leaf}
use Rattle.sql_ast.specs.declared.leaf.Leaf.TheVariants.{Number, Text, Date, Null, Truth, Parameter, Column, ColumnOf, TableName, TableNameOf}
use Rattle.sql_ast.specs.declared.leaf.Operator.{Operator}
use Rattle.sql_ast.specs.declared.leaf.Operator.TheVariants as op
use Rattle.sql_ast.specs.Expressions.{Tree, Trees, no_more, and_more, leaf, call, call_of_all, negated, binary, in_list, between, is_null, inverted, all_of, any_of}
use Rattle.expression_binder.specs.declared.naming.Lookup.{Lookup}
use Rattle.expression_binder.specs.declared.naming.Lookup.TheVariants.{Missing, One, Several}
use Rattle.expression_binder.specs.Scopes.{Item, look_up, look_up_in, item_called}

-- ---- leaves

abbrev pub is_number : ℕ → Leaf → Bool
is_number n (Number m) = n == m
is_number n _ = false

abbrev pub is_text : List ℕ → Leaf → Bool
is_text z (Text y) = bytes_eq z y
is_text z _ = false

abbrev pub is_date : List ℕ → Leaf → Bool
is_date z (Date y) = bytes_eq z y
is_date z _ = false

abbrev pub is_nothing : Leaf → Bool
is_nothing Null = true
is_nothing _ = false

abbrev pub same_truth : Bool → Bool → Bool
same_truth true b = b
same_truth false true = false
same_truth false false = true

abbrev pub is_truth : Bool → Leaf → Bool
is_truth b (Truth c) = same_truth b c
is_truth b _ = false

abbrev pub is_parameter : ℕ → Leaf → Bool
is_parameter n (Parameter m) = n == m
is_parameter n _ = false

abbrev pub same_id : ColumnId → ColumnId → Bool
same_id c d = (c.item == d.item) && (c.position == d.position)

abbrev pub same_column : Lookup → Lookup → Bool
same_column (One h) (One g) = same_id h.column g.column
same_column _ _ = false

-- the column that a leaf names
abbrev pub column_of : List Item → Leaf → Lookup
column_of items (Column c) = look_up items c
column_of items (ColumnOf t c) = look_up_in (item_called items t) c
column_of items _ = Missing

abbrev pub number_of : Option Item → Option ℕ
number_of None = None
number_of (Some i) = Some i.number

abbrev pub row_table : List Item → Option ℕ
row_table [] = None
row_table (i ∷ is) = Some i.number

-- the item whose tables a leaf names
abbrev pub table_of : List Item → Leaf → Option ℕ
table_of items TableName = row_table items
table_of items (TableNameOf t) = number_of (item_called items t)
table_of items _ = None

abbrev pub same_table : Option ℕ → Option ℕ → Bool
same_table (Some n) (Some m) = n == m
same_table _ _ = false

abbrev pub same_leaf : List Item → Leaf → Leaf → Bool
same_leaf items (Number n) m = is_number n m
same_leaf items (Text z) m = is_text z m
same_leaf items (Date z) m = is_date z m
same_leaf items Null m = is_nothing m
same_leaf items (Truth b) m = is_truth b m
same_leaf items (Parameter n) m = is_parameter n m
same_leaf items (Column c) m = same_column (look_up items c) (column_of items m)
same_leaf items (ColumnOf t c) m = same_column (look_up_in (item_called items t) c) (column_of items m)
same_leaf items TableName m = same_table (row_table items) (table_of items m)
same_leaf items (TableNameOf t) m = same_table (number_of (item_called items t)) (table_of items m)

-- ---- expressions

-- those that stand in select lists
abbrev pub same_operator : Operator → Operator → Bool
same_operator op.Add op.Add = true
same_operator op.Subtract op.Subtract = true
same_operator op.Multiply op.Multiply = true
same_operator op.Divide op.Divide = true
same_operator op.Remainder op.Remainder = true
same_operator _ _ = false

abbrev pub is_leaf : List Item → Leaf → Tree → Bool
is_leaf items l (leaf m) = same_leaf items l m
is_leaf items l _ = false

abbrev pub is_bare : Trees → Bool
is_bare no_more = true
is_bare (and_more t ts) = false

abbrev pub is_call : List ℕ → Trees → Tree → Bool
is_call f ts (call g us) = bytes_eq f g && (is_bare ts && is_bare us)
is_call f ts _ = false

abbrev pub is_negated : (Tree → Bool) → Tree → Bool
is_negated p (negated x) = p x
is_negated p _ = false

abbrev pub is_binary : Operator → (left right : Tree → Bool) → Tree → Bool
is_binary o p q (binary m x y) = same_operator o m && (p x && q y)
is_binary o p q _ = false

abbrev pub same : List Item → Tree → Tree → Bool
same items (leaf l) u = is_leaf items l u
same items (call f ts) u = is_call f ts u
same items (call_of_all f) u = false
same items (negated x) u = is_negated (same items x) u
same items (binary o x y) u = is_binary o (same items x) (same items y) u
same items (in_list b x ts) u = false
same items (between b x y z) u = false
same items (is_null b x) u = false
same items (inverted e) u = false
same items (all_of ts) u = false
same items (any_of ts) u = false
