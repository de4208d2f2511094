-- The printed form of a table, in the manner of psql and isolationtester. Every definition is over any
-- list of names, kinds and rows: there are as many columns as names, a missing value is null, and a missing kind is text.
use Rattle.std.specs.Prelude.{ℕ, zero, suc, ◌+◌, ◌-◌, ◌==◌, Bool, true, false, ◌&&◌, ◌||◌, nat_le, nat_lt, if◌then◌else◌, List, [], ◌∷◌, ◌++◌, max, length, map, codes, decimal, replicate, count_by, slice_index_or}
use Rattle.std.specs.List.{flat_map, join_by, range_with_len}
use Rattle.pg_values.specs.declared.value.Kind.{Kind}
use Rattle.pg_values.specs.declared.value.Kind.TheVariants.{Int4 as KInt4, Int8 as KInt8, Text as KText}
use Rattle.pg_values.specs.declared.value.Value.{Value}
use Rattle.pg_values.specs.declared.value.Value.TheVariants.{Null}
use Rattle.pg_values.specs.Spelling.{spelled}
use Rattle.out_text.specs.declared.column.Column.{Column}

-- the characters of a text in UTF-8: its bytes, but for those from 128 to 191, which carry a character on
abbrev pub char_count : List ℕ → ℕ
char_count = count_by (λ b. nat_lt b 128 || nat_le 192 b)

-- integers of both widths stand right
abbrev pub is_integer : Kind → Bool
is_integer KInt4 = true
is_integer KInt8 = true
is_integer _ = false

abbrev pub is_null : Value → Bool
is_null Null = true
is_null _ = false

-- the name, the kind and the value at a place
abbrev pub name_text : ℕ → List (List ℕ) → List ℕ
name_text place names = slice_index_or names place []

abbrev pub kind_at : ℕ → List Kind → Kind
kind_at place kinds = slice_index_or kinds place KText

abbrev pub cell_value : ℕ → List Value → Value
cell_value place row = slice_index_or row place Null

abbrev pub cell_text : ℕ → List Value → List ℕ
cell_text place row = spelled (cell_value place row)

-- the characters of the widest text
abbrev pub widest : List (List ℕ) → ℕ
widest [] = 0
widest (text ∷ texts) = max (char_count text) (widest texts)

-- a column is as wide as its name or its widest cell
abbrev pub column_width : ℕ → List (List ℕ) → List (List Value) → ℕ
column_width place names rows = widest (name_text place names ∷ map (cell_text place) rows)

abbrev pub column_at : List (List ℕ) → List Kind → List (List Value) → ℕ → Column
column_at names kinds rows place = record {
  place = place;
  width = column_width place names rows;
  is_right = is_integer (kind_at place kinds);
  is_last = place + 1 == length names;
}

-- a column for each name
abbrev pub columns_of : List (List ℕ) → List Kind → List (List Value) → List Column
columns_of names kinds rows = map (column_at names kinds rows) (range_with_len 0 (length names))

-- a text filled up with spaces: before it where the column stands right, else behind it, but not in the last column
abbrev pub aligned : Column → List ℕ → List ℕ
aligned column text =
    let spaces = replicate (column.width - char_count text) 32 in
    if column.is_right then spaces ++ text else (if column.is_last then text else text ++ spaces)

abbrev pub printed_name : List (List ℕ) → Column → List ℕ
printed_name names column = aligned column (name_text column.place names)

-- null in the last column is printed as nothing
abbrev pub printed_cell : List Value → Column → List ℕ
printed_cell row column =
    if column.is_last && is_null (cell_value column.place row) then [] else aligned column (cell_text column.place row)

-- the parts of all columns, joined by one byte
abbrev pub line : (Column → List ℕ) → ℕ → List Column → List ℕ
line part byte columns = join_by part (byte ∷ []) columns ++ codes "\n"

-- what stands before column i
abbrev pub between : ℕ → ℕ → List ℕ
between zero byte = []
between (suc i) byte = byte ∷ []

-- joined by `|`
abbrev pub names_line : List (List ℕ) → List Column → List ℕ
names_line names = line (printed_name names) 124

abbrev pub row_line : List Column → List Value → List ℕ
row_line columns row = line (printed_cell row) 124 columns

-- dashes joined by `+`
abbrev pub rule : List Column → List ℕ
rule = line (λ column. replicate column.width 45) 43

abbrev pub count_line : ℕ → List ℕ
count_line n = codes "(" ++ decimal n ++ (if n == 1 then codes " row)\n" else codes " rows)\n")

-- the names, the rule, a line for each row, their count and an empty line
abbrev pub printed_table : List (List ℕ) → List Kind → List (List Value) → List ℕ
printed_table names kinds rows =
    let columns = columns_of names kinds rows in
    names_line names columns ++ rule columns ++ flat_map (row_line columns) rows ++ count_line (length rows) ++ codes "\n"
