-- The tables in which the rows of a tuple lie (5.5 System Columns, tableoid), for up to four FROM items.
use Rattle.std.specs.Prelude.{ℕ, List, Option, Some, None, ◌==◌, if◌then◌else◌}
use Rattle.pg_values.specs.declared.ids.LeafId.{LeafId}

-- a leaf, and the name of its table
pub record Leaf : Type 0 where
  pub id : LeafId
  pub name : List ℕ

-- those that are there, by item
pub record Tables : Type 0 where
  pub first : Option Leaf
  pub second : Option Leaf
  pub third : Option Leaf
  pub fourth : Option Leaf

abbrev pub no_tables : Tables
no_tables = record { first = None; second = None; third = None; fourth = None }

abbrev pub table : Tables → ℕ → Option Leaf
table t n = if n == 0 then t.first else if n == 1 then t.second else if n == 2 then t.third else if n == 3 then t.fourth else None

-- the row of that item lies in this one
abbrev pub with_table : Tables → ℕ → Leaf → Tables
with_table t n leaf = record {
  first = if n == 0 then Some leaf else t.first;
  second = if n == 1 then Some leaf else t.second;
  third = if n == 2 then Some leaf else t.third;
  fourth = if n == 3 then Some leaf else t.fourth;
}
