-- A tuple: the rows of up to four FROM items, and the arguments of the statement (7.2.1 The FROM Clause).
use Rattle.std.specs.Prelude.{ℕ, List, Option, Some, None, slice_index_or, ◌==◌, if◌then◌else◌}
use Rattle.std.specs.Borrow.{Bor}
use Rattle.pg_values.specs.declared.value.Value.{Value}
use Rattle.pg_values.specs.declared.value.Value.TheVariants.{Null}
use Rattle.cond_logic.specs.declared.cond.Operand.{Operand}
use Rattle.cond_logic.specs.declared.cond.Operand.TheVariants.{Column, Lit, Param}

-- the rows that are there, by item
pub record Places : Type 0 where
  pub first : Option (List Value)
  pub second : Option (List Value)
  pub third : Option (List Value)
  pub fourth : Option (List Value)

pub record Bound : Type 0 where
  pub args : List Value
  pub rows : Places

abbrev pub no_rows : Places
no_rows = record { first = None; second = None; third = None; fourth = None }

abbrev pub place : Places → ℕ → Option (List Value)
place p n = if n == 0 then p.first else if n == 1 then p.second else if n == 2 then p.third else if n == 3 then p.fourth else None

-- the row goes into that place alone
abbrev pub put : Places → ℕ → List Value → Places
put p n row = record {
  first = if n == 0 then Some row else p.first;
  second = if n == 1 then Some row else p.second;
  third = if n == 2 then Some row else p.third;
  fourth = if n == 3 then Some row else p.fourth;
}

-- what a lent row is
abbrev pub lent : {A : Type 0} → Option (Bor A) → Option A
lent None = None
lent (Some b) = Some b.now

-- what a look-up lends, null where it lends nothing
abbrev pub or_null : Option (Bor Value) → Value
or_null None = Null
or_null (Some v) = v.now

abbrev pub value_in : Option (List Value) → ℕ → Value
value_in None i = Null
value_in (Some row) i = slice_index_or row i Null

-- the value of an operand; what is not there is null
abbrev pub value_of : Places → List Value → Operand → Value
value_of rows args (Column c) = value_in (place rows c.item) c.position
value_of rows args (Lit v) = v
value_of rows args (Param i) = slice_index_or args i Null
