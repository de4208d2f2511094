-- FROM: how many items there may be, their names, and the conditions of ON (7.2.1 The FROM Clause).
use Rattle.std.specs.Prelude.{ℕ, ◌+◌, nat_le, if◌then◌else◌, List, [], ◌∷◌, ◌++◌, Option, Some, None, map, length, take, drop}
use Rattle.std.specs.List.{list_any}
use Rattle.std.specs.Str.{bytes_eq}
use Rattle.pg_values.specs.declared.fault.Fault.{Fault}
use Rattle.pg_values.specs.declared.which.Which.TheVariants.{TablesInFrom}
use Rattle.refusals.specs.Refusals.{too_many, name_twice}
use Rattle.sql_ast.specs.Expressions.{Tree}
use Rattle.sql_ast.specs.Queries.{Joined}
use Rattle.cond_logic.specs.Trees.{CondTree}
use Rattle.expression_binder.specs.declared.scope.Param.{Param}
use Rattle.expression_binder.specs.Conditions.{cond_faults}
use Rattle.expression_binder.specs.Firsts.{unless}
use Rattle.expression_binder.specs.Meanings.{constant_faults, meaning}
use Rattle.expression_binder.specs.Scopes.{Item, condition_scope}

-- at most four items
abbrev pub count_faults : List Joined → List Fault
count_faults from = unless (nat_le (length from) 4) (too_many TablesInFrom)

-- an alias hides the table's name
abbrev pub name_or : List ℕ → Option (List ℕ) → List ℕ
name_or name None = name
name_or name (Some alias) = alias

abbrev pub item_name : Joined → List ℕ
item_name j = name_or j.0.name j.0.alias

-- no earlier item has the name
abbrev pub once_faults : (earlier : List (List ℕ)) → List ℕ → List Fault
once_faults earlier n = if list_any (bytes_eq n) earlier then name_twice n ∷ [] else []

abbrev pub twice_faults : (earlier names : List (List ℕ)) → List Fault
twice_faults earlier [] = []
twice_faults earlier (n ∷ ns) = once_faults earlier n ++ twice_faults (earlier ++ n ∷ []) ns

abbrev pub from_faults : List Joined → List Fault
from_faults from = count_faults from ++ twice_faults [] (map item_name from)

-- ---- ON

-- of an item and those that it is joined with so far
abbrev pub joined_items : List Item → (start last : ℕ) → List Item
joined_items items start last = drop start (take (last + 1) items)

-- a comma begins anew
abbrev pub start_of : (start place : ℕ) → Option Tree → ℕ
start_of start place None = place
start_of start place (Some t) = start

abbrev pub on_condition : List Item → (start place : ℕ) → Option Tree → List (List Item × Tree)
on_condition items start place None = []
on_condition items start place (Some t) = (joined_items items start place, t) ∷ []

-- the conditions of ON, each with the items that it may name
abbrev pub on_conditions : List Item → (start place : ℕ) → List Joined → List (List Item × Tree)
on_conditions items start place [] = []
on_conditions items start place (j ∷ js) = on_condition items start place j.1 ++ on_conditions items (start_of start place j.1) (place + 1) js

-- and that of WHERE behind them, with all items
abbrev pub all_conditions : List Item → List Joined → Option Tree → List (List Item × Tree)
all_conditions items from None = on_conditions items 0 0 from
all_conditions items from (Some t) = on_conditions items 0 0 from ++ (items, t) ∷ []

abbrev pub condition_faults : List Param → ℕ → List (List Item × Tree) → List Fault
condition_faults params session [] = []
condition_faults params session (c ∷ cs) = cond_faults (condition_scope c.0 params session) c.1 ++ condition_faults params session cs

abbrev pub condition_constants : List Param → ℕ → List (List Item × Tree) → List Fault
condition_constants params session [] = []
condition_constants params session (c ∷ cs) = constant_faults (condition_scope c.0 params session) c.1 ++ condition_constants params session cs

abbrev pub condition_meanings : List Param → ℕ → List (List Item × Tree) → List CondTree
condition_meanings params session [] = []
condition_meanings params session (c ∷ cs) = meaning (condition_scope c.0 params session) c.1 ∷ condition_meanings params session cs
