-- A SELECT by places and values, or its first fault (SELECT).
use Rattle.std.specs.Prelude.{ℕ, List, [], ◌++◌, Option, map, Result}
use Rattle.pg_values.specs.declared.fault.Fault.{Fault}
use Rattle.refusals.specs.Refusals.{negative_limit, negative_offset}
use Rattle.cond_logic.specs.Trees.{CondTree}
use Rattle.sql_ast.specs.Queries.{Joined, SelectTree, selected}
use Rattle.expression_binder.specs.declared.scope.Param.{Param}
use Rattle.expression_binder.specs.Firsts.{or_first, fault_in}
use Rattle.expression_binder.specs.Scopes.{Item, Scope, condition_scope}
use Rattle.sql_binder.specs.Counts.{count, count_faults, or_none}
use Rattle.sql_binder.specs.From.{from_faults, all_conditions, condition_faults, condition_constants, condition_meanings}
use Rattle.sql_binder.specs.Items.{in_a_select_list, list_faults, list_constants, list_headings, list_outputs}
use Rattle.sql_binder.specs.Keys.{keys_faults, keys_constants, sort_keys}
use Rattle.cond_logic.specs.Asked.{OutputTree, SelectMeant}
use Rattle.cond_logic.specs.declared.select.SortKey.{SortKey}

-- ---- scopes

abbrev pub list_scope : List Item → List Param → ℕ → Scope
list_scope items params session = record { items = items; params = params; session = session; allowed = in_a_select_list items }

-- columns have no place in LIMIT and OFFSET
abbrev pub without_columns : Item → Item
without_columns item = record { name = item.name; number = item.number; columns = [] }

abbrev pub count_scope : List Item → List Param → ℕ → Scope
count_scope items params session = condition_scope (map without_columns items) params session

-- ---- the parts of what it asks for

abbrev pub Front : Type 0
Front = (List OutputTree) × (List CondTree)

abbrev pub Tail : Type 0
Tail = (List SortKey) × (Option ℕ × Option ℕ)

-- ---- faults, in the order in which they are told

abbrev pub name_faults : List Item → List Param → ℕ → SelectTree → List Fault
name_faults items params session (selected ls from cond keys limit offset) =
    (list_faults (list_scope items params session) ls
    ++ condition_faults params session (all_conditions items from cond))
    ++ (keys_faults (list_scope items params session) (list_headings items ls) keys
    ++ (count_faults (count_scope items params session) limit
    ++ count_faults (count_scope items params session) offset))

abbrev pub constant_faults : List Item → List Param → ℕ → SelectTree → List Fault
constant_faults items params session (selected ls from cond keys limit offset) =
    (list_constants (list_scope items params session) ls
    ++ condition_constants params session (all_conditions items from cond))
    ++ (keys_constants keys
    ++ (fault_in (count negative_limit (count_scope items params session) limit)
    ++ fault_in (count negative_offset (count_scope items params session) offset)))

abbrev pub from_of : SelectTree → List Joined
from_of (selected ls from cond keys limit offset) = from

abbrev pub select_faults : List Item → List Param → ℕ → SelectTree → List Fault
select_faults items params session t = from_faults (from_of t) ++ (name_faults items params session t ++ constant_faults items params session t)

abbrev pub meaning : List Item → List Param → ℕ → SelectTree → SelectMeant
meaning items params session (selected ls from cond keys limit offset) = record {
  outputs = list_outputs (list_scope items params session) ls;
  conditions = condition_meanings params session (all_conditions items from cond);
  order = sort_keys (list_scope items params session) (list_headings items ls) keys;
  limit = or_none (count negative_limit (count_scope items params session) limit);
  offset = or_none (count negative_offset (count_scope items params session) offset);
}

abbrev pub bound_select : List Item → List Param → ℕ → SelectTree → Result SelectMeant Fault
bound_select items params session t = or_first (select_faults items params session t) (meaning items params session t)
