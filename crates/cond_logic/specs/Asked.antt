-- What statements ask for, without where it lies in memory.
use Rattle.std.specs.Prelude.{ℕ, List, Option, Some, None, map}
use Rattle.pg_values.specs.declared.value.Kind.{Kind}
use Rattle.pg_values.specs.declared.value.Value.{Value}
use Rattle.cond_logic.specs.Scalars.{ScalarTree, scalar_tree}
use Rattle.cond_logic.specs.Trees.{CondTree, cond_tree}
use Rattle.cond_logic.specs.declared.cond.Cond.{Cond}
use Rattle.cond_logic.specs.declared.change.ChangeAsk.{ChangeAsk}
use Rattle.cond_logic.specs.declared.change.Setting.{Setting}
use Rattle.cond_logic.specs.declared.insert.InsertAsk.{InsertAsk}
use Rattle.cond_logic.specs.declared.select.Output.{Output}
use Rattle.cond_logic.specs.declared.select.SelectAsk.{SelectAsk}
use Rattle.cond_logic.specs.declared.select.SortKey.{SortKey}

-- an output column
pub record OutputTree : Type 0 where
  pub name : List ℕ
  pub kind : Kind
  pub value : ScalarTree

abbrev pub output_tree : Output → OutputTree
output_tree o = record { name = o.name; kind = o.kind; value = scalar_tree o.value }

-- a SELECT
pub record SelectMeant : Type 0 where
  pub outputs : List OutputTree
  pub conditions : List CondTree
  pub order : List SortKey
  pub limit : Option ℕ
  pub offset : Option ℕ

abbrev pub select_meant : SelectAsk → SelectMeant
select_meant a = record { outputs = map output_tree a.outputs; conditions = map cond_tree a.conditions; order = a.order; limit = a.limit; offset = a.offset }

-- an INSERT
pub record InsertMeant : Type 0 where
  pub columns : List ℕ
  pub rows : List (List Value)

abbrev pub insert_meant : InsertAsk → InsertMeant
insert_meant a = record { columns = a.columns; rows = a.rows }

-- a column by its place, and its new value
pub record SettingMeant : Type 0 where
  pub column : ℕ
  pub value : ScalarTree

abbrev pub setting_meant : Setting → SettingMeant
setting_meant s = record { column = s.column; value = scalar_tree s.value }

-- an UPDATE or a DELETE
pub record ChangeMeant : Type 0 where
  pub settings : List SettingMeant
  pub condition : Option CondTree

abbrev pub maybe_cond : Option Cond → Option CondTree
maybe_cond None = None
maybe_cond (Some c) = Some (cond_tree c)

abbrev pub change_meant : ChangeAsk → ChangeMeant
change_meant a = record { settings = map setting_meant a.settings; condition = maybe_cond a.condition }
