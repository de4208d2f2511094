-- Commands that are none of those before them.
use Rattle.std.specs.Prelude.{◌≡◌, ℕ, Bool, List, Option}
use Rattle.sql_ast.specs.declared.bound.BoundText.{BoundText}
use Rattle.sql_ast.specs.declared.command.Command.{Command}
use Rattle.sql_ast.specs.declared.command.Command.TheVariants.{Attach, CreatePartition, CreateTable, Detach, DropTables}
use Rattle.sql_ast.specs.declared.detachment.Detachment.{Detachment}
use Rattle.sql_ast.specs.declared.table_definition.ColumnDefinition.{ColumnDefinition}
use Rattle.sql_ast.specs.declared.table_definition.Partitioning.{Partitioning}

-- it makes and drops no table
abbrev pub MakesNoTable : Command → Type 0
MakesNoTable t =
    ((name : List ℕ) (columns : List ColumnDefinition) (by : Option Partitioning) → t ≡ CreateTable name columns by → ⊥)
    × ((name parent : List ℕ) (bound : BoundText) (by : Option Partitioning) → t ≡ CreatePartition name parent bound by → ⊥)
    × ((if_there : Bool) (tables : List (List ℕ)) → t ≡ DropTables if_there tables → ⊥)

-- it alters none
abbrev pub AltersNoTable : Command → Type 0
AltersNoTable t =
    ((parent name : List ℕ) (bound : BoundText) → t ≡ Attach parent name bound → ⊥)
    × ((parent name : List ℕ) (how : Detachment) → t ≡ Detach parent name how → ⊥)
