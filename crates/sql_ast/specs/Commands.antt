-- Commands as trees, without where they lie in memory (VI. SQL Commands).
use Rattle.std.specs.Prelude.{ℕ, Bool, List, Option, map}
use Rattle.pg_values.specs.declared.lock_mode.LockMode.{LockMode}
use Rattle.sql_ast.specs.Expressions.{Tree, Trees, tree, trees}
use Rattle.sql_ast.specs.declared.bound.BoundText.{BoundText}
use Rattle.sql_ast.specs.declared.bound.BoundText.TheVariants as bounds
use Rattle.sql_ast.specs.declared.bound.EdgeText.{EdgeText}
use Rattle.sql_ast.specs.declared.bound.EdgeText.TheVariants as edges
use Rattle.sql_ast.specs.declared.command.Command.{Command}
use Rattle.sql_ast.specs.declared.command.Command.TheVariants as commands
use Rattle.sql_ast.specs.declared.detachment.Detachment.{Detachment}
use Rattle.pg_values.specs.declared.isolation.Isolation.{Isolation}
use Rattle.sql_ast.specs.declared.locked_table.LockedTable.{LockedTable}
use Rattle.sql_ast.specs.declared.setting_value.SettingValue.{SettingValue}
use Rattle.sql_ast.specs.declared.table_definition.ColumnDefinition.{ColumnDefinition}
use Rattle.sql_ast.specs.declared.table_definition.Partitioning.{Partitioning}

-- an edge of a range
pub data Edge : Type 0 where
  min : Edge
  max : Edge
  at : Tree → Edge

-- a partition bound: FROM and TO, IN, MODULUS and REMAINDER, or DEFAULT
pub data Bound : Type 0 where
  range : List Edge → List Edge → Bound
  listed : Trees → Bound
  hash : ℕ → ℕ → Bound
  other : Bound

-- a statement that reads and changes no rows
pub data CommandTree : Type 0 where
  begins : Option Isolation → CommandTree
  commits : CommandTree
  rolls_back : CommandTree
  sets : List ℕ → SettingValue → CommandTree
  resets : List ℕ → CommandTree
  makes_table : List ℕ → List ColumnDefinition → Option Partitioning → CommandTree
  makes_partition : List ℕ → List ℕ → Bound → Option Partitioning → CommandTree
  drops : Bool → List (List ℕ) → CommandTree
  attaches : List ℕ → List ℕ → Bound → CommandTree
  detaches : List ℕ → List ℕ → Detachment → CommandTree
  locks : List LockedTable → LockMode → CommandTree
  deallocates : List ℕ → CommandTree
  deallocates_all : CommandTree

-- the trees of what the code holds
abbrev pub edge_tree : EdgeText → Edge
edge_tree edges.MinValue = min
edge_tree edges.MaxValue = max
edge_tree (edges.Value e) = at (tree e)

abbrev pub edges_of : List EdgeText → List Edge
edges_of = map edge_tree

abbrev pub bound_tree : BoundText → Bound
bound_tree (bounds.Range from to) = range (edges_of from) (edges_of to)
bound_tree (bounds.List list) = listed (trees list)
bound_tree (bounds.Hash modulus remainder) = hash modulus remainder
bound_tree bounds.Default = other

abbrev pub command_tree : Command → CommandTree
command_tree (commands.Begin isolation) = begins isolation
command_tree commands.Commit = commits
command_tree commands.Rollback = rolls_back
command_tree (commands.Set name value) = sets name value
command_tree (commands.Reset name) = resets name
command_tree (commands.CreateTable name columns by) = makes_table name columns by
command_tree (commands.CreatePartition name parent bound by) = makes_partition name parent (bound_tree bound) by
command_tree (commands.DropTables if_there names) = drops if_there names
command_tree (commands.Attach parent name bound) = attaches parent name (bound_tree bound)
command_tree (commands.Detach parent name how) = detaches parent name how
command_tree (commands.Lock tables mode) = locks tables mode
command_tree (commands.Deallocate name) = deallocates name
command_tree commands.DeallocateAll = deallocates_all
