-- The words of the limits.
use Rattle.std.specs.Prelude.{ℕ, List, codes}
use Rattle.pg_values.specs.declared.which.Which.{Which}
use Rattle.pg_values.specs.declared.which.Which.TheVariants.{Statements, Tables, Columns, KeyColumns, TablesInFrom, Partitions, Levels, BytesOfAName, BytesOfAText, NestedExpressions, Versions, BytesOfRows, Tuples, BytesOfTuples, Scans, Commands, Sessions, Steps, Permutations, SetupBlocks, Uses, Markers}

-- what a limit counts, as a fault tells it
abbrev pub which_word : Which → List ℕ
which_word Statements = codes "statements"
which_word Tables = codes "tables"
which_word Columns = codes "columns"
which_word KeyColumns = codes "key columns"
which_word TablesInFrom = codes "tables in FROM"
which_word Partitions = codes "partitions"
which_word Levels = codes "levels"
which_word BytesOfAName = codes "bytes of a name"
which_word BytesOfAText = codes "bytes of a text"
which_word NestedExpressions = codes "nested expressions"
which_word Versions = codes "versions"
which_word BytesOfRows = codes "bytes of rows"
which_word Tuples = codes "tuples"
which_word BytesOfTuples = codes "bytes of tuples"
which_word Scans = codes "scans"
which_word Commands = codes "commands"
which_word Sessions = codes "sessions"
which_word Steps = codes "steps"
which_word Permutations = codes "permutations"
which_word SetupBlocks = codes "setup blocks"
which_word Uses = codes "uses"
which_word Markers = codes "markers"
