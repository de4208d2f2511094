-- Statements that are left out, and the word that each is told by (VI. SQL Commands).
use Rattle.std.specs.Prelude.{ℕ, List, codes}
use Rattle.sql_ast.specs.Commands.{CommandTree, begins, commits, rolls_back, sets, resets, makes_table, makes_partition, drops, attaches, detaches, locks, deallocates, deallocates_all}

-- ---- the first word of a statement

abbrev pub command_word : CommandTree → List ℕ
command_word (begins level) = codes "BEGIN"
command_word commits = codes "COMMIT"
command_word rolls_back = codes "ROLLBACK"
command_word (sets name value) = codes "SET"
command_word (resets name) = codes "RESET"
command_word (makes_table name columns by) = codes "CREATE"
command_word (makes_partition name parent bound by) = codes "CREATE"
command_word (drops if_there names) = codes "DROP"
command_word (attaches parent name bound) = codes "ALTER"
command_word (detaches parent name how) = codes "ALTER"
command_word (locks tables mode) = codes "LOCK"
command_word (deallocates name) = codes "DEALLOCATE"
command_word deallocates_all = codes "DEALLOCATE"
