use Rattle.sql_shell.proofs.kept_partitions.push_kept.Given as goal

abbrev pub ghosts-kept_by : goal.ghosts-kept_by
ghosts-kept_by a = record { name = a.blank.name; parts = a.blank.parts }
