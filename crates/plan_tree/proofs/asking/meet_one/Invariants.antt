use Rattle.plan_tree.proofs.asking.meet_one.Given as goal

-- the ledger is the one that the blank names
abbrev pub ghosts-run_one : goal.ghosts-run_one
ghosts-run_one a = record { name = a.blank.name; parts = a.blank.parts }
