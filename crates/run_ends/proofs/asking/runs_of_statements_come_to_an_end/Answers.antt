use Rattle.run_ends.proofs.asking.runs_of_statements_come_to_an_end.Goals as goal

pub returns : goal.returns
returns c o n ps few known = c.statements_come_to_an_end.ensures o n ps few known
