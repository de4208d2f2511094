use Rattle.run_ends.proofs.asking.RunStatementsAskingStatements.ask.Goals as goal

pub returns : goal.returns
returns c = c.statements_ask.ensures
