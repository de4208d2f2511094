use Rattle.select_statement.proofs.Custom.{custom_selects, custom_explains, custom_cancels}
use Rattle.select_statement.proofs.laws.custom_selects_are_as_written_out.Goals as goal

pub returns-clause-selects : goal.returns-clause-selects
returns-clause-selects c = custom_selects

pub returns-clause-explains : goal.returns-clause-explains
returns-clause-explains c = custom_explains

pub returns-clause-cancels : goal.returns-clause-cancels
returns-clause-cancels c = custom_cancels
