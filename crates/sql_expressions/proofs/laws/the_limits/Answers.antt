use Rattle.sql_expressions.proofs.RuleLimits.{all, within}
use Rattle.sql_expressions.proofs.laws.the_limits.Goals as goal

pub returns-clause-within : goal.returns-clause-within
returns-clause-within c text tokens tree there w = within text tokens tree there w

pub returns-clause-all : goal.returns-clause-all
returns-clause-all c text tokens tree w = all text tokens tree w
