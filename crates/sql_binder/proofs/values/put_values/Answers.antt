use Rattle.cond_logic.specs.Asked.{select_meant}
use Rattle.sql_binder.proofs.WithoutParams.{none_put}
use Rattle.sql_binder.proofs.values.put_values.Goals as goal

pub returns-then-is_empty-clause-values : goal.returns-then-is_empty-clause-values
returns-then-is_empty-clause-values c = none_put c.is_empty.result c.args.params.now (select_meant c.args.ask) c.is_empty.ensures c.if-is_empty.true
