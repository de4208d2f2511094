use Rattle.table_binder.proofs.CheckedLaws.{answer_of_level}
use Rattle.table_binder.proofs.check.check_bound.Goals as goal

pub returns-clause-of_level : goal.returns-clause-of_level
returns-clause-of_level c = answer_of_level c.args.level.now c.args.raw.now c.check_at.result c.check_at.ensures
