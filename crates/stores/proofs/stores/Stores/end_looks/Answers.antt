use Rattle.std.proofs.Common.{◌++◌}
use Rattle.stores.specs.Events.{withdrawn}
use Rattle.stores.proofs.stores.Stores.end_looks.Goals as goal

pub returns-clause-added : goal.returns-clause-added
returns-clause-added c h st = c.let_go.ensures.added (withdrawn c.args.session ++ h) (c.withdraw.ensures.added h st)

pub returns-clause-good : goal.returns-clause-good
returns-clause-good c h st = c.let_go.ensures.good (withdrawn c.args.session ++ h) (c.withdraw.ensures.good h st)
