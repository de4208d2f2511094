use Rattle.stores.proofs.Calls.{begun_adds, begun_adds_good}
use Rattle.stores.proofs.stores.Stores.begin.Goals as goal

pub returns-clause-added : goal.returns-clause-added
returns-clause-added c = begun_adds c.args.self.now c.begin.new.self c.args.session c.begin.result c.begin.ensures.added c.begin.ensures.number

pub returns-clause-good : goal.returns-clause-good
returns-clause-good c = begun_adds_good c.args.self.now c.begin.new.self c.args.session c.begin.result c.begin.ensures.added c.begin.ensures.number
