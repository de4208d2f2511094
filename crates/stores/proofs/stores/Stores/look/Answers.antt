use Rattle.stores.proofs.Calls.{look_is_past, look_read}
use Rattle.stores.proofs.stores.Stores.look.Goals as goal

pub returns-clause-past : goal.returns-clause-past
returns-clause-past c h st = look_is_past c.args.self.now.txs h c.args.session c.args.cmd st

pub returns-in_err-snap-clause-past : goal.returns-in_err-snap-clause-past
returns-in_err-snap-clause-past c h st = look_is_past c.args.self.now.txs h c.args.session c.args.cmd st

pub returns-clause-read : goal.returns-clause-read
returns-clause-read c h st good = look_read c.args.self.now.txs h c.args.session c.args.cmd c.requires st good

pub returns-in_err-snap-clause-read : goal.returns-in_err-snap-clause-read
returns-in_err-snap-clause-read c h st good = look_read c.args.self.now.txs h c.args.session c.args.cmd c.requires st good
